-- A search by halves among keys that ascend.
use Rattle.std.proofs.Common.{◌≡◌, ◌<◌, ◌+◌, ◌^◌, ◌≤◌, ◌*◌, ℕ, zero, suc, List, [], length, slice_index_or, slice_get, Some, sym, ◌∙◌, ap, subst, arith, inl, inr}
use Rattle.std.proofs.lemmas.Bool.{cases_lt}
use Rattle.std.proofs.lemmas.Nat.{pow-add}
use Rattle.std.proofs.Math.Nat.{mul-le-mul_right, pow-suc}
use Rattle.std.specs.declared.cmp.Ordering.TheVariants.{Less, Equal, Greater}
use Rattle.std.specs.Ordering.{ordering_reverse}
use Rattle.std.proofs.lemmas.Cmp.{nat_list_cmp_total, tied_itself}
use Rattle.std.proofs.lemmas.Option.{slice_get_within, get_or_from_slice_get}
use Rattle.page_view.specs.Keys.{key_cmp, Ascend, LessBelow, GreaterFrom, IsChildFor}

turned : (a b : List ℕ) → key_cmp a b ≡ Greater → key_cmp b a ≡ Less
turned a b e = nat_list_cmp_total.antisymm b a ∙ ap ordering_reverse e

turned_back : (a b : List ℕ) → key_cmp a b ≡ Less → key_cmp b a ≡ Greater
turned_back a b e = nat_list_cmp_total.antisymm b a ∙ ap ordering_reverse e

-- where the key at a place is less, each key up to it is
pub less_below : (keys : List (List ℕ)) (key : List ℕ) (m : ℕ) → Ascend keys → m < length keys
    → key_cmp (slice_index_or keys m []) key ≡ Less → LessBelow keys (m + 1) key
less_below keys key m asc inside e i h =
    elim (cases_lt i m) [
      | inl below ↦ nat_list_cmp_total.trans (slice_index_or keys i []) (slice_index_or keys m []) key (asc i m below inside) e
      | inr above ↦ let same : m ≡ i = omega arith in subst (λ (n : ℕ). key_cmp (slice_index_or keys n []) key ≡ Less) same e
    ]

-- where the key at a place is greater, each key from it on is
pub greater_from : (keys : List (List ℕ)) (key : List ℕ) (m : ℕ) → Ascend keys
    → key_cmp (slice_index_or keys m []) key ≡ Greater → GreaterFrom keys m key
greater_from keys key m asc e i h inside =
    elim (cases_lt m i) [
      | inl above ↦ turned_back key (slice_index_or keys i [])
          (nat_list_cmp_total.trans key (slice_index_or keys m []) (slice_index_or keys i []) (turned (slice_index_or keys m []) key e) (asc m i above inside))
      | inr below ↦ let same : m ≡ i = omega arith in subst (λ (n : ℕ). key_cmp (slice_index_or keys n []) key ≡ Greater) same e
    ]

-- a key that is there is the last that is not greater
pub child_found : (keys : List (List ℕ)) (key : List ℕ) (i : ℕ) → Ascend keys → slice_get keys i ≡ Some key → IsChildFor keys key i
child_found keys key i asc e =
    let inside : i < length keys = slice_get_within keys i key e in
    let here : slice_index_or keys i [] ≡ key = get_or_from_slice_get keys i key [] e in
    let same : key_cmp (slice_index_or keys i []) key ≡ Equal = ap (λ (k : List ℕ). key_cmp k key) here ∙ tied_itself nat_list_cmp_total key in (
      inside,
      (λ greater. apart (sym same ∙ greater)),
      λ j h within. turned_back key (slice_index_or keys j [])
          (ap (λ (k : List ℕ). key_cmp k (slice_index_or keys j [])) (sym here) ∙ asc i j (omega arith) within),
    )
  where
    apart : Equal ≡ Greater → ⊥
    apart q = cc

-- keys of which each is less than the next ascend
pub ascend_from : (keys : List (List ℕ))
    → ((k : ℕ) → k + 1 < length keys → key_cmp (slice_index_or keys k []) (slice_index_or keys (k + 1) []) ≡ Less) → Ascend keys
ascend_from keys next i zero h inside = absurd (omega arith)
ascend_from keys next i (suc j) h inside =
    let one : j + 1 ≡ suc j = omega arith in
    let step : key_cmp (slice_index_or keys j []) (slice_index_or keys (suc j) []) ≡ Less =
    subst (λ (n : ℕ). key_cmp (slice_index_or keys j []) (slice_index_or keys n []) ≡ Less) one (next j (omega arith)) in
    elim (cases_lt i j) [
      | inl before ↦ nat_list_cmp_total.trans (slice_index_or keys i []) (slice_index_or keys j []) (slice_index_or keys (suc j) [])
          (ascend_from keys next i j before (omega arith)) step
      | inr last ↦ let same : j ≡ i = omega arith in subst (λ (n : ℕ). key_cmp (slice_index_or keys n []) (slice_index_or keys (suc j) []) ≡ Less) same step
    ]

-- half as many places, after twice as many halvings
pub halved_again : (s t looks n : ℕ) → t * 2 ≤ s → s * 2 ^ looks ≤ n → t * 2 ^ (looks + 1) ≤ n
halved_again s t looks n h e =
    let p : ℕ = 2 ^ looks in
    let twice : 2 ^ (looks + 1) ≡ p * 2 = pow-add 2 looks 1 in
    let less : t * 2 * p ≤ s * p = mul-le-mul_right p h in
    let regrouped : t * (p * 2) ≡ t * 2 * p = regroup t p in
    rw twice (omega (arith, less, regrouped, e))
  where
    regroup : (t p : ℕ) → t * (p * 2) ≡ t * 2 * p
    regroup t p = grind arith

-- where a place is left, the halvings so far are few, and one more is
pub few_looks : (s looks n : ℕ) → 0 < s → s * 2 ^ looks ≤ n → (2 ^ looks ≤ n) × (2 ^ (looks + 1) ≤ 2 * n + 1)
few_looks s looks n h e =
    let p : ℕ = 2 ^ looks in
    let twice : 2 ^ (looks + 1) ≡ p * 2 = pow-add 2 looks 1 in
    let one : 1 * p ≤ s * p = mul-le-mul_right p h in
    (omega (arith, one, e), rw twice (omega (arith, one, e)))

-- a number is below its power of two
below_power : (n : ℕ) → n < 2 ^ n
below_power zero = omega arith
below_power (suc n) = let ih = below_power n in let twice : 2 ^ suc n ≡ 2 ^ n * 2 = pow-suc 2 n in omega (arith, ih, twice)

-- a count of halvings stays below what was halved
pub looks_below : (s looks n : ℕ) → 0 < s → s * 2 ^ looks ≤ n → looks < n
looks_below s looks n h e = let few = (few_looks s looks n h e).0 in let below = below_power looks in omega (arith, few, below)
