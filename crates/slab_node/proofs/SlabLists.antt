-- Lemmas on the list of slabs.
use Rattle.std.specs.Prelude.{MatchOption, is_some, IsNone, IfSome}
use Rattle.std.specs.Option.{option_map_or}
use Rattle.std.proofs.Common.{Option, Some, None, ◌≡◌, ◌≢◌, ◌≤◌, ◌<◌, ℕ, zero, suc, Bool, true, false, ◌&&◌, List, [], ◌∷◌, ◌++◌, length, set, get_or, nat_eq, nat_lt, eqb-true, refl, sym, ◌∙◌, ap, subst, arith, length-append, length-set}
use Rattle.std.proofs.lemmas.Bool.{true≢false, ltb-true, ltb-false}
use Rattle.std.proofs.lemmas.List.{get_or-set_same, get_or-set_other, set-get_or}
use Rattle.std.proofs.Math.ListN.{get_or-append}
use Rattle.std.proofs.Math.Seq.{get_or-append_seam}
use Rattle.rm_base.specs.declared.places.Addr.{Addr}
use Rattle.slab_node.specs.Free.{is_free, AllTaken, IsFirstFree, count_free}
use Rattle.slab_node.proofs.Counts.{count_none}
use Rattle.slab_node.specs.Slab.{SlabState, IsSlab, took, gave_back}
use Rattle.slab_node.specs.Slabs.{no_slab, slab_at, AreSlabs, IsNew, AreNew, has_room, NoRoom, IsLeastSlot, IsSlotOf, took_at, gave_back_at, with_slab}

pub get_or_default : (xs : List SlabState) (i : ℕ) (d e : SlabState) → i < length xs → get_or xs i d ≡ get_or xs i e
get_or_default [] i d e h = absurd (omega arith)
get_or_default (x ∷ xs) zero d e h = refl
get_or_default (x ∷ xs) (suc i) d e h = get_or_default xs i d e (omega arith)

get_or_past : (xs : List SlabState) (i : ℕ) (d : SlabState) → length xs ≤ i → get_or xs i d ≡ d
get_or_past [] i d h = refl
get_or_past (x ∷ xs) zero d h = absurd (omega arith)
get_or_past (x ∷ xs) (suc i) d h = get_or_past xs i d (omega arith)

pub no_slabs : AreSlabs []
no_slabs = record { few = omega arith; numbered = λ i h. absurd (omega arith); sizes = λ i h. absurd (omega arith); whole = λ i h. absurd (omega arith) }

-- what holds of each slab, also of one more
each_more : (P : ℕ → SlabState → Type 0) (xs : List SlabState) (S : SlabState) → ((i : ℕ) → i < length xs → P i (slab_at xs i)) → P (length xs) S
    → (i : ℕ) → i < length (xs ++ S ∷ []) → P i (slab_at (xs ++ S ∷ []) i)
each_more P xs S all one i within = by (nat_lt i (length xs)) refl
  where
    by : (b : Bool) → nat_lt i (length xs) ≡ b → P i (slab_at (xs ++ S ∷ []) i)
    by true h =
        let less : i < length xs = ltb-true i (length xs) h in
        subst (λ (T : SlabState). P i T) (sym (get_or-append xs (S ∷ []) no_slab i less)) (all i less)
    by false h =
        let more : length xs ≤ i = ltb-false i (length xs) h in
        let here : i ≡ length xs = omega (arith, length-append xs (S ∷ [])) in
        subst (λ (k : ℕ). P k (slab_at (xs ++ S ∷ []) k)) (sym here) (subst (λ (T : SlabState). P (length xs) T) (sym (get_or-append_seam xs S [] no_slab)) one)

pub one_more_slab : (xs : List SlabState) (S : SlabState) → AreSlabs xs → S.id ≡ length xs → IsSlab S → length S.pages < 65536 → length xs < 16 → AreSlabs (xs ++ S ∷ [])
one_more_slab xs S old number whole size room =
    record {
      few = omega (arith, length-append xs (S ∷ []));
      numbered = each_more (λ i T. T.id ≡ i) xs S old.numbered number;
      sizes = each_more (λ i T. length T.pages < 65536) xs S old.sizes size;
      whole = each_more (λ i T. IsSlab T) xs S old.whole whole;
    }

pub one_more_new : (xs : List SlabState) (S : SlabState) (slots : ℕ) → AreNew xs slots → IsNew slots S → AreNew (xs ++ S ∷ []) slots
one_more_new xs S slots old new = each_more (λ i T. IsNew slots T) xs S old new

-- what holds of each slab, also where one of them changes
each_set : (P : ℕ → SlabState → Type 0) (xs : List SlabState) (k : ℕ) (S : SlabState) → ((i : ℕ) → i < length xs → P i (slab_at xs i)) → P k S
    → (i : ℕ) → i < length (set xs k S) → P i (slab_at (set xs k S) i)
each_set P xs k S all one i within = by (nat_eq i k) refl
  where
    less : i < length xs
    less = subst (λ (n : ℕ). i < n) (length-set {A = SlabState} xs k S) within

    by : (b : Bool) → nat_eq i k ≡ b → P i (slab_at (set xs k S) i)
    by true h =
        let here : i ≡ k = eqb-true i k h in
        let inside : k < length xs = subst (λ (n : ℕ). n < length xs) here less in
        subst (λ (n : ℕ). P n (slab_at (set xs k S) n)) (sym here) (subst (λ (T : SlabState). P k T) (sym (get_or-set_same xs k S no_slab inside)) one)
    by false h =
        let apart : i ≢ k = grind (arith, h) in
        subst (λ (T : SlabState). P i T) (sym (get_or-set_other xs k i S no_slab apart)) (all i less)

pub slabs_set : (xs : List SlabState) (k : ℕ) (S : SlabState) → AreSlabs xs → S.id ≡ k → IsSlab S → length S.pages < 65536 → AreSlabs (set xs k S)
slabs_set xs k S old number whole size =
    record {
      few = subst (λ (n : ℕ). n ≤ 16) (sym (length-set {A = SlabState} xs k S)) old.few;
      numbered = each_set (λ i T. T.id ≡ i) xs k S old.numbered number;
      sizes = each_set (λ i T. length T.pages < 65536) xs k S old.sizes size;
      whole = each_set (λ i T. IsSlab T) xs k S old.whole whole;
    }

pub slabs_took : (xs : List SlabState) (k s : ℕ) → AreSlabs xs → k < length xs → AreSlabs (set xs k (took (slab_at xs k) s))
slabs_took xs k s old inside = slabs_set xs k (took (slab_at xs k) s) old (old.numbered k inside) (length-set {A = Bool} (slab_at xs k).taken s true ∙ old.whole k inside) (old.sizes k inside)

pub slabs_gave_back : (xs : List SlabState) (k s : ℕ) → AreSlabs xs → k < length xs → AreSlabs (set xs k (gave_back (slab_at xs k) s))
slabs_gave_back xs k s old inside = slabs_set xs k (gave_back (slab_at xs k) s) old (old.numbered k inside) (length-set {A = Bool} (slab_at xs k).taken s false ∙ old.whole k inside) (old.sizes k inside)

-- a slab all of whose slots are taken has none free
no_count : (taken : List Bool) → AllTaken taken → count_free taken ≡ 0
no_count [] all = refl
no_count (true ∷ taken) all = let more = no_count taken (λ s. all (suc s)) in omega arith
no_count (false ∷ taken) all = absurd (true≢false (all 0))

pub none_free : (taken : List Bool) → AllTaken taken → nat_lt 0 (count_free taken) ≡ false
none_free taken all = ap (λ (n : ℕ). nat_lt 0 n) (no_count taken all)

-- a slot that is free is one of the slab's
pub free_within : (taken : List Bool) (s : ℕ) → is_free taken s ≡ true → s < length taken
free_within [] s h = absurd cc
free_within (t ∷ taken) zero h = omega arith
free_within (t ∷ taken) (suc s) h = let more = free_within taken s h in omega arith

set_twice : (xs : List SlabState) (i : ℕ) (S T : SlabState) → set (set xs i S) i T ≡ set xs i T
set_twice [] i S T = refl
set_twice (x ∷ xs) zero S T = refl
set_twice (x ∷ xs) (suc i) S T = ap (λ (rest : List SlabState). x ∷ rest) (set_twice xs i S T)

bit_back : (taken : List Bool) (s : ℕ) → is_free taken s ≡ true → set (set taken s true) s false ≡ taken
bit_back [] s h = absurd cc
bit_back (true ∷ taken) zero h = absurd cc
bit_back (false ∷ taken) zero h = refl
bit_back (t ∷ taken) (suc s) h = ap (λ (rest : List Bool). t ∷ rest) (bit_back taken s h)

with_taken : SlabState → List Bool → SlabState
with_taken S taken = record { id = S.id; incarnation = S.incarnation; up = S.up; pages = S.pages; taken = taken }

-- a free slot that was taken and is given back is as if it had not been taken
pub took_back : (xs : List SlabState) (a : Addr) → a.slab < length xs → is_free (slab_at xs a.slab).taken a.slot ≡ true → gave_back_at (took_at xs a) a ≡ xs
unfolding with_taken
took_back xs a inside free =
    let S : SlabState = slab_at xs a.slab in
    let here : slab_at (took_at xs a) a.slab ≡ took S a.slot = get_or-set_same xs a.slab (took S a.slot) no_slab inside in
    ap (λ (T : SlabState). set (took_at xs a) a.slab (gave_back T a.slot)) here
    ∙ set_twice xs a.slab (took S a.slot) (gave_back (took S a.slot) a.slot)
    ∙ ap (λ (taken : List Bool). set xs a.slab (with_taken S taken)) (bit_back S.taken a.slot free)
    ∙ set-get_or xs a.slab no_slab

-- after the slot was taken its slab is up in the same incarnation, with as many slots
pub took_there : (xs : List SlabState) (a : Addr) → a.slab < length xs → slab_at (took_at xs a) a.slab ≡ took (slab_at xs a.slab) a.slot
took_there xs a inside = get_or-set_same xs a.slab (took (slab_at xs a.slab) a.slot) no_slab inside

pub room_at : (xs : List SlabState) (i : ℕ) (S : SlabState) → i < length xs → S ≡ get_or xs i S → has_room (slab_at xs i) ≡ has_room S
room_at xs i S within is = ap has_room (get_or_default xs i no_slab S within ∙ sym is)

-- past the last slab there is none
pub room_past : (xs : List SlabState) (i : ℕ) → length xs ≤ i → has_room (slab_at xs i) ≡ false
room_past xs i past = ap has_room (get_or_past xs i no_slab past)

up_with : (b c : Bool) → (b && c) ≡ true → (b ≡ true) × (c ≡ true)
up_with true c h = (refl, h)
up_with false c h = absurd cc

-- a slab with room gives a slot
pub room_gives : (S : SlabState) (o : Option Addr) → has_room S ≡ true → (S.up ≡ true → MatchOption o (AllTaken S.taken) (λ a. IsFirstFree S.taken a.slot)) → is_some o ≡ false → ⊥
room_gives S None room least none =
    let parts = up_with S.up (nat_lt 0 (count_free S.taken)) room in
    true≢false (sym parts.1 ∙ none_free S.taken (least parts.0))
room_gives S (Some a) room least none = true≢false none

pub took_slot_of : (xs : List SlabState) (a : Addr) → IsLeastSlot xs a → IsSlotOf (took_at xs a) a
took_slot_of xs a least =
    let there = took_there xs a least.slab in
    record {
      slab = subst (λ (n : ℕ). a.slab < n) (sym (length-set {A = SlabState} xs a.slab (took (slab_at xs a.slab) a.slot))) least.slab;
      up = ap (λ (S : SlabState). S.up) there ∙ least.up;
      incarnation = least.incarnation ∙ sym (ap (λ (S : SlabState). S.incarnation) there);
      within = subst (λ (n : ℕ). a.slot < n) (sym (ap (λ (S : SlabState). length S.pages) there)) least.within;
    }

free_room : (S : SlabState) (s : ℕ) → S.up ≡ true → is_free S.taken s ≡ true → has_room S ≡ true
free_room S s up free = by (nat_lt 0 (count_free S.taken)) refl
  where
    by : (b : Bool) → nat_lt 0 (count_free S.taken) ≡ b → has_room S ≡ true
    by true h = rw (up, h) refl
    by false h =
        let empty : count_free S.taken ≡ 0 = grind (arith, h) in
        absurd (true≢false (sym free ∙ count_none S.taken s empty))

-- two least numbers at which f holds are one
same_least : (f : ℕ → Bool) (k j : ℕ) → f k ≡ true → ((i : ℕ) → i < k → f i ≡ false) → f j ≡ true → ((i : ℕ) → i < j → f i ≡ false) → j ≡ k
same_least f k j at_k below_k at_j below_j = by (nat_lt j k) refl (nat_lt k j) refl
  where
    by : (b : Bool) → nat_lt j k ≡ b → (c : Bool) → nat_lt k j ≡ c → j ≡ k
    by true hb c hc = absurd (true≢false (sym at_j ∙ below_k j (ltb-true j k hb)))
    by false hb true hc = absurd (true≢false (sym at_k ∙ below_j k (ltb-true k j hc)))
    by false hb false hc =
        let one : k ≤ j = ltb-false j k hb in
        let other : j ≤ k = ltb-false k j hc in
        omega arith

-- the slot that is taken is the least one
pub took_least : (xs ys : List SlabState) (o : Option Addr) (a : Addr) → IsLeastSlot xs a → (IsNone o → NoRoom xs) → IfSome o (IsLeastSlot xs) → ys ≡ option_map_or (took_at xs) o xs → ys ≡ took_at xs a
took_least xs ys None a least none some taken =
    absurd (true≢false (sym (free_room (slab_at xs a.slab) a.slot least.up least.slot.0) ∙ none refl a.slab))
took_least xs ys (Some b) a least none some taken =
    let slab : b.slab ≡ a.slab = same_least (λ i. has_room (slab_at xs i)) a.slab b.slab (free_room (slab_at xs a.slab) a.slot least.up least.slot.0) least.least
    (free_room (slab_at xs b.slab) b.slot some.up some.slot.0) some.least in
    let first : IsFirstFree (slab_at xs a.slab).taken b.slot = subst (λ (k : ℕ). IsFirstFree (slab_at xs k).taken b.slot) slab some.slot in
    let slot : b.slot ≡ a.slot = same_least (is_free (slab_at xs a.slab).taken) a.slot b.slot least.slot.0 least.slot.1 first.0 first.1 in
    taken ∙ ap (λ (k : ℕ). with_slab xs k (took (slab_at xs k) b.slot)) slab ∙ ap (λ (s : ℕ). with_slab xs a.slab (took (slab_at xs a.slab) s)) slot
