-- Lemmas on the first page and node.
use Rattle.std.proofs.Common.{◌≡◌, ◌≤◌, ◌<◌, ◌+◌, ◌-◌, ◌*◌, ℕ, Bool, true, false, ◌&&◌, ◌||◌, ◌⊎◌, inl, inr, List, [], ◌∷◌, ◌++◌, length, take, get_or, Option, Some, None, if◌then◌else◌, nat_eq, nat_le, nat_lt, eqb-true, refl, sym, ◌∙◌, ap, arith}
use Rattle.std.proofs.lemmas.Bool.{true≢false}
use Rattle.std.proofs.lemmas.List.{take_more}
use Rattle.page_latches.specs.Set.{has as has_node}
use Rattle.home_tables.specs.Numbers.{has, has_page, HasNone, IsLeast}
use Rattle.home_tables.specs.Table.{entry_of}
use Rattle.home_tables.specs.Home.{HomeState, kept_in, home_of, entry_at, AreKept}
use Rattle.home_tables.specs.Order.{IsFirstIdle, due_at, due_among}
use Rattle.home_tables.specs.Pairs.{pair_number, IsFirst, earlier}
use Rattle.home_tables.specs.declared.entry.Entry.{Entry}

either : (b c : Bool) → (b || c) ≡ true → (b ≡ false → c ≡ true)
either true c h e = absurd (true≢false e)
either false c h e = h

neither : (b c : Bool) → b ≡ false → c ≡ false → (b || c) ≡ false
neither b c hb hc = rw (hb, hc) refl

on_left : (b c : Bool) → b ≡ true → (b || c) ≡ true
on_left b c h = rw h refl

on_right : (b c : Bool) → c ≡ true → (b || c) ≡ true
on_right true c h = refl
on_right false c h = h

-- the earlier of the first pairs of D and E is the first pair of both
pub first_of_both : (D E : ℕ → ℕ → Bool) (a b : Option (ℕ × ℕ)) → IsFirst D a → IsFirst E b → IsFirst (λ p n. D p n || E p n) (earlier a b)
first_of_both D E None None ha hb = λ p n hp hn. neither (D p n) (E p n) (ha p n hp hn) (hb p n hp hn)
first_of_both D E None (Some y) ha hb = (on_right (D y.0 y.1) (E y.0 y.1) hb.0, λ p n hp hn h. hb.1 p n hp hn (either (D p n) (E p n) h (ha p n hp hn)))
first_of_both D E (Some x) None ha hb = (on_left (D x.0 x.1) (E x.0 x.1) ha.0, λ p n hp hn h. by p n hp hn (D p n) refl h)
  where
    by : (p n : ℕ) → p < 32768 → n < 16 → (d : Bool) → D p n ≡ d → (d || E p n) ≡ true → pair_number x.0 x.1 ≤ pair_number p n
    by p n hp hn true e h = ha.1 p n hp hn e
    by p n hp hn false e h = absurd (true≢false (sym h ∙ hb p n hp hn))
first_of_both D E (Some x) (Some y) ha hb = choose (nat_le (pair_number x.0 x.1) (pair_number y.0 y.1)) refl
  where
    of_d : (p n : ℕ) → p < 32768 → n < 16 → (d : Bool) → D p n ≡ d → (d || E p n) ≡ true → (pair_number x.0 x.1 ≤ pair_number p n) ⊎ (pair_number y.0 y.1 ≤ pair_number p n)
    of_d p n hp hn true e h = inl (ha.1 p n hp hn e)
    of_d p n hp hn false e h = inr (hb.1 p n hp hn h)

    choose : (t : Bool) → nat_le (pair_number x.0 x.1) (pair_number y.0 y.1) ≡ t → IsFirst (λ p n. D p n || E p n) (if t then Some x else Some y)
    choose true e = (on_left (D x.0 x.1) (E x.0 x.1) ha.0, λ p n hp hn h. elim (of_d p n hp hn (D p n) refl h) [ inl l ↦ l | inr r ↦ let le : pair_number x.0 x.1 ≤ pair_number y.0 y.1 = grind (arith, e) in omega arith ])
    choose false e = (on_right (D y.0 y.1) (E y.0 y.1) hb.0, λ p n hp hn h. elim (of_d p n hp hn (D p n) refl h) [ inl l ↦ let le : pair_number y.0 y.1 ≤ pair_number x.0 x.1 = grind (arith, e) in omega arith | inr r ↦ r ])

pub first_same : (D E : ℕ → ℕ → Bool) (o : Option (ℕ × ℕ)) → ((p n : ℕ) → D p n ≡ E p n) → IsFirst D o → IsFirst E o
first_same D E None same h = λ p n hp hn. sym (same p n) ∙ h p n hp hn
first_same D E (Some x) same h = (sym (same x.0 x.1) ∙ h.0, λ p n hp hn e. h.1 p n hp hn (same p n ∙ e))

-- where the sets are not made no page is due
pub none_due : (es : List (ℕ × Entry)) (idle due : List Bool) → AreKept es idle due → length due < 524288 → (p n : ℕ) → (entry_of (kept_in es p)).due n ≡ false
none_due es idle due old short p n = by (kept_in es p) refl
  where
    by : (o : Option Entry) → kept_in es p ≡ o → (entry_of o).due n ≡ false
    by None h = refl
    by (Some e) h = absurd (let long = old.room.1 in omega arith)

gate : (b c : Bool) → (b ≡ true → c ≡ false) → (b && c) ≡ false
gate true c h = h refl
gate false c h = refl

gated : (b c : Bool) → (b && c) ≡ true → (b ≡ true) × (c ≡ true)
gated true c h = (refl, h)
gated false c h = absurd cc

pub no_due : (es : List (ℕ × Entry)) (idle due : List Bool) (node : ℕ) → AreKept es idle due → node < 16 → HasNone due (node * 32768) (node * 32768 + 32768)
    → IsFirst (λ p n. nat_eq n node && (entry_of (kept_in es p)).due n) None
no_due es idle due node old small none = λ p n hp hn. gate (nat_eq n node) ((entry_of (kept_in es p)).due n) (λ t.
    let here : n ≡ node = eqb-true n node t in
    sym (old.due_pages n p hn hp) ∙ (ap (λ (k : ℕ). has_page due k p) here ∙ none (node * 32768 + p) (omega arith) (omega arith)))

no_earlier : (es : List (ℕ × Entry)) (idle due : List Bool) (node x p n : ℕ) → AreKept es idle due → IsLeast due (node * 32768) (node * 32768 + 32768) x → p < 32768 → n < 16
    → n ≡ node → (entry_of (kept_in es p)).due n ≡ true → (b : Bool) → nat_lt p (x - node * 32768) ≡ b → pair_number (x - node * 32768) node ≤ pair_number p n
no_earlier es idle due node x p n old least hp hn here is_due true less =
    let from = least.from in
    let below : p < x - node * 32768 = grind (arith, less) in
    let member : has due (node * 32768 + p) ≡ true = ap (λ (k : ℕ). has_page due k p) (sym here) ∙ (old.due_pages n p hn hp ∙ is_due) in
    absurd (true≢false (sym member ∙ least.least (node * 32768 + p) (omega arith) (omega arith)))
no_earlier es idle due node x p n old least hp hn here is_due false less =
    let above : x - node * 32768 ≤ p = grind (arith, less) in omega (arith, here)

pub first_due : (es : List (ℕ × Entry)) (idle due : List Bool) (node x : ℕ) → AreKept es idle due → node < 16 → IsLeast due (node * 32768) (node * 32768 + 32768) x
    → IsFirst (λ p n. nat_eq n node && (entry_of (kept_in es p)).due n) (Some (x - node * 32768, node))
first_due es idle due node x old small least =
    let page : ℕ = x - node * 32768 in
    let from = least.from in
    let until = least.until in
    let low : page < 32768 = omega arith in
    let number : node * 32768 + page ≡ x = omega arith in
    let is_due : (entry_of (kept_in es page)).due node ≡ true = sym (old.due_pages node page small low) ∙ (ap (λ (k : ℕ). has due k) number ∙ least.member) in (
      (let t : nat_eq node node ≡ true = grind arith in rw t is_due),
      λ p n hp hn h.
          let parts = gated (nat_eq n node) ((entry_of (kept_in es p)).due n) h in
          no_earlier es idle due node x p n old least hp hn (eqb-true n node parts.0) parts.1 (nat_lt p page) refl,
    )

has_more : (ns : List ℕ) (m q : ℕ) → has_node (ns ++ m ∷ []) q ≡ (has_node ns q || nat_eq m q)
has_more [] m q = grind arith
has_more (k ∷ ns) m q = grind (arith, has_more ns m q)

pub one_more : (ns : List ℕ) (i d q : ℕ) → i < length ns → has_node (take (i + 1) ns) q ≡ (has_node (take i ns) q || nat_eq (get_or ns i d) q)
one_more ns i d q h = rw (take_more ns i d h) (has_more (take i ns) (get_or ns i d) q)

pub no_idle : (es : List (ℕ × Entry)) (idle due : List Bool) (w slab : ℕ) → AreKept es idle due → slab < 16 → HasNone idle (slab * 32768) (slab * 32768 + 32768) → IsFirstIdle (home_of es w) slab None
no_idle es idle due w slab old small none = λ p hp. sym (old.idle_pages slab p small hp) ∙ none (slab * 32768 + p) (omega arith) (omega arith)

pub first_idle : (es : List (ℕ × Entry)) (idle due : List Bool) (w slab x : ℕ) → AreKept es idle due → slab < 16 → IsLeast idle (slab * 32768) (slab * 32768 + 32768) x
    → IsFirstIdle (home_of es w) slab (Some (x - slab * 32768))
first_idle es idle due w slab x old small least =
    let page : ℕ = x - slab * 32768 in
    let from = least.from in
    let until = least.until in
    let low : page < 32768 = omega arith in
    let number : slab * 32768 + page ≡ x = omega arith in
    (sym (old.idle_pages slab page small low) ∙ (ap (λ (k : ℕ). has idle k) number ∙ least.member), λ q less. sym (old.idle_pages slab q small (omega arith)) ∙ least.least (slab * 32768 + q) (omega arith) (omega arith))

together : (a b d : Bool) → ((a && d) || (b && d)) ≡ ((a || b) && d)
together true true true = refl
together true true false = refl
together true false true = refl
together true false false = refl
together false true true = refl
together false true false = refl
together false false true = refl
together false false false = refl

turned : (k n : ℕ) → nat_eq n k ≡ nat_eq k n
turned k n = grind arith

-- one node more that is up
more_nodes : (H : HomeState) (ns : List ℕ) (i k p n : ℕ) → i < length ns → k ≡ get_or ns i k → (due_among H (take i ns) p n || due_at H k p n) ≡ due_among H (take (i + 1) ns) p n
more_nodes H ns i k p n within item =
    let d : Bool = (entry_at H p).due n in
    together (has_node (take i ns) n) (nat_eq n k) d
    ∙ ap (λ (b : Bool). b && d) (ap (λ (b : Bool). has_node (take i ns) n || b) (turned k n ∙ ap (λ (j : ℕ). nat_eq j n) item) ∙ sym (one_more ns i k n within))

pub first_step : (H : HomeState) (ns : List ℕ) (i k : ℕ) (a b : Option (ℕ × ℕ)) → i < length ns → k ≡ get_or ns i k → IsFirst (due_among H (take i ns)) a → IsFirst (due_at H k) b
    → IsFirst (due_among H (take (i + 1) ns)) (earlier a b)
first_step H ns i k a b within item before here =
    first_same (λ p n. due_among H (take i ns) p n || due_at H k p n) (due_among H (take (i + 1) ns)) (earlier a b) (λ p n. more_nodes H ns i k p n within item)
    (first_of_both (due_among H (take i ns)) (due_at H k) a b before here)
