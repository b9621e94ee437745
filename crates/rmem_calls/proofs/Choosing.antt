-- The least page that may be given away, over the slabs.
use Rattle.std.proofs.Common.{◌≡◌, ◌≤◌, ◌<◌, ◌+◌, ℕ, Bool, true, false, ◌&&◌, ◌||◌, List, [], ◌∷◌, ◌++◌, length, take, get_or, Option, Some, None, if◌then◌else◌, nat_le, refl, sym, ◌∙◌, ap, arith}
use Rattle.std.proofs.lemmas.Bool.{true≢false}
use Rattle.std.proofs.lemmas.List.{take_more}
use Rattle.std.specs.List.{list_any}
use Rattle.rm_base.specs.declared.places.Addr.{Addr}
use Rattle.slab_node.specs.Slab.{SlabState}
use Rattle.std.specs.Option.{option_map}
use Rattle.home_model.specs.Entry.{takes_slot, no_entry}
use Rattle.home_tables.specs.Home.{HomeState, kept, entry_at}
use Rattle.home_tables.specs.Table.{entry_of, address_number, is_idle_on, is_on, is_idle}
use Rattle.home_tables.specs.declared.entry.Entry.{Entry}
use Rattle.rmem_calls.specs.Giving.{gives, may_give, IsLeastPage, lesser}

neither : (b c : Bool) → b ≡ false → c ≡ false → (b || c) ≡ false
neither b c hb hc = rw (hb, hc) refl

on_left : (b c : Bool) → b ≡ true → (b || c) ≡ true
on_left b c h = rw h refl

on_right : (b c : Bool) → c ≡ true → (b || c) ≡ true
on_right true c h = refl
on_right false c h = h

-- the lesser of the least pages of D and E is the least page of both
least_of_both : (D E : ℕ → Bool) (a b : Option ℕ) → IsLeastPage D a → IsLeastPage E b → IsLeastPage (λ p. D p || E p) (lesser a b)
least_of_both D E None None ha hb = λ p hp. neither (D p) (E p) (ha p hp) (hb p hp)
least_of_both D E None (Some y) ha hb = (on_right (D y) (E y) hb.0, λ q hq less. neither (D q) (E q) (ha q hq) (hb.1 q hq less))
least_of_both D E (Some x) None ha hb = (on_left (D x) (E x) ha.0, λ q hq less. neither (D q) (E q) (ha.1 q hq less) (hb q hq))
least_of_both D E (Some x) (Some y) ha hb = choose (nat_le x y) refl
  where
    choose : (t : Bool) → nat_le x y ≡ t → IsLeastPage (λ p. D p || E p) (if t then Some x else Some y)
    choose true e =
        let le : x ≤ y = grind (arith, e) in
        (on_left (D x) (E x) ha.0, λ q hq less. neither (D q) (E q) (ha.1 q hq less) (hb.1 q hq (omega arith)))
    choose false e =
        let le : y ≤ x = grind (arith, e) in
        (on_right (D y) (E y) hb.0, λ q hq less. neither (D q) (E q) (ha.1 q hq (omega arith)) (hb.1 q hq less))

least_same : (D E : ℕ → Bool) (o : Option ℕ) → ((p : ℕ) → D p ≡ E p) → IsLeastPage D o → IsLeastPage E o
least_same D E None same h = λ p hp. sym (same p) ∙ h p hp
least_same D E (Some x) same h = (sym (same x) ∙ h.0, λ q hq less. sym (same q) ∙ h.1 q hq less)

or_false : (b : Bool) → b ≡ (b || false)
or_false true = refl
or_false false = refl

or_more : (a b c d : Bool) → b ≡ (c || d) → (a || b) ≡ ((a || c) || d)
or_more true b c d h = refl
or_more false b c d h = h

any_more : (f : SlabState → Bool) (xs : List SlabState) (S : SlabState) → list_any f (xs ++ S ∷ []) ≡ (list_any f xs || f S)
any_more f [] S = sym (or_false (f S))
any_more f (T ∷ xs) S = or_more (f T) (list_any f (xs ++ S ∷ [])) (list_any f xs) (f S) (any_more f xs S)

one_slab_more : (H : HomeState) (xs : List SlabState) (i : ℕ) (S : SlabState) (p : ℕ) → i < length xs → S ≡ get_or xs i S → (may_give H (take i xs) p || gives H p S) ≡ may_give H (take (i + 1) xs) p
one_slab_more H xs i S p within is =
    sym (
    ap (λ (ys : List SlabState). list_any (gives H p) ys) (take_more xs i S within) ∙ any_more (gives H p) (take i xs) (get_or xs i S)
    ∙ ap (λ (T : SlabState). list_any (gives H p) (take i xs) || gives H p T) (sym is)
    )

pub least_step : (H : HomeState) (xs : List SlabState) (i : ℕ) (S : SlabState) (a b : Option ℕ) → i < length xs → S ≡ get_or xs i S → IsLeastPage (may_give H (take i xs)) a → IsLeastPage (λ p. gives H p S) b
    → IsLeastPage (may_give H (take (i + 1) xs)) (lesser a b)
least_step H xs i S a b within is before here =
    least_same (λ p. may_give H (take i xs) p || gives H p S) (may_give H (take (i + 1) xs)) (lesser a b) (λ p. one_slab_more H xs i S p within is)
    (least_of_both (may_give H (take i xs)) (λ p. gives H p S) a b before here)

and_false : (b : Bool) → (b && false) ≡ false
and_false true = refl
and_false false = refl

none_any : (xs : List SlabState) → list_any (λ S. S.up && false) xs ≡ false
none_any [] = refl
none_any (S ∷ xs) = neither (S.up && false) (list_any (λ T. T.up && false) xs) (and_false S.up) (none_any xs)

-- a page that may be given away has a slot
pub with_slot : (xs : List SlabState) (o : Option Entry) → list_any (λ S. S.up && is_idle_on S.id o) xs ≡ true → (e : Entry) × (a : Addr) × (o ≡ Some e) × (e.addr ≡ Some a)
with_slot xs None h = absurd (true≢false (sym h ∙ none_any xs))
with_slot xs (Some e) h = by e.addr refl h
  where
    by : (a : Option Addr) → e.addr ≡ a → list_any (λ S. S.up && (is_on S.id a && is_idle e)) xs ≡ true → (f : Entry) × (b : Addr) × (Some e ≡ Some f) × (f.addr ≡ Some b)
    by None is any = absurd (true≢false (sym any ∙ none_any xs))
    by (Some a) is any = (e, a, refl, is)

pub seated_when : (H : HomeState) (slabs : List SlabState) (p : ℕ) → may_give H slabs p ≡ true → takes_slot (entry_at H p) ≡ false
seated_when H slabs p h =
    let there = with_slot slabs (kept H p) h in
    let e : Entry = there.0 in
    ap (λ (o : Option Entry). takes_slot (entry_of o)) there.2
    ∙ ap (λ (o : Option Addr). takes_slot (record no_entry { there = true; address = option_map address_number o })) there.3
