-- A key outside the range that bounds give makes one of them No.
use Rattle.std.proofs.Common.{◌≡◌, ℕ, Bool, true, false, ◌&&◌, ◌||◌, if◌then◌else◌, List, [], ◌∷◌, Option, Some, None, filter_map, ◌⊎◌, inl, inr, refl, sym, ◌∙◌, ap}
use Rattle.std.specs.List.{cons_option}
use Rattle.std.specs.declared.cmp.Ordering.{Ordering}
use Rattle.std.specs.declared.cmp.Ordering.TheVariants.{Less, Equal, Greater}
use Rattle.std.specs.Ordering.{is_lt, is_le, ordering_reverse}
use Rattle.std.proofs.lemmas.Cmp.{nat_list_cmp_total}
use Rattle.sql_values.specs.declared.values.Value.{Value}
use Rattle.sql_values.specs.declared.logic.Truth.TheVariants.{No}
use Rattle.sql_values.specs.Order.{text_cmp}
use Rattle.sql_meaning.specs.Ranges.{Bound, is_low, is_high, end_of, greater, lesser, greatest, least, range_between, range_at, in_ranges}
use Rattle.sql_plan.proofs.NeededTests.{bound_truth, SomeNo}

-- a bound whose end lies beyond the key is No
pub record IsSound (k : List ℕ) (key : ℕ) (left : Option (List Value)) (row : List Value) (b : Bound) : Type 0 where
  pub low : (e : List ℕ) → end_of is_low key left b ≡ Some e → is_lt (text_cmp k e) ≡ true → bound_truth row b ≡ No
  pub high : (e : List ℕ) → end_of is_high key left b ≡ Some e → is_lt (text_cmp e k) ≡ true → bound_truth row b ≡ No

abbrev pub AreSound : List ℕ → ℕ → Option (List Value) → List Value → List Bound → Type 0
AreSound k key left row [] = Unit {0}
AreSound k key left row (b ∷ bs) = IsSound k key left row b × AreSound k key left row bs

-- a choice of two is one of them
of_choice : (c : Bool) (a b l : List ℕ) → (let o : Option (List ℕ) = Some (if c then b else a) in o) ≡ Some l → (a ≡ l) ⊎ (b ≡ l)
of_choice true a b l h = inr cc
of_choice false a b l h = inl cc

greater_is : (k : List ℕ) (o : Option (List ℕ)) (l : List ℕ) → (let r : Option (List ℕ) = Some (greater k o) in r) ≡ Some l → (k ≡ l) ⊎ (o ≡ Some l)
greater_is k None l h = inl cc
greater_is k (Some m) l h = elim (of_choice (is_lt (text_cmp k m)) k m l h) [ inl e ↦ inl e | inr e ↦ inr (ap Some e) ]

lesser_is : (k : List ℕ) (o : Option (List ℕ)) (l : List ℕ) → (let r : Option (List ℕ) = Some (lesser k o) in r) ≡ Some l → (k ≡ l) ⊎ (o ≡ Some l)
lesser_is k None l h = inl cc
lesser_is k (Some m) l h = elim (of_choice (is_lt (text_cmp m k)) k m l h) [ inl e ↦ inl e | inr e ↦ inr (ap Some e) ]

low-no_step :
    (k : List ℕ) (key : ℕ) (left : Option (List Value)) (row : List Value) (b : Bound) (bs : List Bound) (l : List ℕ) (o : Option (List ℕ))
    → (greatest (filter_map (end_of is_low key left) bs) ≡ Some l → SomeNo row bs)
    → IsSound k key left row b → end_of is_low key left b ≡ o
    → greatest (cons_option o (filter_map (end_of is_low key left) bs)) ≡ Some l → is_lt (text_cmp k l) ≡ true → SomeNo row (b ∷ bs)
low-no_step k key left row b bs l None rest s e h lt = inr (rest h)
low-no_step k key left row b bs l (Some x) rest s e h lt =
    elim (greater_is x (greatest (filter_map (end_of is_low key left) bs)) l h) [ inl same ↦ inl (s.low l (e ∙ ap Some same) lt) | inr more ↦ inr (rest more) ]

low-no :
    (k : List ℕ) (key : ℕ) (left : Option (List Value)) (row : List Value) (bs : List Bound) (l : List ℕ)
    → AreSound k key left row bs → greatest (filter_map (end_of is_low key left) bs) ≡ Some l → is_lt (text_cmp k l) ≡ true → SomeNo row bs
low-no k key left row [] l s h lt = cc
low-no k key left row (b ∷ bs) l s h lt =
    low-no_step k key left row b bs l (end_of is_low key left b) (λ more. low-no k key left row bs l s.1 more lt) s.0 refl h lt

high-no_step :
    (k : List ℕ) (key : ℕ) (left : Option (List Value)) (row : List Value) (b : Bound) (bs : List Bound) (l : List ℕ) (o : Option (List ℕ))
    → (least (filter_map (end_of is_high key left) bs) ≡ Some l → SomeNo row bs)
    → IsSound k key left row b → end_of is_high key left b ≡ o
    → least (cons_option o (filter_map (end_of is_high key left) bs)) ≡ Some l → is_lt (text_cmp l k) ≡ true → SomeNo row (b ∷ bs)
high-no_step k key left row b bs l None rest s e h lt = inr (rest h)
high-no_step k key left row b bs l (Some x) rest s e h lt =
    elim (lesser_is x (least (filter_map (end_of is_high key left) bs)) l h) [ inl same ↦ inl (s.high l (e ∙ ap Some same) lt) | inr more ↦ inr (rest more) ]

high-no :
    (k : List ℕ) (key : ℕ) (left : Option (List Value)) (row : List Value) (bs : List Bound) (l : List ℕ)
    → AreSound k key left row bs → least (filter_map (end_of is_high key left) bs) ≡ Some l → is_lt (text_cmp l k) ≡ true → SomeNo row bs
high-no k key left row [] l s h lt = cc
high-no k key left row (b ∷ bs) l s h lt =
    high-no_step k key left row b bs l (end_of is_high key left b) (λ more. high-no k key left row bs l s.1 more lt) s.0 refl h lt

lt_if_not_le : (o p : Ordering) → p ≡ ordering_reverse o → is_le o ≡ false → is_lt p ≡ true
lt_if_not_le Less p e h = cc
lt_if_not_le Equal p e h = cc
lt_if_not_le Greater p e h = ap is_lt e

pub beyond : (a b : List ℕ) → is_le (text_cmp a b) ≡ false → is_lt (text_cmp b a) ≡ true
beyond a b h = lt_if_not_le (text_cmp a b) (text_cmp b a) (nat_list_cmp_total.antisymm b a) h

is-less : (o : Ordering) → is_lt o ≡ true → o ≡ Less
is-less Less h = refl
is-less Equal h = cc
is-less Greater h = cc

-- where h is below l, each key is below l or above h
between :
    (h l k : List ℕ) (o : Ordering) → text_cmp h l ≡ Less → text_cmp k l ≡ o
    → (is_lt (text_cmp k l) ≡ true) ⊎ (is_lt (text_cmp h k) ≡ true)
between h l k Less below e = inl (ap is_lt e)
between h l k Equal below e =
    inr (ap is_lt (nat_list_cmp_total.antisymm h k ∙ ap ordering_reverse (nat_list_cmp_total.congr k l h e) ∙ sym (nat_list_cmp_total.antisymm h l) ∙ below))
between h l k Greater below e =
    inr (ap is_lt (nat_list_cmp_total.trans h l k below (nat_list_cmp_total.antisymm l k ∙ ap ordering_reverse e)))

abbrev IsBelow : List ℕ → Option (List ℕ) → Type 0
IsBelow k None = ⊥
IsBelow k (Some l) = is_lt (text_cmp k l) ≡ true

abbrev IsAbove : List ℕ → Option (List ℕ) → Type 0
IsAbove k None = ⊥
IsAbove k (Some h) = is_lt (text_cmp h k) ≡ true

one_fails : (a b : Bool) → ((a && b) || false) ≡ false → (a ≡ false) ⊎ (b ≡ false)
one_fails true true h = cc
one_fails true false h = inr refl
one_fails false b h = inl refl

outside_both :
    (k l h : List ℕ) (c : Bool) → is_lt (text_cmp h l) ≡ c
    → in_ranges k (if c then [] else record { low = Some l; high = Some h } ∷ []) ≡ false → IsBelow k (Some l) ⊎ IsAbove k (Some h)
outside_both k l h true e out = between h l k (text_cmp k l) (is-less (text_cmp h l) e) refl
outside_both k l h false e out =
    elim (one_fails (is_le (text_cmp l k)) (is_le (text_cmp k h)) out) [ inl a ↦ inl (beyond l k a) | inr b ↦ inr (beyond k h b) ]

outside : (k : List ℕ) (low high : Option (List ℕ)) → in_ranges k (range_between low high) ≡ false → IsBelow k low ⊎ IsAbove k high
outside k None None out = cc
outside k None (Some h) out =
    elim (one_fails true (is_le (text_cmp k h)) out) [ inl a ↦ cc | inr b ↦ inr (beyond k h b) ]
outside k (Some l) None out =
    elim (one_fails (is_le (text_cmp l k)) true out) [ inl a ↦ inl (beyond l k a) | inr b ↦ cc ]
outside k (Some l) (Some h) out = outside_both k l h (is_lt (text_cmp h l)) refl out

range-no_of :
    (k : List ℕ) (key : ℕ) (left : Option (List Value)) (row : List Value) (bs : List Bound) (low high : Option (List ℕ))
    → AreSound k key left row bs
    → greatest (filter_map (end_of is_low key left) bs) ≡ low → least (filter_map (end_of is_high key left) bs) ≡ high
    → IsBelow k low ⊎ IsAbove k high → SomeNo row bs
range-no_of k key left row bs None high s a b (inl h) = absurd h
range-no_of k key left row bs (Some l) high s a b (inl h) = low-no k key left row bs l s a h
range-no_of k key left row bs low None s a b (inr h) = absurd h
range-no_of k key left row bs low (Some l) s a b (inr h) = high-no k key left row bs l s b h

-- a key outside the range that bounds give makes one of them No
pub range_no :
    (k : List ℕ) (key : ℕ) (left : Option (List Value)) (row : List Value) (bs : List Bound)
    → AreSound k key left row bs → in_ranges k (range_at key left bs) ≡ false → SomeNo row bs
range_no k key left row bs s out =
    range-no_of k key left row bs (greatest (filter_map (end_of is_low key left) bs)) (least (filter_map (end_of is_high key left) bs)) s refl refl
    (outside k (greatest (filter_map (end_of is_low key left) bs)) (least (filter_map (end_of is_high key left) bs)) out)
