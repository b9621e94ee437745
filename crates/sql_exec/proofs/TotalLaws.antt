-- The least and the greatest of cells.
use Rattle.std.proofs.Common.{◌≡◌, ℕ, zero, suc, ◌<◌, Bool, true, false, if◌then◌else◌, ◌⊎◌, inl, inr, List, [], ◌∷◌, length, slice_index_or, Result, Ok, IsOkAnd, refl, sym, ap, subst, ◌∙◌, arith}
use Rattle.std.specs.declared.cmp.Ordering.{Ordering}
use Rattle.std.specs.Bool.{MatchBool}
use Rattle.std.specs.Cmp.{IsStrictWeakOrder}
use Rattle.std.specs.List.{Contains, fold, list_all}
use Rattle.std.specs.Ordering.{is_lt, is_gt, ordering_reverse}
use Rattle.std.proofs.lemmas.List.Sorted.{ranks_by, IsStrictWeakOrder-flip}
use Rattle.sql_values.specs.declared.arithmetic.Overflow.{Overflow}
use Rattle.sql_values.specs.declared.values.Value.{Value}
use Rattle.sql_values.specs.declared.values.Value.TheVariants.{Null, Int, Text}
use Rattle.sql_values.specs.Order.{value_cmp}
use Rattle.sql_values.proofs.OrderLaws.{total}
use Rattle.sql_exec.specs.Kept.{and_then}
use Rattle.sql_exec.specs.Totals.{is_null, lesser, greater, least_of, greatest_of}
use Rattle.sql_exec.specs.Extremes.{IsLeast, IsGreatest, MinIsLeast, MaxIsGreatest}

apart : {X : Type 0} (b : Bool) → b ≡ true → b ≡ false → X
apart b h g = absurd (cc)

never : (b : Bool) → (b ≡ true → b ≡ false) → b ≡ false
never true h = h refl
never false h = refl

by_Bool : (b : Bool) (P Q : Type 0) → (b ≡ true → P) → (b ≡ false → Q) → MatchBool b P Q
by_Bool true P Q p q = p refl
by_Bool false P Q p q = q refl

-- a cell that is not NULL
some_known : (cells : List Value) → list_all is_null cells ≡ false → (w : Value) × Contains cells w × (is_null w ≡ false)
some_known [] h = apart true refl h
some_known (Null ∷ cells) h = let m = some_known cells h in (m.0, (suc m.1.0, omega (arith, m.1.1), m.1.2), m.2)
some_known (Int n ∷ cells) h = (Int n, (zero, omega arith, refl), refl)
some_known (Text t ∷ cells) h = (Text t, (zero, omega arith, refl), refl)

abbrev chosen : Bool → Bool → Bool → Value → Value → Value
chosen p q t a b = if p then b else (if q then a else (if t then b else a))

-- the better of two values, where NULL counts for none
abbrev choice : (Value → Value → Bool) → Value → Value → Value
choice lt a b = chosen (is_null a) (is_null b) (lt b a) a b

one_of : (p q t : Bool) (a b : Value) → (chosen p q t a b ≡ a) ⊎ (chosen p q t a b ≡ b)
one_of true q t a b = inr refl
one_of false true t a b = inl refl
one_of false false true a b = inr refl
one_of false false false a b = inl refl

module _ (lt : Value → Value → Bool) (o : IsStrictWeakOrder lt) where
  -- v is not NULL, and w is no better
  abbrev Beats : Value → Value → Type 0
  Beats v w = (is_null v ≡ false) × (lt w v ≡ false)

  itself : (v : Value) → lt v v ≡ false
  itself v = never (lt v v) (o.one_way v v)

  left : (p q t : Bool) (a b : Value) → is_null a ≡ p → is_null b ≡ q → lt b a ≡ t → is_null a ≡ false → Beats (chosen p q t a b) a
  left true q t a b hp hq ht known = apart (is_null a) hp known
  left false true t a b hp hq ht known = (known, itself a)
  left false false true a b hp hq ht known = (hq, o.one_way b a ht)
  left false false false a b hp hq ht known = (known, itself a)

  right : (p q t : Bool) (a b : Value) → is_null a ≡ p → is_null b ≡ q → lt b a ≡ t → is_null b ≡ false → Beats (chosen p q t a b) b
  right true q t a b hp hq ht known = (known, itself b)
  right false true t a b hp hq ht known = apart (is_null b) hq known
  right false false true a b hp hq ht known = (known, itself b)
  right false false false a b hp hq ht known = (hp, ht)

  first : (cells : List Value) (a : Value) → is_null a ≡ false → Beats (fold (choice lt) a cells) a
  first [] a known = (known, itself a)
  first (x ∷ cells) a known =
      let step = left (is_null a) (is_null x) (lt x a) a x refl refl refl known in
      let more = first cells (choice lt a x) step.0 in
      (more.0, o.chain a (choice lt a x) (fold (choice lt) (choice lt a x) cells) step.1 more.1)

  second : (cells : List Value) (a x : Value) → is_null x ≡ false → Beats (fold (choice lt) (choice lt a x) cells) x
  second cells a x known =
      let step = right (is_null a) (is_null x) (lt x a) a x refl refl refl known in
      let more = first cells (choice lt a x) step.0 in
      (more.0, o.chain x (choice lt a x) (fold (choice lt) (choice lt a x) cells) step.1 more.1)

  at_place : (cells : List Value) (a w : Value) (k : ℕ) → k < length cells → slice_index_or cells k w ≡ w → is_null w ≡ false → Beats (fold (choice lt) a cells) w
  at_place [] a w k h e known = absurd (omega (arith, h))
  at_place (x ∷ cells) a w zero h e known =
      subst (λ (v : Value). Beats (fold (choice lt) (choice lt a x) cells) v) e (second cells a x (ap is_null e ∙ known))
  at_place (x ∷ cells) a w (suc k) h e known = at_place cells (choice lt a x) w k (omega (arith, h)) e known

  reached : (cells : List Value) (a : Value) → (fold (choice lt) a cells ≡ a) ⊎ Contains cells (fold (choice lt) a cells)
  reached [] a = inl refl
  reached (x ∷ cells) a = later (one_of (is_null a) (is_null x) (lt x a) a x) (reached cells (choice lt a x))
    where
      later : (choice lt a x ≡ a) ⊎ (choice lt a x ≡ x) → (fold (choice lt) (choice lt a x) cells ≡ choice lt a x) ⊎ Contains cells (fold (choice lt) (choice lt a x) cells) → (fold (choice lt) (choice lt a x) cells ≡ a) ⊎ Contains (x ∷ cells) (fold (choice lt) (choice lt a x) cells)
      later (inl e) (inl g) = inl (g ∙ e)
      later (inr e) (inl g) = inr (zero, omega arith, sym (g ∙ e))
      later s (inr m) = inr (suc m.0, omega (arith, m.1), m.2)

  nulls : (cells : List Value) → list_all is_null cells ≡ true → fold (choice lt) Null cells ≡ Null
  nulls [] h = refl
  nulls (Null ∷ cells) h = nulls cells h
  nulls (Int n ∷ cells) h = apart false h refl
  nulls (Text t ∷ cells) h = apart false h refl

  known_best : (cells : List Value) → list_all is_null cells ≡ false → is_null (fold (choice lt) Null cells) ≡ false
  known_best cells h =
      let m = some_known cells h in
      (at_place cells Null m.0 m.1.0 m.1.1 m.1.2 m.2).0

  among_best : (cells : List Value) → list_all is_null cells ≡ false → Contains cells (fold (choice lt) Null cells)
  among_best cells h = not_null (reached cells Null)
    where
      not_null : (fold (choice lt) Null cells ≡ Null) ⊎ Contains cells (fold (choice lt) Null cells) → Contains cells (fold (choice lt) Null cells)
      not_null (inl e) = apart (is_null (fold (choice lt) Null cells)) (ap is_null e) (known_best cells h)
      not_null (inr m) = m

  none_better : (cells : List Value) (w : Value) → Contains cells w → is_null w ≡ false → lt w (fold (choice lt) Null cells) ≡ false
  none_better cells w m known = (at_place cells Null w m.0 m.1 m.2 known).1

abbrev less : Value → Value → Bool
less a b = is_lt (value_cmp a b)

abbrev more : Value → Value → Bool
more a b = is_gt (value_cmp a b)

turned : (r : Ordering) → is_gt (ordering_reverse r) ≡ is_lt r
turned Ordering.Less = refl
turned Ordering.Equal = refl
turned Ordering.Greater = refl

more_is_less : (a b : Value) → more a b ≡ less b a
more_is_less a b = ap is_gt (total.antisymm a b) ∙ turned (value_cmp b a)

less_order : IsStrictWeakOrder less
less_order = ranks_by total (λ v. v)

more_order : IsStrictWeakOrder more
more_order = subst (λ (lt : Value → Value → Bool). IsStrictWeakOrder lt) (λ i a b. sym (more_is_less a b) i) (IsStrictWeakOrder-flip less less_order)

lesser_is : (a b : Value) → lesser a b ≡ choice less a b
lesser_is Null b = refl
lesser_is (Int m) Null = refl
lesser_is (Int m) (Int n) = refl
lesser_is (Int m) (Text t) = refl
lesser_is (Text s) Null = refl
lesser_is (Text s) (Int n) = refl
lesser_is (Text s) (Text t) = refl

greater_is : (a b : Value) → greater a b ≡ choice more a b
greater_is Null b = refl
greater_is (Int m) Null = refl
greater_is (Int m) (Int n) = refl
greater_is (Int m) (Text t) = refl
greater_is (Text s) Null = refl
greater_is (Text s) (Int n) = refl
greater_is (Text s) (Text t) = refl

abbrev IsMin : List Value → Value → Type 0
IsMin cells v = MatchBool (list_all is_null cells) (v ≡ Null) (IsLeast cells v)

abbrev IsMax : List Value → Value → Type 0
IsMax cells v = MatchBool (list_all is_null cells) (v ≡ Null) (IsGreatest cells v)

least_is : (cells : List Value) → IsMin cells (least_of cells)
least_is cells =
    subst (λ (f : Value → Value → Value). IsMin cells (fold f Null cells)) (λ i a b. sym (lesser_is a b) i)
    (by_Bool (list_all is_null cells) _ _ (nulls less less_order cells) (λ h. record {
      among = among_best less less_order cells h;
      known = known_best less less_order cells h;
      none_less = none_better less less_order cells;
    }))

greatest_is : (cells : List Value) → IsMax cells (greatest_of cells)
greatest_is cells =
    subst (λ (f : Value → Value → Value). IsMax cells (fold f Null cells)) (λ i a b. sym (greater_is a b) i)
    (by_Bool (list_all is_null cells) _ _ (nulls more more_order cells) (λ h. record {
      among = among_best more more_order cells h;
      known = known_best more more_order cells h;
      none_greater = none_better more more_order cells;
    }))

-- what a function makes of the cells
made : (P : Value → Type 0) (f : List Value → Value) (r : Result (List Value) Overflow) (cells : List Value) → r ≡ Ok cells → P (f cells) → IsOkAnd (and_then (λ vs. Ok (f vs)) r) P
made P f r cells e p = subst (λ (q : Result (List Value) Overflow). IsOkAnd (and_then (λ vs. Ok (f vs)) q) P) (sym e) p

pub min_is_least : MinIsLeast
min_is_least rows e cells h = made (IsMin cells) least_of _ cells h (least_is cells)

pub max_is_greatest : MaxIsGreatest
max_is_greatest rows e cells h = made (IsMax cells) greatest_of _ cells h (greatest_is cells)
