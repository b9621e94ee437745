-- A statement has one answer over a database.
use Rattle.std.proofs.Common.{◌≡◌, ◌≤◌, ◌<◌, ℕ, suc, ℤ, Bool, true, false, not, ◌&&◌, cond, List, [], ◌∷◌, length, get_or, filter, Option, Some, None, Result, Ok, Err, MatchOption, refl, sym, ap, subst, ◌∙◌, arith}
use Rattle.std.specs.Cmp.{IsStrictWeakOrder}
use Rattle.std.specs.Ordering.{is_lt}
use Rattle.std.specs.List.Sorted.{IsSortedBy, ties}
use Rattle.std.proofs.lemmas.List.Sorted.{sorted_far}
use Rattle.sql_values.specs.declared.arithmetic.Overflow.{Overflow}
use Rattle.sql_values.specs.declared.schemas.Schema.{Schema}
use Rattle.sql_values.specs.declared.values.Value.{Value}
use Rattle.sql_meaning.specs.declared.actions.Action.{Action}
use Rattle.sql_meaning.specs.declared.actions.Action.TheVariants as action
use Rattle.sql_meaning.specs.declared.actions.OrderPlace.{OrderPlace}
use Rattle.sql_meaning.specs.declared.actions.Output.{Output}
use Rattle.sql_meaning.specs.declared.actions.Output.TheVariants.{Star, Plain, Totals}
use Rattle.sql_meaning.specs.declared.refusals.Refusal.{Refusal}
use Rattle.sql_meaning.specs.Names.{scope}
use Rattle.sql_meaning.specs.Places.{placed_action}
use Rattle.sql_meaning.specs.Refusals.{refusal}
use Rattle.sql_database.specs.Answers.{Answer, refused, rows}
use Rattle.sql_exec.specs.Answer.{Does, Gives, GivesKept, reply_of, rows_or_overflow, source, target}
use Rattle.sql_exec.specs.Whole.{AnswersOver, whole}
use Rattle.sql_exec.specs.Kept.{each, values_in}
use Rattle.sql_exec.specs.Order.{IsOrdered, limited, row_cmp}
use Rattle.sql_exec.proofs.OrderLaws.{row_weak}
use Rattle.sql_database.specs.Rules.{OneAnswer}

module _ {X : Type 0} (lt : X → X → Bool) where
  abbrev Above : X → List X → Type 0
  Above x [] = Unit {0}
  Above x (y ∷ ys) = (lt y x ≡ false) × Above x ys

  abbrev Up : List X → Type 0
  Up [] = Unit {0}
  Up (x ∷ xs) = Above x xs × Up xs

  above_of : (x : X) (xs : List X) → ((k : ℕ) → k < length xs → lt (get_or xs k x) x ≡ false) → Above x xs
  above_of x [] h = tt
  above_of x (y ∷ ys) h = (h 0 (omega arith), above_of x ys (λ k p. h (suc k) (omega arith)))

  up_of : (xs : List X) → ((i j : ℕ) (d : X) → i ≤ j → j < length xs → lt (get_or xs j d) (get_or xs i d) ≡ false) → Up xs
  up_of [] h = tt
  up_of (x ∷ xs) h = (above_of x xs (λ k p. h 0 (suc k) x (omega arith) (omega arith)), up_of xs (λ i j d p q. h (suc i) (suc j) d (omega arith) (omega arith)))

abbrev IsNil : {X : Type 0} → List X → Type 0
IsNil [] = Unit {0}
IsNil (x ∷ xs) = ⊥

abbrev head : {X : Type 0} → X → List X → X
head d [] = d
head d (x ∷ xs) = x

abbrev tail : {X : Type 0} → List X → List X
tail [] = []
tail (x ∷ xs) = xs

first_kept : {X : Type 0} (lt : X → X → Bool) (z y : X) (p : X → Bool) (l more : List X) → Above lt z l → filter p l ≡ y ∷ more → lt y z ≡ false
first_kept lt z y p [] more a e = absurd (subst IsNil e tt)
first_kept lt z y p (x ∷ xs) more a e = by_test (p x) (first_kept lt z y p xs more a.1) e
  where
    by_test : (b : Bool) → (filter p xs ≡ y ∷ more → lt y z ≡ false) → cond b (x ∷ filter p xs) (filter p xs) ≡ y ∷ more → lt y z ≡ false
    by_test true later e = subst (λ w. lt w z ≡ false) (ap (λ l. head x l) e) a.0
    by_test false later e = later e

kept_tail : {X : Type 0} (b : Bool) (y : X) (p q : List X) → cond b (y ∷ p) p ≡ cond b (y ∷ q) q → p ≡ q
kept_tail true y p q e = ap tail e
kept_tail false y p q e = e

module _ {X : Type 0} (lt : X → X → Bool) (weak : IsStrictWeakOrder lt) where
  self : (x : X) → lt x x ≡ false
  self x = by_test (lt x x) refl
    where
      by_test : (b : Bool) → lt x x ≡ b → lt x x ≡ false
      by_test true e = weak.one_way x x e
      by_test false e = e

  tied : (x y : X) → lt x y ≡ false → lt y x ≡ false → ties lt x y ≡ true
  tied x y p q = ap (λ b. not b && not (lt y x)) p ∙ ap (λ b. not false && not b) q

  taken : (x y : X) (ys : List X) → ties lt x y ≡ true → filter (ties lt x) (y ∷ ys) ≡ y ∷ filter (ties lt x) ys
  taken x y ys e = ap (λ b. cond b (y ∷ filter (ties lt x) ys) (filter (ties lt x) ys)) e

  taken_self : (y : X) (ys : List X) → filter (ties lt y) (y ∷ ys) ≡ y ∷ filter (ties lt y) ys
  taken_self y ys = taken y y ys (tied y y (self y) (self y))

  same : (ys zs : List X) → Up lt ys → Up lt zs → ((x : X) → filter (ties lt x) ys ≡ filter (ties lt x) zs) → ys ≡ zs
  same [] [] u v h = refl
  same [] (z ∷ zs) u v h = absurd (subst IsNil (h z ∙ taken_self z zs) tt)
  same (y ∷ ys) [] u v h = absurd (subst IsNil (sym (h y) ∙ taken_self y ys) tt)
  same (y ∷ ys) (z ∷ zs) u v h =
      ap (λ w. w ∷ ys) front ∙ ap (λ l. z ∷ l) (same ys zs u.1 v.1 rest)
    where
      low : lt y z ≡ false
      low = first_kept lt z y (ties lt y) (z ∷ zs) (filter (ties lt y) ys) (self z, v.0) (sym (h y) ∙ taken_self y ys)

      high : lt z y ≡ false
      high = first_kept lt y z (ties lt z) (y ∷ ys) (filter (ties lt z) zs) (self y, u.0) (h z ∙ taken_self z zs)

      front : y ≡ z
      front = ap (λ l. head y l) (sym (taken_self y ys) ∙ (h y ∙ taken y z zs (tied y z low high)))

      rest : (x : X) → filter (ties lt x) ys ≡ filter (ties lt x) zs
      rest x = kept_tail (ties lt x z) z (filter (ties lt x) ys) (filter (ties lt x) zs)
          (subst (λ w. cond (ties lt x w) (w ∷ filter (ties lt x) ys) (filter (ties lt x) ys) ≡ filter (ties lt x) (z ∷ zs)) front (h x))

  rising : (xs : List X) → IsSortedBy lt xs → Up lt xs
  rising xs s = up_of lt xs (sorted_far lt weak xs s)

-- rows have one order
ordered_once : (order : List OrderPlace) (before a b : List (List Value)) → IsOrdered order before a → IsOrdered order before b → a ≡ b
ordered_once order before a b p q =
    let lt : List Value → List Value → Bool = λ r s. is_lt (row_cmp order r s) in
    same lt (row_weak order) a b (rising lt (row_weak order) a p.sorted) (rising lt (row_weak order) b q.sorted) (λ x. p.stable x ∙ sym (q.stable x))

gives_once : (output : Output) (order : List OrderPlace) (limit : Option ℤ) (rs : List (List Value)) (a b : Answer) → Gives output order limit rs a → Gives output order limit rs b → a ≡ b
gives_once Star order limit rs a b p q = p.2 ∙ (ap (λ l. rows (limited limit l)) (ordered_once order rs p.0 q.0 p.1 q.1) ∙ sym q.2)
gives_once (Plain es) order limit rs a b p q =
    p.2 ∙ (ap (λ l. rows_or_overflow limit (each (λ r. values_in r es) l)) (ordered_once order rs p.0 q.0 p.1 q.1) ∙ sym q.2)
gives_once (Totals ts) order limit rs a b p q = p ∙ sym q

kept_once : (output : Output) (order : List OrderPlace) (limit : Option ℤ) (rs : Result (List (List Value)) Overflow) (a b : Answer) → GivesKept output order limit rs a → GivesKept output order limit rs b → a ≡ b
kept_once output order limit (Ok rs) a b p q = gives_once output order limit rs a b p q
kept_once output order limit (Err e) a b p q = p ∙ sym q

does_once : (schema : Option Schema) (there : List (List Value)) (does : Action) (a b : Answer) → Does schema there does a → Does schema there does b → a ≡ b
does_once schema there action.Create a b p q = p ∙ sym q
does_once schema there (action.Insert tuples) a b p q = p ∙ sym q
does_once schema there (action.Update sets test) a b p q = p ∙ sym q
does_once schema there (action.Delete test) a b p q = p ∙ sym q
does_once schema there (action.Select output test order limit) a b p q = kept_once output order limit _ a b p q
does_once schema there action.Control a b p q = absurd p

unless : (o : Option Refusal) (Is : Answer → Type 0) (a b : Answer) → ((Is a → Is b → a ≡ b)) → MatchOption o (Is a) (λ r. a ≡ refused (reply_of r)) → MatchOption o (Is b) (λ r. b ≡ refused (reply_of r)) → a ≡ b
unless None Is a b f p q = f p q
unless (Some r) Is a b f p q = p ∙ sym q

pub answers_once : OneAnswer AnswersOver
answers_once d st a b p q =
    unless (refusal d.schemas st) (Does (target d.schemas st) (source st (whole d.tables st)) (placed_action (scope d.schemas st) st)) a b
    (does_once (target d.schemas st) (source st (whole d.tables st)) (placed_action (scope d.schemas st) st) a b) p q
