-- A statement that is evaluated has an answer over each database.
use Rattle.std.proofs.Common.{◌≡◌, zero, suc, ◌+◌, Bool, true, false, Option, Some, None, List, [], ◌∷◌, Result, Ok, Err, if◌then◌else◌, filter, slice_index_or, IsPermutation, MatchOption, arith, ◌⊎◌, inl, inr, refl, sym, subst, ap, ◌∙◌}
use Rattle.std.specs.Ordering.{is_lt}
use Rattle.std.specs.Cmp.{IsStrictWeakOrder}
use Rattle.std.specs.List.Sorted.{IsSortedBy, ties}
use Rattle.std.proofs.lemmas.List.Sorted.{IsPermutation-refl, IsPermutation-cons, IsPermutation-swap, IsPermutation-trans}
use Rattle.sql_values.specs.declared.values.Value.{Value}
use Rattle.sql_values.specs.declared.arithmetic.Overflow.{Overflow}
use Rattle.sql_statements.specs.declared.statements.Stmt.{Stmt}
use Rattle.sql_statements.specs.declared.statements.Stmt.TheVariants as stmt
use Rattle.sql_meaning.specs.declared.refusals.Refusal.{Refusal}
use Rattle.sql_meaning.specs.declared.actions.OrderPlace.{OrderPlace}
use Rattle.sql_meaning.specs.declared.actions.Output.{Output}
use Rattle.sql_meaning.specs.declared.actions.Output.TheVariants.{Star, Plain, Totals}
use Rattle.sql_meaning.specs.Names.{scope}
use Rattle.sql_meaning.specs.Places.{placed_action}
use Rattle.sql_meaning.specs.Refusals.{refusal}
use Rattle.sql_database.specs.Answers.{Answer, refused}
use Rattle.sql_database.specs.Rules.{SomeAnswer}
use Rattle.sql_database.specs.Statements.{IsEvaluated}
use Rattle.sql_exec.specs.Answer.{Does, Gives, GivesKept, reply_of, source, target}
use Rattle.sql_database.specs.Database.{Database}
use Rattle.sql_exec.specs.Whole.{AnswersOver, whole}
use Rattle.sql_exec.specs.Order.{IsOrdered, row_cmp}
use Rattle.sql_exec.proofs.OrderLaws.{row_weak}

abbrev Row : Type 0
Row = List Value

-- ---- rows in order

abbrev put_in : (Row → Row → Bool) → Row → List Row → List Row
put_in lt x [] = x ∷ []
put_in lt x (y ∷ ys) = if lt y x then y ∷ put_in lt x ys else x ∷ (y ∷ ys)

abbrev sort : (Row → Row → Bool) → List Row → List Row
sort lt [] = []
sort lt (x ∷ xs) = put_in lt x (sort lt xs)

module _ (lt : Row → Row → Bool) (weak : IsStrictWeakOrder lt) where
  put_perm : (x : Row) (ys : List Row) → IsPermutation (x ∷ ys) (put_in lt x ys)
  put_perm x [] = IsPermutation-refl (x ∷ [])
  put_perm x (y ∷ ys) = by_test (put_perm x ys) (lt y x)
    where
      by_test : IsPermutation (x ∷ ys) (put_in lt x ys) → (b : Bool) → IsPermutation (x ∷ (y ∷ ys)) (if b then y ∷ put_in lt x ys else x ∷ (y ∷ ys))
      by_test more true = IsPermutation-trans (x ∷ (y ∷ ys)) (y ∷ (x ∷ ys)) (y ∷ put_in lt x ys) (IsPermutation-swap (x ∷ (y ∷ ys)) (y ∷ (x ∷ ys)) 0 1 (omega arith) (omega arith) refl) (IsPermutation-cons y (x ∷ ys) (put_in lt x ys) more)
      by_test more false = IsPermutation-refl (x ∷ (y ∷ ys))

  sort_perm : (xs : List Row) → IsPermutation xs (sort lt xs)
  sort_perm [] = IsPermutation-refl []
  sort_perm (x ∷ xs) = IsPermutation-trans (x ∷ xs) (x ∷ sort lt xs) (put_in lt x (sort lt xs)) (IsPermutation-cons x xs (sort lt xs) (sort_perm xs)) (put_perm x (sort lt xs))

  sorted_cons : (x : Row) (xs : List Row) → ((y : Row) (ys : List Row) → xs ≡ y ∷ ys → lt y x ≡ false) → IsSortedBy lt xs → IsSortedBy lt (x ∷ xs)
  sorted_cons x [] h s k d l b = absurd (omega (arith, b))
  sorted_cons x (y ∷ ys) h s zero d l b = h y ys refl
  sorted_cons x (y ∷ ys) h s (suc k) d l b = subst (λ n. lt (slice_index_or (x ∷ (y ∷ ys)) n d) (slice_index_or (y ∷ ys) k d) ≡ false) (let e : suc (k + 1) ≡ suc k + 1 = omega arith in e) (s k d (omega arith) (omega (arith, b)))

  sorted_tail : (y : Row) (ys : List Row) → IsSortedBy lt (y ∷ ys) → IsSortedBy lt ys
  sorted_tail y ys s k d l b = subst (λ n. lt (slice_index_or (y ∷ ys) n d) (slice_index_or ys k d) ≡ false) (let e : suc k + 1 ≡ suc (k + 1) = omega arith in e) (s (suc k) d (omega arith) (omega (arith, b)))

  first_put : (x : Row) (ys : List Row) (z : Row) (zs : List Row) → put_in lt x ys ≡ z ∷ zs → (z ≡ x) ⊎ ((ws : List Row) × (ys ≡ z ∷ ws))
  first_put x [] z zs e = inl (let q : x ≡ z = grind arith in sym q)
  first_put x (w ∷ ws) z zs e = by_test (lt w x) e
    where
      by_test : (b : Bool) → (if b then w ∷ put_in lt x ws else x ∷ (w ∷ ws)) ≡ z ∷ zs → (z ≡ x) ⊎ ((vs : List Row) × (w ∷ ws ≡ z ∷ vs))
      by_test true e = let q : w ≡ z = grind arith in inr (ws, ap (λ v. v ∷ ws) q)
      by_test false e = inl (let q : x ≡ z = grind arith in sym q)

  put_sorted : (x : Row) (ys : List Row) → IsSortedBy lt ys → IsSortedBy lt (put_in lt x ys)
  put_sorted x [] s = sorted_cons x [] (λ y ys e. absurd (grind arith)) s
  put_sorted x (y ∷ ys) s = by_test (put_sorted x ys (sorted_tail y ys s)) (lt y x) refl
    where
      head : (z : Row) (zs : List Row) → lt y x ≡ true → (z ≡ x) ⊎ ((ws : List Row) × (ys ≡ z ∷ ws)) → lt z y ≡ false
      head z zs e (inl q) = subst (λ v. lt v y ≡ false) (sym q) (weak.one_way y x e)
      head z zs e (inr q) = subst (λ vs. IsSortedBy lt (y ∷ vs)) q.1 s 0 z (omega arith) (omega arith)

      by_test : IsSortedBy lt (put_in lt x ys) → (b : Bool) → lt y x ≡ b → IsSortedBy lt (if b then y ∷ put_in lt x ys else x ∷ (y ∷ ys))
      by_test more true e = sorted_cons y (put_in lt x ys) (λ z zs q. head z zs e (first_put x ys z zs q)) more
      by_test more false e = sorted_cons x (y ∷ ys) (λ z zs q. let w : y ≡ z = grind arith in subst (λ v. lt v x ≡ false) w e) s

  sort_sorted : (xs : List Row) → IsSortedBy lt (sort lt xs)
  sort_sorted [] = λ k d l b. absurd (omega (arith, b))
  sort_sorted (x ∷ xs) = put_sorted x (sort lt xs) (sort_sorted xs)

  put_stable : (z x : Row) (ys : List Row) → filter (ties lt z) (put_in lt x ys) ≡ filter (ties lt z) (x ∷ ys)
  put_stable z x [] = refl
  put_stable z x (y ∷ ys) = by_test (put_stable z x ys) (lt y x) refl
    where
      swap : (b c : Bool) (F : List Row) → (b ≡ true → c ≡ true → ⊥) → (if b then y ∷ (if c then x ∷ F else F) else (if c then x ∷ F else F)) ≡ (if c then x ∷ (if b then y ∷ F else F) else (if b then y ∷ F else F))
      swap true true F f = absurd (f refl refl)
      swap true false F f = refl
      swap false c F f = refl

      apart : lt y x ≡ true → ties lt z y ≡ true → ties lt z x ≡ true → ⊥
      apart e p q = let a : lt y z ≡ false = grind arith in let b : lt z x ≡ false = grind arith in let c = weak.chain y z x a b in grind arith

      by_test : filter (ties lt z) (put_in lt x ys) ≡ filter (ties lt z) (x ∷ ys) → (b : Bool) → lt y x ≡ b → filter (ties lt z) (if b then y ∷ put_in lt x ys else x ∷ (y ∷ ys)) ≡ filter (ties lt z) (x ∷ (y ∷ ys))
      by_test more true e = ap (λ F. if ties lt z y then y ∷ F else F) more ∙ swap (ties lt z y) (ties lt z x) (filter (ties lt z) ys) (apart e)
      by_test more false e = refl

  sort_stable : (z : Row) (xs : List Row) → filter (ties lt z) (sort lt xs) ≡ filter (ties lt z) xs
  sort_stable z [] = refl
  sort_stable z (x ∷ xs) = put_stable z x (sort lt xs) ∙ ap (λ F. if ties lt z x then x ∷ F else F) (sort_stable z xs)

ordered : (order : List OrderPlace) (rs : List Row) → (sorted : List Row) × IsOrdered order rs sorted
ordered order rs = let lt : Row → Row → Bool = λ r s. is_lt (row_cmp order r s) in
    (sort lt rs, record { permutation = sort_perm lt (row_weak order) rs; sorted = sort_sorted lt (row_weak order) rs; stable = λ z. sort_stable lt (row_weak order) z rs })

-- ---- answers

abbrev Answered : (Answer → Type 0) → Type 0
Answered Is = (a : Answer) × Is a

gives : (output : Output) (order : List OrderPlace) (limit : Option _) (rs : List Row) → Answered (Gives output order limit rs)
gives Star order limit rs = let o = ordered order rs in (_, (o.0, o.1, refl))
gives (Plain es) order limit rs = let o = ordered order rs in (_, (o.0, o.1, refl))
gives (Totals ts) order limit rs = (_, refl)

gives_kept : (output : Output) (order : List OrderPlace) (limit : Option _) (r : Result (List Row) Overflow) → Answered (GivesKept output order limit r)
gives_kept output order limit (Ok rs) = gives output order limit rs
gives_kept output order limit (Err e) = (_, refl)

does : (st : Stmt) (d : Database) → IsEvaluated st → Answered (Does (target d.schemas st) (source st (whole d.tables st)) (placed_action (scope d.schemas st) st))
does (stmt.Create s) d k = (_, refl)
does (stmt.Insert t names tuples) d k = (_, refl)
does (stmt.Update t sets test) d k = (_, refl)
does (stmt.Delete t test) d k = (_, refl)
does (stmt.Select q) d k = gives_kept _ _ _ _
does stmt.Begin d k = absurd k
does stmt.Commit d k = absurd k
does stmt.Rollback d k = absurd k

-- each statement that is evaluated has an answer
pub answered : SomeAnswer AnswersOver
answered d st k = by_refusal (refusal d.schemas st)
  where
    by_refusal : (o : Option Refusal) → (a : Answer) × MatchOption o (Does (target d.schemas st) (source st (whole d.tables st)) (placed_action (scope d.schemas st) st) a) (λ r. a ≡ refused (reply_of r))
    by_refusal None = does st d k
    by_refusal (Some r) = (refused (reply_of r), refl)
