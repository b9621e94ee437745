-- Stated: rows under a test, and values of rows, or that one of them overflows.
use Rattle.std.specs.Prelude.{List, [], ◌∷◌, ◌++◌, map, slice_set, Option, Some, None, Result, Ok, Err}
use Rattle.sql_values.specs.declared.arithmetic.Overflow.{Overflow}
use Rattle.sql_values.specs.declared.logic.Truth.{Truth}
use Rattle.sql_values.specs.declared.logic.Truth.TheVariants.{Yes, No, Unknown}
use Rattle.sql_values.specs.declared.values.Value.{Value}
use Rattle.sql_meaning.specs.declared.resolved.Resolved.{Resolved}
use Rattle.sql_meaning.specs.declared.actions.SetPlace.{SetPlace}
use Rattle.sql_meaning.specs.Evaluation.{value_in, test_in}
use Rattle.sql_meaning.specs.Terms.{Term, term}

-- what is made of both, where neither fails
abbrev pub with_both : {A B C E : Type 0} → (A → B → C) → Result A E → Result B E → Result C E
with_both f (Ok a) (Ok b) = Ok (f a b)
with_both f (Ok a) (Err e) = Err e
with_both f (Err e) b = Err e

-- the list of what is made of each, where none fails
abbrev pub each : {A B E : Type 0} → (A → Result B E) → List A → Result (List B) E
each f [] = Ok []
each f (x ∷ xs) = with_both (λ y ys. y ∷ ys) (f x) (each f xs)

-- a row stands exactly where its test is Yes
abbrev pub if_kept : List Value → Truth → List (List Value)
if_kept row Yes = row ∷ []
if_kept row No = []
if_kept row Unknown = []

-- The rows that a test keeps. It is evaluated for every row.
abbrev pub kept : Option Term → List (List Value) → Result (List (List Value)) Overflow
kept test [] = Ok []
kept test (row ∷ rows) = with_both (λ t more. if_kept row t ++ more) (test_in row test) (kept test rows)

-- the values of expressions in a row
abbrev pub values_in : List Value → List Resolved → Result (List Value) Overflow
values_in row es = each (λ e. value_in row (term e)) es

abbrev pub and_then : {A B : Type 0} → (A → Result B Overflow) → Result A Overflow → Result B Overflow
and_then f (Ok a) = f a
and_then f (Err e) = Err e

-- a row with the columns of SET set, each to a value in the old row
abbrev pub set_all : List Value → List Value → List SetPlace → Result (List Value) Overflow
set_all old row [] = Ok row
set_all old row (s ∷ sets) = and_then (λ v. set_all old (slice_set row s.place v) sets) (value_in old (term s.value))

abbrev pub pairs_of : List Value → Option (List (List Value)) → List (List Value)
pairs_of l None = []
pairs_of l (Some rs) = map (λ r. l ++ r) rs

-- each left row with each of its right rows
abbrev pub pairs : List (List Value) → List (List (List Value)) → List (List Value)
pairs [] rights = []
pairs (l ∷ ls) [] = []
pairs (l ∷ ls) (rs ∷ rights) = map (λ r. l ++ r) rs ++ pairs ls rights
