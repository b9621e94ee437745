-- A tuple without a value for the key.
use Rattle.std.proofs.Common.{◌≡◌, ◌≤◌, ℕ, zero, suc, List, [], ◌∷◌, ◌++◌, length, Option, Some, None, refl, sym, ◌∙◌, ap, arith}
use Rattle.std.specs.Prelude.{slice_get}
use Rattle.std.specs.Option.{option_map_or}
use Rattle.rm_base.specs.declared.key_range.KeyRange.{KeyRange}
use Rattle.sql_meaning.specs.declared.resolved.Resolved.{Resolved}
use Rattle.sql_meaning.specs.Evaluation.{value_in}
use Rattle.sql_meaning.specs.Ranges.{tuple_range, own_range}
use Rattle.sql_meaning.specs.Terms.{term}

past : (xs : List Resolved) (n : ℕ) → length xs ≤ n → slice_get xs n ≡ None
past [] n h = refl
past (x ∷ xs) zero h = absurd (omega (arith, h))
past (x ∷ xs) (suc n) h = past xs n (omega (arith, h))

append_nil : (xs : List KeyRange) → xs ++ [] ≡ xs
append_nil [] = refl
append_nil (x ∷ xs) = ap (λ (ys : List KeyRange). x ∷ ys) (append_nil xs)

pub no_range : (ranges : List KeyRange) (key : ℕ) (tuple : List Resolved) → length tuple ≤ key → ranges ≡ ranges ++ tuple_range key tuple
no_range ranges key tuple h =
    sym (ap (λ (o : Option Resolved). ranges ++ option_map_or (λ e. own_range (value_in [] (term e))) o []) (past tuple key h) ∙ append_nil ranges)
