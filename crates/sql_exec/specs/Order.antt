-- Stated: the order of ORDER BY.
use Rattle.std.specs.Prelude.{ℕ, ℤ, pos, negsuc, if◌then◌else◌, List, [], ◌∷◌, take, Option, Some, None, IsPermutation, IsSorted}
use Rattle.std.specs.List.Sorted.{IsStable}
use Rattle.std.specs.declared.cmp.Ordering.{Ordering}
use Rattle.std.specs.Ordering.{ordering_then}
use Rattle.sql_values.specs.declared.values.Value.{Value}
use Rattle.sql_values.specs.Order.{value_cmp}
use Rattle.sql_meaning.specs.declared.actions.OrderPlace.{OrderPlace}
use Rattle.sql_meaning.specs.Evaluation.{cell_of}

-- two rows by one column: NULL first in ASC and last in DESC
abbrev pub place_cmp : OrderPlace → List Value → List Value → Ordering
place_cmp o r s = if o.desc then value_cmp (cell_of s o.place) (cell_of r o.place) else value_cmp (cell_of r o.place) (cell_of s o.place)

-- by the first column, then by the next where that ties
abbrev pub row_cmp : List OrderPlace → List Value → List Value → Ordering
row_cmp [] r s = Ordering.Equal
row_cmp (o ∷ os) r s = ordering_then (place_cmp o r s) (row_cmp os r s)

-- the same rows in that order, and rows that tie as they stood
pub record IsOrdered (order : List OrderPlace) (before after : List (List Value)) : Type 0 where
  pub permutation : IsPermutation before after
  pub sorted : IsSorted (row_cmp order) after
  pub stable : IsStable (row_cmp order) before after

abbrev pub count_of : ℤ → ℕ
count_of (pos n) = n
count_of (negsuc n) = 0

-- the first rows, as LIMIT says
abbrev pub limited : Option ℤ → List (List Value) → List (List Value)
limited None rows = rows
limited (Some n) rows = take (count_of n) rows
