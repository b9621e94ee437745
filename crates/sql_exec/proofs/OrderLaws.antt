-- ORDER BY is a total order of rows.
use Rattle.std.proofs.Common.{Bool, true, false, List, [], ◌∷◌, if◌then◌else◌, refl}
use Rattle.std.specs.declared.cmp.Ordering.{Ordering}
use Rattle.std.specs.Ordering.{is_lt}
use Rattle.std.specs.Cmp.{IsTotalOrder, IsStrictWeakOrder}
use Rattle.std.proofs.lemmas.Cmp.{on_total, then_total, back_total}
use Rattle.std.proofs.lemmas.List.Sorted.{ranks_by}
use Rattle.sql_values.specs.declared.values.Value.{Value}
use Rattle.sql_values.specs.Order.{value_cmp}
use Rattle.sql_values.proofs.OrderLaws.{total}
use Rattle.sql_meaning.specs.declared.actions.OrderPlace.{OrderPlace}
use Rattle.sql_meaning.specs.Evaluation.{cell_of}
use Rattle.sql_exec.specs.Order.{row_cmp}

-- all rows tie
none_total : IsTotalOrder {K = List Value} (λ r s. Ordering.Equal)
none_total = record { antisymm = λ x y. refl; trans = λ x y z p q. cc; congr = λ x y z e. refl }

by_cell : (b : Bool) (o : OrderPlace) → IsTotalOrder (λ r s. if b then value_cmp (cell_of s o.place) (cell_of r o.place) else value_cmp (cell_of r o.place) (cell_of s o.place))
by_cell true o = back_total (on_total (λ r. cell_of r o.place) total)
by_cell false o = on_total (λ r. cell_of r o.place) total

pub row_total : (order : List OrderPlace) → IsTotalOrder (row_cmp order)
row_total [] = none_total
row_total (o ∷ os) = then_total (by_cell o.desc o) (row_total os)

pub row_weak : (order : List OrderPlace) → IsStrictWeakOrder (λ r s. is_lt (row_cmp order r s))
row_weak order = ranks_by (row_total order) (λ r. r)
