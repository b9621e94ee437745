use Rattle.std.proofs.Common.{◌≡◌, ◌+◌, drop}
use Rattle.sql_front.specs.Printed.{written, further_columns}
use Rattle.sql_front.proofs.showing.further_columns.Given as goal

-- what is written from here on is what is written in all
abbrev pub invariant-columns : goal.invariant-columns
invariant-columns l =
    (l.at ≡ 1 + l.column-index)
    × (written l.out (further_columns l.key l.at (drop l.column-index l.columns)) ≡ written l.initial.out (further_columns l.key 1 l.columns))
