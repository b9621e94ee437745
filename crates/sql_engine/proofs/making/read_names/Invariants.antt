use Rattle.std.proofs.Common.{take}
use Rattle.std.specs.List.{AllByRecursion}
use Rattle.sql_values.specs.Tables.{IsNamed}
use Rattle.sql_engine.proofs.making.read_names.Given as goal

abbrev pub invariant-loop-column : goal.invariant-loop-column
invariant-loop-column l = AllByRecursion IsNamed (take l.column-index l.column-items)
