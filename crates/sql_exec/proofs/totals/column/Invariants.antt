use Rattle.std.proofs.Common.{◌≡◌, drop}
use Rattle.sql_exec.specs.Totals.{column_of}
use Rattle.sql_exec.proofs.KeptLaws.{front}
use Rattle.sql_exec.proofs.totals.column.Given as goal

abbrev pub invariant-loop-row : goal.invariant-loop-row
invariant-loop-row l = front l.values (column_of (drop l.row-index l.row-items) l.expr) ≡ column_of l.row-items l.expr
