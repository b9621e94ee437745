use Rattle.std.proofs.Common.{◌≡◌, drop}
use Rattle.sql_exec.specs.Kept.{each, values_in}
use Rattle.sql_exec.proofs.KeptLaws.{front}
use Rattle.sql_exec.proofs.selecting.items_of.Given as goal

abbrev pub invariant-loop-row : goal.invariant-loop-row
invariant-loop-row l = front l.items (each (λ row. values_in row l.exprs) (drop l.row-index l.row-items)) ≡ each (λ row. values_in row l.exprs) l.row-items
