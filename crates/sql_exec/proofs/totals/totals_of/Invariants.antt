use Rattle.std.proofs.Common.{◌≡◌, drop}
use Rattle.sql_exec.specs.Kept.{each}
use Rattle.sql_exec.specs.Totals.{total_of}
use Rattle.sql_exec.proofs.KeptLaws.{front}
use Rattle.sql_exec.proofs.totals.totals_of.Given as goal

abbrev pub invariant-loop-total : goal.invariant-loop-total
invariant-loop-total l = front l.row (each (total_of l.rows) (drop l.total-index l.total-items)) ≡ each (total_of l.rows) l.total-items
