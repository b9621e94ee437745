use Rattle.std.proofs.Common.{◌≡◌, drop}
use Rattle.sql_exec.specs.Kept.{each, set_all}
use Rattle.sql_exec.proofs.KeptLaws.{front}
use Rattle.sql_exec.proofs.writing.set_rows.Given as goal

abbrev pub invariant-loop-row : goal.invariant-loop-row
invariant-loop-row l = front l.after (each (λ row. set_all row row l.sets) (drop l.row-index l.row-items)) ≡ each (λ row. set_all row row l.sets) l.row-items
