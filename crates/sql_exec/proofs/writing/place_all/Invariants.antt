use Rattle.std.proofs.Common.{◌≡◌, drop}
use Rattle.sql_exec.specs.Kept.{each}
use Rattle.sql_exec.specs.Changes.{placing}
use Rattle.sql_exec.proofs.KeptLaws.{front}
use Rattle.sql_exec.proofs.writing.place_all.Given as goal

abbrev pub invariant-loop-row : goal.invariant-loop-row
invariant-loop-row l = front l.changes (each (placing l.schema) (drop l.row-index l.row-items)) ≡ each (placing l.schema) l.row-items
