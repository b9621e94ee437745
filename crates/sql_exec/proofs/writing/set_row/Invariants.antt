use Rattle.std.proofs.Common.{◌≡◌, drop}
use Rattle.sql_exec.specs.Kept.{set_all}
use Rattle.sql_exec.proofs.writing.set_row.Given as goal

abbrev pub invariant-loop-set : goal.invariant-loop-set
invariant-loop-set l = set_all l.old l.row (drop l.set-index l.set-items) ≡ set_all l.old l.old l.set-items
