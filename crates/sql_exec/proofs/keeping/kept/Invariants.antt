use Rattle.std.proofs.Common.{◌≡◌, drop, option_map}
use Rattle.sql_meaning.specs.Terms.{term}
use Rattle.sql_exec.specs.Kept.{kept}
use Rattle.sql_exec.proofs.KeptLaws.{front}
use Rattle.sql_exec.proofs.keeping.kept.Given as goal

abbrev pub invariant-loop-row : goal.invariant-loop-row
invariant-loop-row l = front l.kept (kept (option_map term l.test) (drop l.row-index l.row-items)) ≡ kept (option_map term l.test) l.row-items
