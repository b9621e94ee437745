use Rattle.std.proofs.Common.{◌≡◌, [], drop}
use Rattle.sql_exec.specs.Kept.{each, values_in}
use Rattle.sql_exec.proofs.KeptLaws.{front}
use Rattle.sql_exec.proofs.keeping.all_values.Given as goal

abbrev pub invariant-loop-tuple : goal.invariant-loop-tuple
invariant-loop-tuple l = front l.rows (each (λ t. values_in [] t) (drop l.tuple-index l.tuple-items)) ≡ each (λ t. values_in [] t) l.tuple-items
