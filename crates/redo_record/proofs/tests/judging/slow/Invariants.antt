use Rattle.std.proofs.Common.{◌≤◌}
use Rattle.redo_record.proofs.tests.judging.slow.Given as goal

abbrev pub invariant-loop : goal.invariant-loop
invariant-loop l = l.at ≤ l.size
