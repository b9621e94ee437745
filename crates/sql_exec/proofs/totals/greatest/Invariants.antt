use Rattle.std.proofs.Common.{◌≡◌}
use Rattle.sql_exec.specs.Totals.{greatest_of}
use Rattle.sql_exec.proofs.totals.greatest.Given as goal

abbrev pub invariant-loop-value : goal.invariant-loop-value
invariant-loop-value l = l.greatest ≡ greatest_of l.yielded
