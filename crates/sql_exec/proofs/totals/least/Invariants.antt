use Rattle.std.proofs.Common.{◌≡◌}
use Rattle.sql_exec.specs.Totals.{least_of}
use Rattle.sql_exec.proofs.totals.least.Given as goal

abbrev pub invariant-loop-value : goal.invariant-loop-value
invariant-loop-value l = l.least ≡ least_of l.yielded
