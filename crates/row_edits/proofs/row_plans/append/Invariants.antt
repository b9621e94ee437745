use Rattle.std.proofs.Common.{◌≡◌, ◌++◌}
use Rattle.row_edits.proofs.row_plans.append.Given as goal

abbrev pub invariant-loop-record : goal.invariant-loop-record
invariant-loop-record l = l.records ≡ l.initial.records ++ l.yielded
