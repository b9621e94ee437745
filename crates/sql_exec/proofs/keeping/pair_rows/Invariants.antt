use Rattle.std.proofs.Common.{◌≡◌, ◌++◌, drop}
use Rattle.sql_exec.specs.Kept.{pairs}
use Rattle.sql_exec.proofs.keeping.pair_rows.Given as goal

abbrev pub invariant-loop-at : goal.invariant-loop-at
invariant-loop-at l = l.joined ++ pairs (drop l.at l.rows.left) (drop l.at l.rows.right) ≡ pairs l.rows.left l.rows.right
