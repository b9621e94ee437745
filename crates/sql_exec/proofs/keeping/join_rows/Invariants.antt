use Rattle.std.proofs.Common.{◌≡◌, ◌++◌, take}
use Rattle.sql_exec.proofs.keeping.join_rows.Given as goal

abbrev pub invariant-loop-value : goal.invariant-loop-value
invariant-loop-value l = l.row ≡ l.left ++ take l.value-index l.value-items
