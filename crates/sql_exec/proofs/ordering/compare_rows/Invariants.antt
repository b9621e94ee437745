use Rattle.std.proofs.Common.{◌≡◌, drop}
use Rattle.sql_exec.specs.Order.{row_cmp}
use Rattle.sql_exec.proofs.ordering.compare_rows.Given as goal

abbrev pub invariant-loop-place : goal.invariant-loop-place
invariant-loop-place l = row_cmp (drop l.place-index l.place-items) l.a l.b ≡ row_cmp l.place-items l.a l.b
