use Rattle.std.proofs.Common.{◌≡◌, ◌*◌, pos, neg_ℤ, ◌≤ℤ◌, take}
use Rattle.sql_exec.specs.Totals.{exact_total}
use Rattle.sql_exec.proofs.totals.total.Given as goal

abbrev pub invariant-loop-value : goal.invariant-loop-value
invariant-loop-value l = record {
  sum : l.total ≡ exact_total (take l.value-index l.value-items);
  low : neg_ℤ (pos (9223372036854775808 * l.value-index)) ≤ℤ l.total;
  high : l.total ≤ℤ pos (9223372036854775808 * l.value-index);
}
