use Rattle.std.proofs.Common.{◌≡◌, ◌<◌, ◌≤◌, ◌&&◌, ℕ, length, nat_eq, nat_lt, if◌then◌else◌}
use Rattle.page_latches.specs.Set.{has}
use Rattle.home_tables.specs.Numbers.{has_page}
use Rattle.home_tables.proofs.home.mark_due.Given as goal

abbrev pub invariant-loop-number : goal.invariant-loop-number
invariant-loop-number l = record {
  bound : length l.due ≡ length l.initial.due;
  room : 524288 ≤ length l.due;
  small : l.page < 32768;
  marks : (n q : ℕ) → n < 16 → q < 32768 → has_page l.due n q ≡ (if (nat_eq q l.page && nat_lt n l.number) then has l.nodes n else has_page l.initial.due n q);
}
