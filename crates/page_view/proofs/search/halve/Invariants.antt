use Rattle.std.proofs.Common.{◌≤◌, ◌+◌, ◌-◌, ◌*◌, ◌^◌, length}
use Rattle.page_view.specs.Keys.{keys_of, LessBelow, GreaterFrom}
use Rattle.page_view.proofs.search.halve.Given as goal

abbrev pub invariant-loop-low : goal.invariant-loop-low
invariant-loop-low l = record {
  ordered : l.low ≤ l.high;
  within : l.high ≤ length (keys_of l.page.items);
  less : LessBelow (keys_of l.page.items) l.low l.key;
  greater : GreaterFrom (keys_of l.page.items) l.high l.key;
  halved : (l.high - l.low) * 2 ^ l.looks ≤ length l.page.items;
  few : 2 ^ l.looks ≤ 2 * length l.page.items + 1;
}

abbrev pub decreases-loop-low : goal.decreases-loop-low
decreases-loop-low l = l.high - l.low
