use Rattle.std.proofs.Common.{◌≡◌, ◌-◌, ◌++◌, take, drop}
use Rattle.tree_change.specs.Splits.{inserts}
use Rattle.tree_change.proofs.halves.move_items.Given as goal

abbrev pub invariant-loop-i : goal.invariant-loop-i
invariant-loop-i l =
    l.records ≡ l.initial.records ++ inserts l.new (l.from - l.shift) (take (l.i - l.from) (drop l.from l.page.items))
