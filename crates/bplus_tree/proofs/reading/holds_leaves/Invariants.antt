use Rattle.std.proofs.Common.{take}
use Rattle.std.specs.List.{AllByRecursion}
use Rattle.page_view.specs.Leaf.{HoldsLeaf}
use Rattle.bplus_tree.proofs.reading.holds_leaves.Given as goal

-- the items before the one looked at are read
abbrev pub invariant-loop-i : goal.invariant-loop-i
invariant-loop-i l = AllByRecursion HoldsLeaf (take l.i l.page.items)
