use Rattle.std.proofs.Common.{◌≡◌, ◌++◌, map, take}
use Rattle.std.specs.Prelude.{filter}
use Rattle.page_view.specs.Leaf.{leaf_of}
use Rattle.bplus_tree.specs.Walk.{in_range}
use Rattle.range_reader.proofs.items.push_leaf.Given as goal

abbrev pub invariant-loop-i : goal.invariant-loop-i
invariant-loop-i l = l.todo.items ≡ l.initial.todo.items ++ map leaf_of (filter (in_range l.range.low l.range.high) (take l.i l.page.items))
