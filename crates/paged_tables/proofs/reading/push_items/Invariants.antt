use Rattle.std.proofs.Common.{◌≡◌, ◌++◌, map, take}
use Rattle.std.specs.Prelude.{filter}
use Rattle.std.specs.List.{AllByRecursion}
use Rattle.page_view.specs.Leaf.{IsLeaf, leaf_bytes}
use Rattle.bplus_tree.specs.Walk as walk
use Rattle.paged_tables.proofs.reading.push_items.Given as goal

-- the items in range before this place have joined those that were there
abbrev pub invariant-loop-i : goal.invariant-loop-i
invariant-loop-i l = record {
  spelled : map leaf_bytes l.found ≡ map leaf_bytes l.initial.found ++ filter (walk.in_range l.range.low l.range.high) (take l.i l.page.items);
  are_leaves : AllByRecursion IsLeaf l.initial.found → AllByRecursion IsLeaf l.found;
}
