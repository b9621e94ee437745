use Rattle.std.proofs.Common.{◌≡◌, map, take}
use Rattle.std.specs.Prelude.{filter}
use Rattle.std.specs.List.{AllByRecursion}
use Rattle.page_view.specs.Leaf.{IsLeaf, leaf_bytes}
use Rattle.bplus_tree.specs.Found.{items_of}
use Rattle.bplus_tree.specs.Walk as walk
use Rattle.page_store.specs.Stored.{pages_of}
use Rattle.paged_tables.proofs.reading.items_of_leaves.Given as goal

-- the items in range of the leaves before this one
abbrev pub invariant-loop-leaf : goal.invariant-loop-leaf
invariant-loop-leaf l = record {
  spelled : map leaf_bytes l.found ≡ filter (walk.in_range l.range.low l.range.high) (items_of (pages_of l.store) (take l.leaf-index l.leaves));
  are_leaves : AllByRecursion IsLeaf l.found;
}
