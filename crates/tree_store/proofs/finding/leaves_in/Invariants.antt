use Rattle.std.proofs.Common.{ℕ, List}
use Rattle.bplus_tree.specs.Tree.{Tree}
use Rattle.bplus_tree.specs.Walk.{pages_left}
use Rattle.bplus_tree.specs.Found.{FindsRange}
use Rattle.page_store.specs.Stored.{pages_of}
use Rattle.tree_store.proofs.WalkLaws.{OnWalk}
use Rattle.tree_store.proofs.finding.leaves_in.Given as goal

abbrev pub invariant-loop-at : goal.invariant-loop-at
invariant-loop-at l =
    (items : List (List ℕ)) (tree : Tree (pages_of l.store) l.fn.root items)
    → (f : FindsRange (pages_of l.store) l.fn.root items tree.nodes l.fn.range.low l.fn.range.high) × OnWalk (pages_of l.store) l.walk l.leaves f.leaves

abbrev pub decreases-loop-at : goal.decreases-loop-at
decreases-loop-at l = pages_left l.walk
