use Rattle.bplus_tree.specs.Walk.{pages_left}
use Rattle.page_store.specs.Stored.{pages_of}
use Rattle.tree_store.proofs.WayLaws.{OnWay}
use Rattle.tree_store.proofs.finding.way.Given as goal

abbrev pub invariant-loop-at : goal.invariant-loop-at
invariant-loop-at l = OnWay (pages_of l.store) l.fn.root l.fn.key l.path l.descent

abbrev pub decreases-loop-at : goal.decreases-loop-at
decreases-loop-at l = pages_left l.descent
