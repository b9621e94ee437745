use Rattle.page_store.specs.Stored.{pages_of}
use Rattle.bplus_tree.specs.Forest.{IsRoot}
use Rattle.tree_store.proofs.tests.items_are_found_by_their_keys.Given as goal

abbrev pub invariant-loop-n : goal.invariant-loop-n
invariant-loop-n g l = IsRoot (pages_of l.store) l.root

abbrev pub invariant-loop-n-2 : goal.invariant-loop-n-2
invariant-loop-n-2 g l = IsRoot (pages_of l.store) l.root
