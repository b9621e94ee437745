use Rattle.page_store.specs.Stored.{pages_of}
use Rattle.bplus_tree.specs.Forest.{IsRoot}
use Rattle.version_tests.proofs.undoing.fill.Given as goal

abbrev pub invariant-loop-key : goal.invariant-loop-key
invariant-loop-key l = IsRoot (pages_of l.store) l.root
