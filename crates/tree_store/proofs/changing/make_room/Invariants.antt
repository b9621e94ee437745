use Rattle.std.proofs.Common.{◌-◌}
use Rattle.page_store.specs.Stored.{pages_of}
use Rattle.page_image.specs.Meta.{page_count}
use Rattle.tree_store.proofs.ChangeLaws.{Stays}
use Rattle.tree_store.proofs.changing.make_room.Given as goal

abbrev pub invariant-loop-path : goal.invariant-loop-path
invariant-loop-path l = Stays l.fn.store l.store l.fn.root

abbrev pub decreases-loop-path : goal.decreases-loop-path
decreases-loop-path l = 32768 - page_count (pages_of l.store 0)
