use Rattle.std.proofs.Common.{take}
use Rattle.std.specs.List.{AllByRecursion}
use Rattle.bplus_tree.specs.Walk.{SpellsInner}
use Rattle.bplus_tree.proofs.reading.spells_inners.Given as goal

-- the items before the one looked at are read
abbrev pub invariant-loop-i : goal.invariant-loop-i
invariant-loop-i l = AllByRecursion SpellsInner (take l.i l.page.items)
