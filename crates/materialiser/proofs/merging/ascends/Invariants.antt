use Rattle.std.proofs.Common.{drop}
use Rattle.redo_record.specs.Effect.{Ascends}
use Rattle.materialiser.proofs.merging.ascends.Given as goal

-- the rest ascend from the last one looked at exactly where all ascend
abbrev pub invariant-loop-group : goal.invariant-loop-group
invariant-loop-group l =
    (Ascends l.before (drop l.group-index l.group-items) → Ascends 0 l.group-items)
    × (Ascends 0 l.group-items → Ascends l.before (drop l.group-index l.group-items))
