use Rattle.tree_timeline.proofs.examples.refuted_laws.Goals as goal
use Rattle.tree_timeline.proofs.Refuting.{loose, merge, old_next}

pub returns : goal.returns
returns c = record { loose = loose; merge = merge; old_next = old_next }
