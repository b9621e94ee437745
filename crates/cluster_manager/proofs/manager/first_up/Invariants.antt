use Rattle.page_latches.specs.Set.{has}
use Rattle.cluster_manager.proofs.FirstUp.{NoneUp}
use Rattle.cluster_manager.proofs.manager.first_up.Given as goal

abbrev pub invariant-loop-number : goal.invariant-loop-number
invariant-loop-number l = NoneUp (has l.up) l.from l.number
