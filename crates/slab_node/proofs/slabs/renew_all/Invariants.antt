use Rattle.slab_node.proofs.Renewing.{RenewedTo}
use Rattle.slab_node.proofs.slabs.renew_all.Given as goal

abbrev pub invariant-loop-slab : goal.invariant-loop-slab
invariant-loop-slab l = RenewedTo l.initial.slabs l.slabs l.slab-index
