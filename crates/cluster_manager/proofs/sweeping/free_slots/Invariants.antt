use Rattle.std.proofs.Common.{map}
use Rattle.std.specs.Map.Iter.{deref_pair}
use Rattle.cluster_manager.specs.Freeing.{Frees}
use Rattle.cluster_manager.proofs.Removing.{GoesAmong}
use Rattle.cluster_manager.proofs.sweeping.free_slots.Given as goal

abbrev pub invariant-loop-entry : goal.invariant-loop-entry
invariant-loop-entry l = Frees (GoesAmong (map deref_pair l.yielded) l.tail) l.initial.slabs l.slabs
