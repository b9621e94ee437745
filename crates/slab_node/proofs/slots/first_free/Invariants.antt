use Rattle.std.proofs.Common.{◌≡◌, ℕ, ◌<◌, ◌≤◌, false}
use Rattle.slab_node.specs.Free.{is_free}
use Rattle.slab_node.proofs.slots.first_free.Given as goal

abbrev pub invariant-loop-slot : goal.invariant-loop-slot
invariant-loop-slot l = (t : ℕ) → l.from ≤ t → t < l.slot → is_free l.taken t ≡ false
