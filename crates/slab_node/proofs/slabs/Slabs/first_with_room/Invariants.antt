use Rattle.std.proofs.Common.{◌≡◌, ◌<◌, ℕ, false}
use Rattle.slab_node.specs.Slabs.{has_room, slab_at}
use Rattle.slab_node.proofs.slabs.Slabs.first_with_room.Given as goal

abbrev pub invariant-loop-place : goal.invariant-loop-place
invariant-loop-place l = (k : ℕ) → k < l.place → has_room (slab_at l.slabs k) ≡ false
