use Rattle.std.proofs.Common.{◌≡◌, ◌≤◌, ◌*◌, take}
use Rattle.std.specs.List.{sum_by}
use Rattle.slab_node.specs.Slabs.{slots_up}
use Rattle.slab_node.proofs.slabs.Slabs.live_slots.Given as goal

abbrev pub invariant-loop-slab : goal.invariant-loop-slab
invariant-loop-slab l = record {
  sum : l.slots ≡ sum_by slots_up (take l.slab-index l.slab-items);
  bound : l.slots ≤ 65536 * l.slab-index;
}
