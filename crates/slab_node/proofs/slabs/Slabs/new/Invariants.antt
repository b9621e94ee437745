use Rattle.std.proofs.Common.{◌≡◌, length}
use Rattle.slab_node.specs.Slabs.{AreSlabs, AreNew}
use Rattle.slab_node.proofs.slabs.Slabs.new.Given as goal

abbrev pub invariant-loop-number : goal.invariant-loop-number
invariant-loop-number l = record {
  slabs : AreSlabs l.slabs.items;
  fresh : AreNew l.slabs.items l.slots;
  count : length l.slabs.items ≡ l.number;
}
