use Rattle.std.proofs.Common.{refl}
use Rattle.cluster_manager.proofs.FreeingLemmas.{entry_freed}
use Rattle.cluster_manager.proofs.sweeping.free_slot.Goals as goal

pub returns-then-is_slot : goal.returns-then-is_slot
returns-then-is_slot c =
    entry_freed c.args.entry.now c.args.tail c.args.slabs.now c.give_back.new.self c.in-Some.address c.if-is_slot.ensures.rules (c.if-is_slot.ensures.slot.0 refl) c.in-Some.ensures c.give_back.ensures
