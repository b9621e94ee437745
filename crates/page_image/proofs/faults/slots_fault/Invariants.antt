use Rattle.std.proofs.Common.{◌≡◌, ◌≤◌, ◌-◌}
use Rattle.page_image.specs.Layout.{end_of}
use Rattle.page_image.specs.Faults.{first_failing, slot_holds}
use Rattle.page_image.proofs.faults.slots_fault.Given as goal

abbrev pub invariant-loop-i : goal.invariant-loop-i
invariant-loop-i l =
    record {
      rest : first_failing (slot_holds l.bytes l.count) l.i (l.count - l.i) ≡ first_failing (slot_holds l.bytes l.count) 0 l.count;
      bound : end_of l.bytes l.i ≤ 4096;
    }
