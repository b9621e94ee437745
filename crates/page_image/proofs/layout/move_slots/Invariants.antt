use Rattle.std.proofs.Common.{◌≡◌, ℕ, List}
use Rattle.page_image.specs.Moves.{HasSlots}
use Rattle.page_image.proofs.StepLaws.{moved_slots}
use Rattle.page_image.proofs.layout.move_slots.Given as goal

abbrev pub invariant-loop-i : goal.invariant-loop-i
invariant-loop-i l = (items : List (List ℕ)) → HasSlots l.fn.slots l.from l.to items → l.slots ≡ moved_slots l.from l.to l.i items
