use Rattle.std.proofs.Common.{◌≡◌, ◌≤◌, length, take}
use Rattle.rm_base.proofs.few.FewDuplicate.copy.Given as goal

-- the items copied so far are the first ones of the list, which is within its capacity
abbrev pub invariant-loop-item : goal.invariant-loop-item
invariant-loop-item g l = l.copied-inside.items.items ≡ take l.item-index l.item-items
