use Rattle.std.proofs.Common.{◌≡◌, take}
use Rattle.rm_base.proofs.items.ItemsDuplicate.copy.Given as goal

-- the items copied so far are the first ones of the list
abbrev pub invariant-loop-item : goal.invariant-loop-item
invariant-loop-item g l = l.items.items ≡ take l.item-index l.item-items
