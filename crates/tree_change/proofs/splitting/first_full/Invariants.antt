use Rattle.std.proofs.Common.{◌≡◌, ◌<◌, ℕ, false}
use Rattle.tree_change.specs.Places.{page_on}
use Rattle.tree_change.specs.Room.{lacks_room}
use Rattle.tree_change.proofs.splitting.first_full.Given as goal

abbrev pub invariant-loop-i : goal.invariant-loop-i
invariant-loop-i l = (k : ℕ) → k < l.i → lacks_room l.item (page_on l.path k) ≡ false
