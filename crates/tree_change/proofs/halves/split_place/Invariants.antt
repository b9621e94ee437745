use Rattle.std.proofs.Common.{◌≡◌, ◌<◌, ℕ, take}
use Rattle.page_image.specs.Image.{used}
use Rattle.tree_change.specs.declared.halves.TheConstants.{HALF_BYTES}
use Rattle.tree_change.proofs.halves.split_place.Given as goal

abbrev pub invariant-loop-i : goal.invariant-loop-i
invariant-loop-i l = record {
  is : l.used ≡ used (take l.i l.page.items);
  lesser : (k : ℕ) → k < l.i → used (take k l.page.items) < HALF_BYTES;
}
