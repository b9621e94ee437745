-- For the proofs: what the small steps of a change need to know.
use Rattle.std.specs.Prelude.{◌≡◌, ◌≤◌, ℕ, List, length}
use Rattle.rm_base.specs.declared.limits.TheConstants.{PAGE_BYTES}
use Rattle.page_image.specs.Layout.{packed, slot_bytes}

-- the bytes are the slots of items of which the first ends at `from`, and there is room to end at `to`
pub record HasSlots (bytes : List ℕ) (from to : ℕ) (items : List (List ℕ)) : Type 0 where
  pub spelled : bytes ≡ slot_bytes from items
  pub in_page : from ≤ PAGE_BYTES
  pub stays_in_page : to ≤ PAGE_BYTES
  pub room : length (packed items) ≤ from
  pub new_room : length (packed items) ≤ to
