-- Stated: which pages have room for a change.
use Rattle.std.specs.Prelude.{ℕ, ◌+◌, Bool, List, length, nat_lt, if◌then◌else◌}
use Rattle.rm_base.specs.declared.limits.TheConstants.{RECORD_OVERHEAD_BYTES}
use Rattle.page_image.specs.Image.{Image, is_inner, used, free_of}
use Rattle.page_view.specs.declared.leaf.LeafItem.{LeafItem}
use Rattle.tree_change.specs.declared.room.TheConstants.{INNER_ROOM}
use Rattle.tree_change.specs.Places.{with_key}

-- the bytes of a leaf item, and 2 for its slot
abbrev pub size_of : LeafItem → ℕ
size_of item = RECORD_OVERHEAD_BYTES + length item.key + length item.value + 2

-- the bytes that a leaf has for an item: those that are free, and those of the item that it replaces
abbrev pub room_for : List ℕ → Image → ℕ
room_for key leaf = free_of leaf + used (with_key key leaf.items)

-- a page on the way of an item's change has too little room: an inner page for one more of its items, a leaf for this one
abbrev pub lacks_room : LeafItem → Image → Bool
lacks_room item page = if is_inner page.kind then nat_lt (free_of page) INNER_ROOM else nat_lt (room_for item.key page) (size_of item)
