-- Stated: how a page lies in its bytes: its header, and its slots and items or its body.
use Rattle.std.specs.Prelude.{◌==◌, ◌+◌, ◌-◌, ◌*◌, ℕ, zero, suc, List, [], ◌∷◌, ◌++◌, length, drop, slice_index, slice_range, if◌then◌else◌}
use Rattle.rm_base.specs.declared.limits.TheConstants.{PAGE_BYTES, PAGE_HEADER_BYTES}
use Rattle.rm_base.specs.Fields.{field, number}
use Rattle.page_image.specs.declared.header.Header.{Header}
use Rattle.page_image.specs.Image.{Image, kind_number, kind_with, is_slotted, has_body, zeros, free_of}

-- the bytes of a header: kind, 0, slots, page, LSN, structure, next, low, level, 0
unfoldable pub header_bytes : Header → List ℕ
header_bytes h =
    kind_number h.kind ∷ 0 ∷ []
    ++ (field 2 h.slots ++ (field 4 h.page ++ (field 8 h.lsn ++ (field 8 h.structure
    ++ (field 4 h.next ++ (field 2 h.low ++ h.level ∷ 0 ∷ []))))))

-- the header that stands in front of the bytes
abbrev pub header_at : List ℕ → Header
header_at bytes =
    record {
      kind = kind_with (slice_index bytes 0);
      slots = number 2 (drop 2 bytes);
      page = number 4 (drop 4 bytes);
      lsn = number 8 (drop 8 bytes);
      structure = number 8 (drop 16 bytes);
      next = number 4 (drop 24 bytes);
      low = number 2 (drop 28 bytes);
      level = slice_index bytes 30;
    }

-- the items as they lie at the page's end, each below the one before it
abbrev pub packed : List (List ℕ) → List ℕ
packed [] = []
packed (item ∷ items) = packed items ++ item

-- the slots of items of which the first ends at `end`: the offset of each, in two bytes
abbrev pub slot_bytes : ℕ → List (List ℕ) → List ℕ
slot_bytes end [] = []
slot_bytes end (item ∷ items) = field 2 (end - length item) ++ slot_bytes (end - length item) items

-- the items of n slots, of which the first item ends at `end`
abbrev pub items_at : ℕ → ℕ → List ℕ → List ℕ → List (List ℕ)
items_at zero end slots bytes = []
items_at (suc n) end slots bytes =
    slice_range bytes (number 2 slots) end ∷ items_at n (number 2 slots) (drop 2 slots) bytes

-- where item i ends: at the offset of the item before it, or at the page's end
abbrev pub end_of : List ℕ → ℕ → ℕ
end_of bytes i = if i == 0 then PAGE_BYTES else number 2 (drop (PAGE_HEADER_BYTES + 2 * (i - 1)) bytes)

-- an image's header
abbrev pub header_of : Image → Header
header_of im =
    record {
      kind = im.kind;
      slots = length im.items;
      page = im.page;
      lsn = im.lsn;
      structure = im.structure;
      next = im.next;
      low = if is_slotted im.kind then PAGE_BYTES - length (packed im.items) else 0;
      level = im.level;
    }

-- the bytes past the header
unfoldable pub rest_bytes : Image → List ℕ
rest_bytes im =
    if is_slotted im.kind then slot_bytes PAGE_BYTES im.items ++ (zeros (free_of im) ++ packed im.items)
    else (if has_body im.kind then im.body else zeros (PAGE_BYTES - PAGE_HEADER_BYTES))

-- the one spelling of a page
unfoldable pub page_bytes : Image → List ℕ
page_bytes im = header_bytes (header_of im) ++ rest_bytes im

-- the image whose header is h, with the items or the body that the bytes hold
abbrev pub image_with : Header → List ℕ → Image
image_with h bytes =
    record {
      kind = h.kind;
      page = h.page;
      lsn = h.lsn;
      structure = h.structure;
      next = h.next;
      level = h.level;
      items = if is_slotted h.kind then items_at h.slots PAGE_BYTES (drop PAGE_HEADER_BYTES bytes) bytes else [];
      body = if has_body h.kind then drop PAGE_HEADER_BYTES bytes else [];
    }

-- what the bytes of a page show
abbrev pub image_of : List ℕ → Image
image_of bytes = image_with (header_at bytes) bytes
