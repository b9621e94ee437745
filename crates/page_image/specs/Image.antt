-- Stated: A page as its readers see it, and what each change of a page does to it.
use Rattle.std.specs.Prelude.{◌≡◌, ◌≢◌, ◌≤◌, ◌<◌, ◌+◌, ◌-◌, ◌⊎◌, ◌==◌, ℕ, Bool, true, false, List, [], ◌++◌, length, take, drop, replicate, insert, remove, sum_by, if◌then◌else◌}
use Rattle.rm_base.specs.declared.limits.TheConstants.{MAX_PAGE_ID, PAGE_BYTES, PAGE_HEADER_BYTES}
use Rattle.page_image.specs.declared.kind.Kind.{Kind}
use Rattle.page_image.specs.declared.kind.Kind.TheVariants.{Unmade, Meta, Slots, Stamps, Leaf, Inner, Undo}

-- a page: its header, its items where it has slots, and its bytes past the header where it has fields
pub record Image : Type 0 where
  pub kind : Kind
  pub page : ℕ
  pub lsn : ℕ
  pub structure : ℕ
  pub next : ℕ
  pub level : ℕ
  pub items : List (List ℕ)
  pub body : List ℕ

-- a kind's number in pages and in redo
abbrev pub kind_number : Kind → ℕ
kind_number Unmade = 0
kind_number Meta = 1
kind_number Slots = 2
kind_number Stamps = 3
kind_number Leaf = 4
kind_number Inner = 5
kind_number Undo = 6

-- the kind with that number; numbers past 6 are no kind's, and give `Unmade`
abbrev pub kind_with : ℕ → Kind
kind_with n =
    if n == 1 then Meta
    else (if n == 2 then Slots
    else (if n == 3 then Stamps
    else (if n == 4 then Leaf
    else (if n == 5 then Inner
    else (if n == 6 then Undo
    else Unmade)))))

-- leaf, inner and undo pages have slots
abbrev pub is_slotted : Kind → Bool
is_slotted Unmade = false
is_slotted Meta = false
is_slotted Slots = false
is_slotted Stamps = false
is_slotted Leaf = true
is_slotted Inner = true
is_slotted Undo = true

-- meta, slots and stamp pages have a body of fields
abbrev pub has_body : Kind → Bool
has_body Unmade = false
has_body Meta = true
has_body Slots = true
has_body Stamps = true
has_body Leaf = false
has_body Inner = false
has_body Undo = false

abbrev pub is_inner : Kind → Bool
is_inner Unmade = false
is_inner Meta = false
is_inner Slots = false
is_inner Stamps = false
is_inner Leaf = false
is_inner Inner = true
is_inner Undo = false

-- an inner page is at level 1 to 8, every other at 0
abbrev pub LevelFits : Kind → ℕ → Type 0
LevelFits Inner level = (1 ≤ level) × (level ≤ 8)
LevelFits _ level = level ≡ 0

-- the page p before it is made
abbrev pub unmade : ℕ → Image
unmade p = record { kind = Unmade; page = p; lsn = 0; structure = 0; next = 0; level = 0; items = []; body = [] }

-- the bytes that the items and their slots take
abbrev pub used : List (List ℕ) → ℕ
used items = sum_by (λ item. length item + 2) items

-- the bytes left between the slots and the items; a page without slots has none
abbrev pub free_of : Image → ℕ
free_of im = if is_slotted im.kind then PAGE_BYTES - PAGE_HEADER_BYTES - used im.items else 0

-- the structure number after a change of the items: an inner page takes the change's LSN, others keep theirs
abbrev pub structure_after : Image → ℕ → ℕ
structure_after im lsn = if is_inner im.kind then lsn else im.structure

-- a page can be made of an unmade page, and an inner page also of a tree page that was cut empty
pub record CanMake (im : Image) (kind : Kind) (level : ℕ) : Type 0 where
  pub some : kind ≢ Unmade
  pub fits : LevelFits kind level
  pub from : (im.kind ≡ Unmade) ⊎ (((im.kind ≡ Leaf) ⊎ (im.kind ≡ Inner)) × (im.items ≡ []) × (kind ≡ Inner))

-- so many zero bytes
unfoldable pub zeros : ℕ → List ℕ
zeros n = replicate n 0

-- the empty page of that kind
abbrev pub made : Image → Kind → ℕ → ℕ → Image
made im kind level lsn =
    record {
      kind = kind;
      page = im.page;
      lsn = lsn;
      structure = lsn;
      next = 0;
      level = level;
      items = [];
      body = if has_body kind then zeros (PAGE_BYTES - PAGE_HEADER_BYTES) else [];
    }

-- bytes can be patched within the body; `at` counts from the start of the page
pub record CanPatch (im : Image) (at : ℕ) (bytes : List ℕ) : Type 0 where
  pub fields : has_body im.kind ≡ true
  pub past_header : PAGE_HEADER_BYTES ≤ at
  pub within : at + length bytes ≤ PAGE_BYTES

-- the body with the bytes at `at`
abbrev pub patched : Image → ℕ → List ℕ → ℕ → Image
patched im at bytes lsn =
    let place = at - PAGE_HEADER_BYTES in
    record im { lsn = lsn; body = take place im.body ++ (bytes ++ drop (place + length bytes) im.body) }

-- an item can join at place i where the page has room for it and its slot
pub record CanInsert (im : Image) (i : ℕ) (item : List ℕ) : Type 0 where
  pub slotted : is_slotted im.kind ≡ true
  pub some : 1 ≤ length item
  pub place : i ≤ length im.items
  pub room : length item + 2 ≤ free_of im

abbrev pub inserted : Image → ℕ → List ℕ → ℕ → Image
inserted im i item lsn =
    record im { lsn = lsn; structure = structure_after im lsn; items = insert im.items i item }

-- the item at place i can leave
pub record CanRemove (im : Image) (i : ℕ) : Type 0 where
  pub slotted : is_slotted im.kind ≡ true
  pub there : i < length im.items

abbrev pub removed : Image → ℕ → ℕ → Image
removed im i lsn = record im { lsn = lsn; structure = structure_after im lsn; items = remove im.items i }

-- the items from a place on can leave
pub record CanCut (im : Image) (from : ℕ) : Type 0 where
  pub slotted : is_slotted im.kind ≡ true
  pub within : from ≤ length im.items

abbrev pub cut_from : Image → ℕ → ℕ → Image
cut_from im from lsn = record im { lsn = lsn; structure = lsn; items = take from im.items }

-- the page can be linked to a page, or to none by 0
pub record CanLink (im : Image) (next : ℕ) : Type 0 where
  pub slotted : is_slotted im.kind ≡ true
  pub bound : next ≤ MAX_PAGE_ID

abbrev pub linked : Image → ℕ → ℕ → Image
linked im next lsn = record im { lsn = lsn; structure = lsn; next = next }

-- a change's LSN is not 0 and not below the page's
pub record Follows (im : Image) (lsn : ℕ) : Type 0 where
  pub some : 1 ≤ lsn
  pub later : im.lsn ≤ lsn
