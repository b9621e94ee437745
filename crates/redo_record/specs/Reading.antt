-- Stated: reading fields and records from left to right. Each word gives what it read and the bytes after it, or none.
use Rattle.std.specs.Prelude.{ℕ, ◌-◌, Bool, List, [], ◌∷◌, length, take, drop, Option, Some, None, option_and_then, nat_lt, nat_le, ◌==◌, ◌&&◌, if◌then◌else◌}
use Rattle.rm_base.specs.declared.limits.TheConstants.{MAX_PAGE_ID, PAGE_BYTES, PAGE_HEADER_BYTES}
use Rattle.rm_base.specs.Fields.{number}
use Rattle.page_image.specs.declared.kind.Kind.{Kind}
use Rattle.page_image.specs.declared.kind.Kind.TheVariants.{Inner}
use Rattle.page_image.specs.Image.{kind_with}
use Rattle.redo_record.specs.declared.redo.Record.{Record}
use Rattle.redo_record.specs.declared.redo.Record.TheVariants.{Make, Patch, InsertSlot, RemoveSlot, Cut, Link}

infixl 10 ◌>>=◌
abbrev pub ◌>>=◌ : {A B : Type 0} → Option A → (A → Option B) → Option B
o >>= f = option_and_then f o

-- one byte
abbrev pub byte_at : List ℕ → Option (ℕ × List ℕ)
byte_at [] = None
byte_at (b ∷ rest) = Some (b, rest)

-- a number of n bytes
abbrev pub number_at : ℕ → List ℕ → Option (ℕ × List ℕ)
number_at n bytes = if nat_lt (length bytes) n then None else Some (number n bytes, drop n bytes)

-- n bytes
abbrev pub taken_at : ℕ → List ℕ → Option (List ℕ × List ℕ)
taken_at n bytes = if nat_lt (length bytes) n then None else Some (take n bytes, drop n bytes)

-- the number of a page, or 0 for none
unfoldable pub page_number_at : List ℕ → Option (ℕ × List ℕ)
page_number_at bytes = do
  n ← number_at 4 bytes
  if nat_le n.0 MAX_PAGE_ID then Some n else None

-- the kind that a page is made of; nothing is made unmade
unfoldable pub kind_at : List ℕ → Option (Kind × List ℕ)
kind_at bytes = do
  n ← byte_at bytes
  if nat_le 1 n.0 && nat_le n.0 6 then Some (kind_with n.0, n.1) else None

-- an inner page is at level 1 to 8, every other at 0
abbrev pub level_fits : Kind → ℕ → Bool
level_fits Inner level = nat_le 1 level && nat_le level 8
level_fits _ level = level == 0

-- bytes behind their number, at least one and at most as many as fit a page beside its header
unfoldable pub counted_at : List ℕ → Option (List ℕ × List ℕ)
counted_at bytes = do
  n ← number_at 2 bytes
  if nat_le 1 n.0 && nat_le n.0 (PAGE_BYTES - PAGE_HEADER_BYTES) then taken_at n.0 n.1 else None

unfoldable pub make_at : List ℕ → Option (Record × List ℕ)
make_at bytes = do
  page ← page_number_at bytes
  kind ← kind_at page.1
  level ← byte_at kind.1
  if level_fits kind.0 level.0 then Some (Make page.0 kind.0 level.0, level.1) else None

unfoldable pub patch_at : List ℕ → Option (Record × List ℕ)
patch_at bytes = do
  page ← page_number_at bytes
  at ← number_at 2 page.1
  new ← counted_at at.1
  Some (Patch page.0 at.0 new.0, new.1)

unfoldable pub insert_at : List ℕ → Option (Record × List ℕ)
insert_at bytes = do
  page ← page_number_at bytes
  index ← number_at 2 page.1
  item ← counted_at index.1
  Some (InsertSlot page.0 index.0 item.0, item.1)

unfoldable pub remove_at : List ℕ → Option (Record × List ℕ)
remove_at bytes = do
  page ← page_number_at bytes
  index ← number_at 2 page.1
  Some (RemoveSlot page.0 index.0, index.1)

unfoldable pub cut_at : List ℕ → Option (Record × List ℕ)
cut_at bytes = do
  page ← page_number_at bytes
  from ← number_at 2 page.1
  Some (Cut page.0 from.0, from.1)

unfoldable pub link_at : List ℕ → Option (Record × List ℕ)
link_at bytes = do
  page ← page_number_at bytes
  next ← page_number_at page.1
  Some (Link page.0 next.0, next.1)

-- the fields behind the byte of what the record does
abbrev pub fields_at : ℕ → List ℕ → Option (Record × List ℕ)
fields_at does rest =
    if does == 1 then make_at rest
    else (if does == 2 then patch_at rest
    else (if does == 3 then insert_at rest
    else (if does == 4 then remove_at rest
    else (if does == 5 then cut_at rest
    else (if does == 6 then link_at rest
    else None)))))

unfoldable pub record_at : List ℕ → Option (Record × List ℕ)
record_at bytes = do
  does ← byte_at bytes
  fields_at does.0 does.1
