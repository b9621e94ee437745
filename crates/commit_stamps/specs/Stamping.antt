-- Stated: where a transaction's stamp stands, and which stamps a snapshot sees.
use Rattle.std.specs.Prelude.{◌≡◌, ◌≤◌, ◌+◌, ◌-◌, ◌*◌, ◌/◌, ◌%◌, ℕ, Bool, true, false, drop, nat_eq, nat_le, if◌then◌else◌, ◌&&◌, not, Option, Some, None}
use Rattle.rm_base.specs.declared.limits.TheConstants.{FIRST_STAMP_PAGE_ID, STAMPS_PER_PAGE}
use Rattle.rm_base.specs.Fields.{number}
use Rattle.page_image.specs.declared.kind.Kind.{Kind}
use Rattle.page_image.specs.declared.kind.Kind.TheVariants.{Unmade, Meta, Slots, Stamps, Leaf, Inner, Undo}
use Rattle.page_image.specs.Image.{Image}

-- the page of a transaction's stamp: 508 to a page, from page 2 on, for the numbers from 1
abbrev pub stamp_page : ℕ → ℕ
stamp_page t = FIRST_STAMP_PAGE_ID + (t - 1) / STAMPS_PER_PAGE

-- the stamp's place on it
abbrev pub stamp_place : ℕ → ℕ
stamp_place t = (t - 1) % STAMPS_PER_PAGE

-- the page is that of the transaction's stamp
pub record IsStampPage (page : Image) (t : ℕ) : Type 0 where
  pub some : 1 ≤ t
  pub kind : page.kind ≡ Stamps
  pub number : page.page ≡ stamp_page t

-- the stamp of a transaction, on its page; 0 is not committed
abbrev pub stamp_in : Image → ℕ → ℕ
stamp_in page t = number 8 (drop (8 * stamp_place t) page.body)

abbrev pub holds_stamps : Kind → Bool
holds_stamps Unmade = false
holds_stamps Meta = false
holds_stamps Slots = false
holds_stamps Stamps = true
holds_stamps Leaf = false
holds_stamps Inner = false
holds_stamps Undo = false

-- the test of `IsStampPage`
abbrev pub is_stamp_page : Image → ℕ → Bool
is_stamp_page page t = nat_le 1 t && holds_stamps page.kind && nat_eq page.page (stamp_page t)

-- the stamp that a page has for a transaction, or none where it is not the transaction's stamp page
abbrev pub stamp_of : Image → ℕ → Option ℕ
stamp_of page t = if is_stamp_page page t then Some (stamp_in page t) else None

-- a snapshot sees the commits up to it
abbrev pub visible : ℕ → ℕ → Bool
visible stamp snap = not (nat_eq stamp 0) && nat_le stamp snap
