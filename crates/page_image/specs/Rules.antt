-- Stated: the rules that every page keeps.
use Rattle.std.specs.Prelude.{◌≡◌, ◌≤◌, ◌<◌, ◌+◌, ◌-◌, ◌*◌, ◌^◌, ◌↔◌, ℕ, true, false, List, [], length, drop, All, Some, slice_get, slice_range}
use Rattle.rm_base.specs.declared.limits.TheConstants.{MAX_PAGE_ID, PAGE_BYTES, PAGE_HEADER_BYTES}
use Rattle.rm_base.specs.Fields.{number}
use Rattle.page_image.specs.declared.kind.Kind.TheVariants.{Unmade}
use Rattle.page_image.specs.Image.{Image, is_slotted, has_body, used, free_of, LevelFits}
use Rattle.page_image.specs.Layout.{header_at, header_of, image_of, page_bytes, end_of}

-- an image of some page
pub record IsImage (im : Image) : Type 0 where
  pub page_bound : im.page ≤ MAX_PAGE_ID
  pub lsn_bound : im.lsn < 2 ^ 64
  pub unmade_only : (im.lsn ≡ 0) ↔ (im.kind ≡ Unmade)
  pub structure_bound : im.structure ≤ im.lsn
  pub next_bound : im.next ≤ MAX_PAGE_ID
  pub next_of_items : is_slotted im.kind ≡ false → im.next ≡ 0
  pub level_fits : LevelFits im.kind im.level
  pub no_items : is_slotted im.kind ≡ false → im.items ≡ []
  pub some_bytes : All (λ item. 1 ≤ length item) im.items
  pub room : used im.items ≤ PAGE_BYTES - PAGE_HEADER_BYTES
  pub no_body : has_body im.kind ≡ false → im.body ≡ []
  pub whole_body : has_body im.kind ≡ true → length im.body ≡ PAGE_BYTES - PAGE_HEADER_BYTES

-- item i stands between the end of the item after it and its own end
pub record IsPlaced (bytes : List ℕ) (i : ℕ) : Type 0 where
  pub from : end_of bytes (i + 1) ≤ end_of bytes i
  pub to : end_of bytes i ≤ PAGE_BYTES
  pub item : slice_get (image_of bytes).items i ≡ Some (slice_range bytes (end_of bytes (i + 1)) (end_of bytes i))

-- bytes that are a page: the spelling of the image that they show. The other fields follow from these two
pub record IsPage (bytes : List ℕ) : Type 0 where
  pub spelled : bytes ≡ page_bytes (image_of bytes)
  pub good : IsImage (image_of bytes)
  pub length_is : length bytes ≡ PAGE_BYTES
  pub header_is : header_at bytes ≡ header_of (image_of bytes)
  pub page_bound : number 4 (drop 4 bytes) ≤ MAX_PAGE_ID
  pub slots_bound : number 2 (drop 2 bytes) ≤ 1354
  pub count : number 2 (drop 2 bytes) ≡ length (image_of bytes).items
  pub free_is : number 2 (drop 28 bytes) - (PAGE_HEADER_BYTES + 2 * number 2 (drop 2 bytes)) ≡ free_of (image_of bytes)
  pub placed : (i : ℕ) → i < length (image_of bytes).items → IsPlaced bytes i
