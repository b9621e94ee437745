-- Stated: the meta page and the slots page, and the numbers of the meta page.
use Rattle.std.specs.Prelude.{◌≡◌, ℕ, drop}
use Rattle.rm_base.specs.declared.limits.TheConstants.{META_PAGE_ID, SLOTS_PAGE_ID}
use Rattle.rm_base.specs.Fields.{number}
use Rattle.page_image.specs.declared.kind.Kind.TheVariants.{Meta, Slots}
use Rattle.page_image.specs.Image.{Image}

pub record IsMeta (meta : Image) : Type 0 where
  pub kind : meta.kind ≡ Meta
  pub number : meta.page ≡ META_PAGE_ID

pub record IsSlots (slots : Image) : Type 0 where
  pub kind : slots.kind ≡ Slots
  pub number : slots.page ≡ SLOTS_PAGE_ID

-- how many pages are taken
abbrev pub page_count : Image → ℕ
page_count meta = number 4 (drop 4 meta.body)

-- how many pages are taken, the undo page in use, the next transaction's number, the last commit's stamp
pub record Counters : Type 0 where
  pub pages : ℕ
  pub undo_page : ℕ
  pub next : ℕ
  pub last : ℕ

abbrev pub counters_of : Image → Counters
counters_of meta =
    record {
      pages = page_count meta;
      undo_page = number 4 (drop 8 meta.body);
      next = number 8 (drop 12 meta.body);
      last = number 8 (drop 20 meta.body);
    }
