-- Stated: what the plans of a transaction's begin and end do to their pages.
use Rattle.std.specs.Prelude.{◌≡◌, ◌≢◌, ◌≤◌, ◌<◌, ◌+◌, ℕ, List, [], ◌∷◌, length, nat_eq, if◌then◌else◌}
use Rattle.std.specs.List.{AllByRecursion}
use Rattle.page_image.specs.declared.kind.Kind.TheVariants.{Stamps}
use Rattle.page_image.specs.Image.{Image, unmade}
use Rattle.redo_record.specs.declared.redo.Record.{Record}
use Rattle.redo_record.specs.Effect.{after_records, RecordsApply}
use Rattle.redo_record.specs.Spelling.{IsAdmitted}
use Rattle.rm_base.specs.declared.places.UndoPtr.{UndoPtr}
use Rattle.page_image.specs.Meta.{Counters, IsMeta, IsSlots, counters_of}
use Rattle.commit_stamps.specs.declared.slots.Slot.{Slot}
use Rattle.commit_stamps.specs.Fields.{no_undo, free_slot, slot_of}
use Rattle.commit_stamps.specs.Stamping.{IsStampPage, stamp_page, stamp_place, stamp_in}

-- the records can be those of one group; they apply in order to each of these pages, and every other page stays as it is
pub record RunsOn (pages : List Image) (records : List Record) : Type 0 where
  pub some : 1 ≤ length records
  pub most : length records ≤ 65535
  pub each : AllByRecursion IsAdmitted records
  pub applies : (lsn : ℕ) → AllByRecursion (RecordsApply lsn records) pages
  pub only : (lsn : ℕ) (im : Image) → AllByRecursion (λ page. page.page ≢ im.page) pages → after_records lsn records im ≡ im

-- one session's slot becomes this one, and every other slot stays as it is
pub record SetsSlot (old new : Image) (s : ℕ) (slot : Slot) : Type 0 where
  pub kept : IsSlots new
  pub slots : (r : ℕ) → r < 64 → slot_of new r ≡ (if nat_eq r s then slot else slot_of old r)

-- one transaction's stamp becomes this one, and every other stamp of the page stays as it is
pub record SetsStamp (old new : Image) (t stamp : ℕ) : Type 0 where
  pub kept : IsStampPage new t
  pub stamps : (u : ℕ) → IsStampPage old u → stamp_in new u ≡ (if nat_eq u t then stamp else stamp_in old u)

-- the meta page has these counters
pub record SetsCounters (new : Image) (counters : Counters) : Type 0 where
  pub kept : IsMeta new
  pub counters_are : counters_of new ≡ counters

-- the page is a stamp page, and no transaction has a stamp on it
pub record HasNoStamps (new : Image) (page : ℕ) : Type 0 where
  pub kind : new.kind ≡ Stamps
  pub number : new.page ≡ page
  pub none : (u : ℕ) → IsStampPage new u → stamp_in new u ≡ 0

-- the pages that a begin changes
abbrev pub begin_pages : Image → Image → ℕ → List Image
begin_pages meta slots t =
    if nat_eq (stamp_place t) 0 then unmade (stamp_page t) ∷ slots ∷ meta ∷ [] else slots ∷ meta ∷ []

-- Transaction t gets the session's slot, with no undo item, and the next number is one more. Its stamp page is made where it is the
-- first transaction there, and has no stamp then. Nothing else changes.
pub record Begins (meta slots : Image) (s t : ℕ) (records : List Record) : Type 0 where
  pub runs : RunsOn (begin_pages meta slots t) records
  pub slot : (lsn : ℕ) → SetsSlot slots (after_records lsn records slots) s (record { trx = t; last = no_undo })
  pub number : (lsn : ℕ) → SetsCounters (after_records lsn records meta) (record (counters_of meta) { next = t + 1 })
  pub page : stamp_place t ≡ 0 → (lsn : ℕ) → HasNoStamps (after_records lsn records (unmade (stamp_page t))) (stamp_page t)

-- The session's transaction gets the stamp after the last one, which is the last one then, and the session's slot becomes free.
-- Nothing else changes.
pub record Commits (meta slots stamps : Image) (s : ℕ) (records : List Record) : Type 0 where
  pub runs : RunsOn (stamps ∷ slots ∷ meta ∷ []) records
  pub stamp : (lsn : ℕ) → SetsStamp stamps (after_records lsn records stamps) (slot_of slots s).trx ((counters_of meta).last + 1)
  pub slot : (lsn : ℕ) → SetsSlot slots (after_records lsn records slots) s free_slot
  pub last : (lsn : ℕ) → SetsCounters (after_records lsn records meta) (record (counters_of meta) { last = (counters_of meta).last + 1 })

-- the session's slot becomes free, and nothing else changes
pub record Frees (slots : Image) (s : ℕ) (records : List Record) : Type 0 where
  pub runs : RunsOn (slots ∷ []) records
  pub slot : (lsn : ℕ) → SetsSlot slots (after_records lsn records slots) s free_slot

-- the session's transaction has another last undo item, and nothing else changes
pub record Points (slots : Image) (s : ℕ) (at : UndoPtr) (records : List Record) : Type 0 where
  pub runs : RunsOn (slots ∷ []) records
  pub slot : (lsn : ℕ) → SetsSlot slots (after_records lsn records slots) s (record (slot_of slots s) { last = at })
