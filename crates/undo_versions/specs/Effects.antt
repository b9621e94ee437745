-- Stated: what the records of an undo item do.
use Rattle.std.specs.Prelude.{◌≡◌, ◌≢◌, ◌≤◌, ℕ, List, [], ◌∷◌, ◌++◌, length, drop, Option, Some, None}
use Rattle.std.specs.List.{AllByRecursion}
use Rattle.rm_base.specs.Fields.{number}
use Rattle.page_image.specs.Meta.{page_count}
use Rattle.page_image.specs.declared.kind.Kind.TheVariants.{Meta, Undo}
use Rattle.page_image.specs.Image.{Image, unmade}
use Rattle.redo_record.specs.declared.redo.Record.{Record}
use Rattle.redo_record.specs.Effect.{after_records, RecordsApply}
use Rattle.redo_record.specs.Spelling.{IsAdmitted}
use Rattle.undo_versions.specs.declared.items.UndoItem.{UndoItem}
use Rattle.undo_versions.specs.declared.appending.UndoStep.{UndoStep}
use Rattle.undo_versions.specs.Reading.{older}
use Rattle.undo_versions.specs.Appending.{bytes_of}

-- the records can be those of one group; they apply in order to this page, and every other page stays as it is
pub record RunsOn (page : Image) (records : List Record) : Type 0 where
  pub some : 1 ≤ length records
  pub most : length records ≤ 65535
  pub each : AllByRecursion IsAdmitted records
  pub applies : (lsn : ℕ) → RecordsApply lsn records page
  pub only : (lsn : ℕ) (im : Image) → page.page ≢ im.page → after_records lsn records im ≡ im

-- the page that a step changes: the undo page in use, or the one that the step makes
abbrev pub page_before : Image → Option ℕ → Image
page_before undo None = undo
page_before undo (Some page) = unmade page

-- the undo page has one item more, at its end: at the step's place stands this item
pub record HasNext (old new : Image) (item : UndoItem) (step : UndoStep) : Type 0 where
  pub kind : new.kind ≡ Undo
  pub number : new.page ≡ step.at.page
  pub items : new.items ≡ old.items ++ bytes_of item ∷ []
  pub place : step.at.slot ≡ length old.items
  pub reads : older new step.at ≡ Some item

-- the undo item joins its page, and nothing else changes
pub record Appends (undo : Image) (item : UndoItem) (step : UndoStep) : Type 0 where
  pub runs : RunsOn (page_before undo step.made) step.records
  pub next : (lsn : ℕ) → HasNext (page_before undo step.made) (after_records lsn step.records (page_before undo step.made)) item step

-- the undo page in use
abbrev pub undo_page : Image → ℕ
undo_page meta = number 4 (drop 8 meta.body)

-- the meta page has another count of pages and another undo page in use, and what stands behind these is as it was
pub record CountsUndo (old new : Image) (count page : ℕ) : Type 0 where
  pub kind : new.kind ≡ Meta
  pub number : new.page ≡ old.page
  pub count_is : page_count new ≡ count
  pub page_is : undo_page new ≡ page
  pub rest : drop 12 new.body ≡ drop 12 old.body

-- the meta page has another count of pages and another undo page in use, and nothing else changes
pub record Uses (meta : Image) (count page : ℕ) (records : List Record) : Type 0 where
  pub runs : RunsOn meta records
  pub counts : (lsn : ℕ) → CountsUndo meta (after_records lsn records meta) count page
