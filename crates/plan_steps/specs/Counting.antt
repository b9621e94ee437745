-- Stated: the record by which the meta page counts other pages.
use Rattle.std.specs.Prelude.{◌≤◌, ℕ, [], ◌∷◌}
use Rattle.rm_base.specs.Fields.{field}
use Rattle.page_image.specs.Image.{Image}
use Rattle.page_image.specs.Rules.{IsImage}
use Rattle.redo_record.specs.declared.redo.Record.{Record}
use Rattle.redo_record.specs.declared.redo.Record.TheVariants.{Patch}
use Rattle.redo_record.specs.Effect.{after_records}
use Rattle.commit_stamps.specs.Effects.{SetsCounters}
use Rattle.page_image.specs.Meta.{IsMeta, counters_of}

-- the meta page counts so many pages
abbrev pub counts_pages : Image → ℕ → Record
counts_pages meta count = Patch meta.page 36 (field 4 count)

-- its other numbers stay
abbrev pub CountsAlone : Type 0
CountsAlone =
    (meta : Image) (count lsn : ℕ) → IsMeta meta → IsImage meta → count ≤ 32768
    → SetsCounters (after_records lsn (counts_pages meta count ∷ []) meta)
    (record (counters_of meta) { pages = count })
