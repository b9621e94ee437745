-- Stated: what keeps undo items, and that versions can be followed over later pages.
use Rattle.std.specs.Prelude.{◌≡◌, ◌≢◌, ◌≤◌, ℕ, suc, List, [], ◌∷◌, Contains, Some}
use Rattle.std.specs.List.{AllByRecursion}
use Rattle.page_image.specs.declared.kind.Kind.TheVariants.{Undo}
use Rattle.redo_record.specs.declared.redo.Record.{Record}
use Rattle.sql_database.specs.Catalog.{schema_of}
use Rattle.version_store.specs.Stores.{Store, catalog}
use Rattle.version_store.specs.Versions.{Row, Version}
use Rattle.held_versions.specs.Holds.{Holds}
use Rattle.held_versions.specs.Keeping.{KeepsUndo, grown}
use Rattle.held_versions.specs.Tables.{SaysRow, SaysTable}
use Rattle.held_versions.specs.Versions.{VersionsAt, of_key}
use Rattle.tree_timeline.specs.Types.{Items, Pages, PagesAt}
use Rattle.plan_steps.specs.Growth.{SparesUndo, UndoGrows, UndoLasts}
use Rattle.plan_steps.specs.Splitting.{TouchesOnly}

-- a group whose records for undo pages put items in behind those that are there
abbrev pub GroupsGrow : Type 0
GroupsGrow =
    (pages : Pages) (lsn : ℕ) (records : List Record) → ((page : ℕ) → (pages page).page ≡ page)
    → AllByRecursion (SparesUndo pages) records → UndoGrows pages (grown lsn records pages)

-- a group that changes no undo page: a begin, a commit, the freeing of a slot
abbrev pub OthersGrow : Type 0
OthersGrow =
    (pages : Pages) (lsn : ℕ) (named : List ℕ) (records : List Record)
    → ((page : ℕ) → (pages page).page ≡ page) → TouchesOnly named records
    → ((page : ℕ) → Contains named page → (pages page).kind ≢ Undo)
    → UndoGrows pages (grown lsn records pages)

-- a pointer leads to the same undo item at each later time
abbrev pub UndoIsKept : Type 0
UndoIsKept =
    (at : PagesAt) (base : ℕ) → ((t : ℕ) → base ≤ t → UndoGrows (at t) (at (suc t)))
    → UndoLasts at base
    × ((t u : ℕ) → base ≤ t → t ≤ u → KeepsUndo (at t) (at u))

-- what a store holds at a time, found at a later one from the items of that time
pub record Follows (items : ℕ → Items) (later : Pages) (S : Store) : Type 0 where
  pub tables : (k : List ℕ)
      → VersionsAt SaysTable later (of_key k (items catalog)) (S.rows catalog k)
  pub rows : (a k : List ℕ) (v : Version) (row : Row)
      → S.rows catalog a ≡ v ∷ [] → v.row ≡ Some row
      → VersionsAt (SaysRow (schema_of row)) later (of_key k (items v.root)) (S.rows v.root k)

-- So from an item that was read at a time its versions are found, however late their pages are
-- read.
abbrev pub VersionsAreFollowed : Type 0
VersionsAreFollowed =
    (at : PagesAt) (base : ℕ) (items : ℕ → Items) (S : Store) (t u : ℕ)
    → ((v : ℕ) → base ≤ v → UndoGrows (at v) (at (suc v))) → base ≤ t → t ≤ u
    → Holds items (at t) S → Follows items (at u) S
