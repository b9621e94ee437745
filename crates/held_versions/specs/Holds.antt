-- Stated: the pages hold a store.
use Rattle.std.specs.Prelude.{◌≡◌, ◌<◌, ℕ, List, [], ◌∷◌, Some}
use Rattle.page_image.specs.Image.{Image}
use Rattle.commit_stamps.specs.Fields.{slot_of}
use Rattle.sql_database.specs.Catalog.{schema_of}
use Rattle.version_store.specs.Stores.{Store, catalog}
use Rattle.version_store.specs.Versions.{Row, Version}
use Rattle.held_versions.specs.Counting.{HasCounters, HasStamps, HasSlots, sessions}
use Rattle.held_versions.specs.Tables.{SaysTable, SaysRow}
use Rattle.held_versions.specs.Trees.{HasTrees}
use Rattle.held_versions.specs.Undoing.{UndoList, current}
use Rattle.held_versions.specs.Versions.{VersionsAt, of_key}

-- The pages hold a store, where `items` has the items of the tree at each root: counters, stamps
-- and slots; the undo list of each open transaction; the trees; the versions of each table's row in
-- the catalog, and of each key of each table.
pub record Holds (items : ℕ → List (List ℕ)) (pages : ℕ → Image) (S : Store) : Type 0 where
  pub counters : HasCounters pages S
  pub stamps : HasStamps pages S
  pub slots : HasSlots pages S
  pub undo : (s t : ℕ) → s < sessions → S.slot s ≡ Some t
      → UndoList pages t (current items) (slot_of (pages 1) s).last (S.undo s)
  pub trees : HasTrees items pages S
  pub tables : (k : List ℕ)
      → VersionsAt SaysTable pages (of_key k (items catalog)) (S.rows catalog k)
  pub rows : (a k : List ℕ) (v : Version) (row : Row)
      → S.rows catalog a ≡ v ∷ [] → v.row ≡ Some row
      → VersionsAt (SaysRow (schema_of row)) pages (of_key k (items v.root)) (S.rows v.root k)
