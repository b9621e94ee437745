-- Stated: the group of a split, and what it makes of the store.
use Rattle.std.specs.Prelude.{◌≡◌, ◌≢◌, ◌≤◌, ◌<◌, ◌⊎◌, ℕ, List, Contains}
use Rattle.std.specs.List.{AllByRecursion}
use Rattle.page_image.specs.Image.{Image}
use Rattle.redo_record.specs.declared.redo.Record.{Record}
use Rattle.redo_record.specs.Effect.{after_records}
use Rattle.bplus_tree.specs.Tree.{Tree}
use Rattle.commit_stamps.specs.Effects.{SetsCounters}
use Rattle.page_image.specs.Meta.{counters_of, page_count}
use Rattle.version_store.specs.Stores.{Store, split}
use Rattle.held_versions.specs.Holds.{Holds}
use Rattle.held_versions.specs.Keeping.{grown}
use Rattle.held_versions.specs.Trees.{IsRoot}
use Rattle.tree_timeline.specs.Types.{Items, Pages}
use Rattle.plan_steps.specs.Growth.{UndoGrows}

-- a page that is none of these stays as it is
abbrev pub TouchesOnly : List ℕ → List Record → Type 0
TouchesOnly named records =
    (lsn : ℕ) (im : Image) → AllByRecursion (λ page. page ≢ im.page) named
    → after_records lsn records im ≡ im

-- A page of the tree at the root, or the root, is split: the records change pages of the tree, the
-- pages that are made, which are the next ones, and the count of the meta page; and the tree stands
-- for the same items, on its old pages and on new ones.
pub record IsSplit (items : ℕ → Items) (pages : Pages) (lsn root count : ℕ) (named made : List ℕ)
    (records : List Record) : Type 0 where
  pub only : TouchesOnly named records
  pub within : (tree : Tree pages root (items root)) (page : ℕ) → Contains named page
      → Contains tree.nodes page ⊎ (Contains made page ⊎ (page ≡ 0))
  pub new : (page : ℕ) → Contains made page → (page_count (pages 0) ≤ page) × (page < count)
  pub more : page_count (pages 0) ≤ count
  pub most : count ≤ 32768
  pub stands : (tree : Tree pages root (items root))
      → (now : Tree (grown lsn records pages) root (items root))
      × ((page : ℕ) → Contains now.nodes page → Contains tree.nodes page ⊎ Contains made page)
  pub counts : SetsCounters (grown lsn records pages 0)
      (record (counters_of (pages 0)) { pages = count })

-- The pages then hold the same store, with more pages: a split changes no item and no version.
abbrev pub SplitIsSplit : Type 0
SplitIsSplit =
    (items : ℕ → Items) (pages : Pages) (S : Store) (lsn root count : ℕ) (named made : List ℕ)
    (records : List Record)
    → Holds items pages S → IsRoot S root → IsSplit items pages lsn root count named made records
    → Holds items (grown lsn records pages) (split S count)
    × UndoGrows pages (grown lsn records pages)
