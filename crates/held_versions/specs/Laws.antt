-- Stated: the opening holds a store with nothing in it, and the plans that begin and end a
-- transaction make of the store what they are to.
use Rattle.std.specs.Prelude.{◌≡◌, ◌≤◌, ◌<◌, ℕ, List, [], ◌∷◌, Some, codes}
use Rattle.rm_base.specs.declared.limits.TheConstants.{MAX_TRX_ID}
use Rattle.page_image.specs.Image.{Image, unmade}
use Rattle.redo_record.specs.declared.redo.Record.{Record}
use Rattle.commit_stamps.specs.Effects.{Begins, Commits, Frees}
use Rattle.commit_stamps.specs.Stamping.{stamp_page}
use Rattle.redo_record.specs.Opening.{opening_records}
use Rattle.version_store.specs.Stores.{Store, begun, blank, catalog, freed, stamped}
use Rattle.held_versions.specs.Counting.{sessions}
use Rattle.held_versions.specs.Example as example
use Rattle.held_versions.specs.Holds.{Holds}
use Rattle.held_versions.specs.Keeping.{grown}
use Rattle.held_versions.specs.Meaning.{IsMeaningful}
use Rattle.held_versions.specs.Storing.{rows_of, store_of}

-- trees without items
abbrev pub no_items : ℕ → List (List ℕ)
no_items root = []

-- the group that every log begins with
abbrev pub OpeningIsBlank : Type 0
OpeningIsBlank = Holds no_items (grown 1 opening_records unmade) blank

abbrev pub OpeningIsMeaningful : Type 0
OpeningIsMeaningful = IsMeaningful no_items (grown 1 opening_records unmade)

-- the group that begins the next transaction, for a session
abbrev pub BeginIsBegun : Type 0
BeginIsBegun =
    (items : ℕ → List (List ℕ)) (pages : ℕ → Image) (S : Store) (s lsn : ℕ) (records : List Record)
    → Holds items pages S → s < sessions → S.next ≤ MAX_TRX_ID
    → Begins (pages 0) (pages 1) s S.next records
    → Holds items (grown lsn records pages) (begun S s)

-- the group that commits the session's transaction
abbrev pub CommitIsStamped : Type 0
CommitIsStamped =
    (items : ℕ → List (List ℕ)) (pages : ℕ → Image) (S : Store) (s t lsn : ℕ)
    (records : List Record) → Holds items pages S → s < sessions → S.slot s ≡ Some t → t < S.next
    → Commits (pages 0) (pages 1) (pages (stamp_page t)) s records
    → Holds items (grown lsn records pages) (stamped S s t)

-- the group that frees the session's slot
abbrev pub FreeIsFreed : Type 0
FreeIsFreed =
    (items : ℕ → List (List ℕ)) (pages : ℕ → Image) (S : Store) (s lsn : ℕ) (records : List Record)
    → Holds items pages S → s < sessions → Frees (pages 1) s records
    → Holds items (grown lsn records pages) (freed S s)

-- The example: its pages hold its store; they have a meaning, and its versions and its undo list
-- are what is read off them.
pub record ExampleHolds : Type 0 where
  pub holds : Holds example.items example.pages example.store
  pub meaningful : IsMeaningful example.items example.pages
  pub table : rows_of example.items example.pages catalog (codes "t") ≡ example.table_version ∷ []
  pub row : rows_of example.items example.pages example.root (codes "a")
      ≡ example.second_version ∷ (example.first_version ∷ [])
  pub undo : (store_of example.items example.pages).undo 0 ≡ example.store.undo 0
