-- Stated: what a test of keys tells over pages that hold a store.
use Rattle.std.specs.Prelude.{◌≡◌, ◌⊎◌, ℕ, Bool, false, is_some, bytes_eq, List, [], ◌∷◌, filter, slice_get, Some}
use Rattle.std.specs.List.{AllByRecursion}
use Rattle.page_image.specs.Image.{Image}
use Rattle.sql_database.specs.declared.changes.Change.{Change}
use Rattle.version_store.specs.Contents.{catalog_name}
use Rattle.version_store.specs.Stores.{Store, catalog}
use Rattle.version_store.specs.Versions.{Row, Version, seen_root}
use Rattle.history.specs.Clusters.{in_the_way, is_taken}
use Rattle.question_tree.specs.Questions.{Gives}
use Rattle.range_reader.specs.declared.fetch.Snapshot.{Snapshot}
use Rattle.range_reader.specs.Finding.{Fits}
use Rattle.held_versions.specs.Holds.{Holds}
use Rattle.key_conflicts.specs.declared.verdict.Tested.{Tested}
use Rattle.key_conflicts.specs.Judged.{IsLeastOf}
use Rattle.key_conflicts.specs.Testing.{Key, test_keys}

-- a table of the catalog, at its root
pub record HasTable (S : Store) (root : ℕ) : Type 0 where
  pub name : Key
  pub version : Version
  pub row : Row
  pub only : S.rows catalog name ≡ version ∷ []
  pub lives : version.row ≡ Some row
  pub at : version.root ≡ root

-- the root of the catalog or of a table
abbrev pub IsTableRoot : Store → ℕ → Type 0
IsTableRoot S root = (root ≡ catalog) ⊎ HasTable S root

-- each is the image of its page as it stands
abbrev pub Stand : (ℕ → Image) → List Image → Type 0
Stand pages us = AllByRecursion (λ im. im ≡ pages im.page) us

-- the newest version under a key is in the way of a writer with this snapshot
abbrev pub clashes : Store → ℕ → Snapshot → Key → Bool
clashes S root s key = in_the_way (S.rows root key) S.stamp s.stamp s.own

-- the newest version under a key has a row
abbrev pub has_row : List Version → Bool
has_row [] = false
has_row (v ∷ vs) = is_some v.row

abbrev pub is_there : Store → ℕ → Key → Bool
is_there S root key = has_row (S.rows root key)

-- what is told is the least key that is in the way in the store, and the first that has a row
pub record IsVerdict (S : Store) (root : ℕ) (s : Snapshot) (keys : List Key) (t : Tested)
    : Type 0 where
  pub clash : IsLeastOf (filter (clashes S root s) keys) t.clash
  pub found : t.found ≡ slice_get (filter (is_there S root) keys) 0

-- Over pages that stand as they are and hold a store, what a test tells of keys of the catalog or of
-- a table is the store's verdict.
abbrev pub TestsTellVerdicts : Type 0
TestsTellVerdicts =
    (items : ℕ → List Key) (pages : ℕ → Image) (S : Store) → Holds items pages S
    → (root : ℕ) → IsTableRoot S root
    → (s : Snapshot) (keys : List Key) (us : List Image) (t : Tested) → Stand pages us
    → Gives Fits (test_keys s root keys) us t
    → IsVerdict S root s keys t

-- A change of a table whose root the writer sees is taken by another exactly where its key is in the
-- way under that root; a change of the catalog, where it is in the way there.
pub record TakenAtRoot (S : Store) (s : Snapshot) (h : Change) : Type 0 where
  pub row : (root : ℕ) → bytes_eq h.table catalog_name ≡ false
      → seen_root (S.rows catalog h.table) S.stamp s.stamp s.own ≡ Some root
      → is_taken S s.stamp s.own h ≡ clashes S root s h.key
  pub name : h.table ≡ catalog_name → is_taken S s.stamp s.own h ≡ clashes S catalog s h.key

abbrev pub ChangesAreTaken : Type 0
ChangesAreTaken = (S : Store) (s : Snapshot) (h : Change) → TakenAtRoot S s h
