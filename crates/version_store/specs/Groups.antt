-- Stated: the groups of the log, when each may be written, and what they keep of a store.
use Rattle.std.specs.Prelude.{◌≡◌, ◌≢◌, ◌⊎◌, ℕ, ◌≤◌, true, false, Option, Some, None, List, [], ◌∷◌, if◌then◌else◌, ◌&&◌, bytes_eq}
use Rattle.version_store.specs.Contents.{catalog_name, chain_of, root_of}
use Rattle.version_store.specs.Held.{Held, IsLedBy, none_of}
use Rattle.version_store.specs.Rooted.{IsOpenBy, Rooted}
use Rattle.version_store.specs.Stores.{Store, UndoEntry, begun, blank, catalog, changed, created, freed, naming, split, stamped, undone, written}
use Rattle.version_store.specs.Versions.{Row, Version, older}

-- what a group does, for the session of a number
pub data Group : Type 0 where
  begins : ℕ → Group
  writes : ℕ → List ℕ → List ℕ → Option Row → Group  -- a row of a table, by name and key
  creates : ℕ → List ℕ → Row → Group
  undoes : ℕ → Group
  commits : ℕ → Group
  frees : ℕ → Group
  splits : ℕ → Group  -- up to a page

-- A row is written by a transaction that can see the table's name, and only where no other open transaction has
-- written it.
pub record Writes (S : Store) (s t r : ℕ) (a k : List ℕ) : Type 0 where
  pub slot : S.slot s ≡ Some t
  pub root : root_of S a ≡ Some r
  pub sees : (u : ℕ) → IsOpenBy S.stamp u (S.rows catalog a) → u ≡ t
  pub alone : (v u : ℕ) → v ≢ s → S.slot v ≡ Some u → none_of u (S.rows r k) ≡ true

-- what each group makes of a store
abbrev pub Makes : Group → Store → Store → Type 0
Makes (begins s) old new = (old.slot s ≡ None) × (new ≡ begun old s)
Makes (writes s a k row) old new =
    (t : ℕ) × (r : ℕ) × Writes old s t r a k × (bytes_eq a catalog_name ≡ false)
    × (new ≡ changed old s t r k row)
Makes (creates s a row) old new =
    (t : ℕ) × (old.slot s ≡ Some t) × (old.rows catalog a ≡ []) × (new ≡ created old s t a (Some row))
Makes (undoes s) old new =
    (t : ℕ) × (u : UndoEntry) × (us : List UndoEntry) × (old.slot s ≡ Some t) × (old.undo s ≡ u ∷ us)
    × (new ≡ undone old s u.root u.key us)
Makes (commits s) old new = (t : ℕ) × (old.slot s ≡ Some t) × (new ≡ stamped old s t)
Makes (frees s) old new = (t : ℕ) × (old.slot s ≡ Some t) × (old.undo s ≡ []) × (new ≡ freed old s)
Makes (splits pages) old new = (old.pages ≤ pages) × (new ≡ split old pages)

-- the groups one after the other
abbrev pub AllMake : List Group → Store → Store → Type 0
AllMake [] old new = new ≡ old
AllMake (g ∷ gs) old new = (mid : Store) × Makes g old mid × AllMake gs mid new

-- every group keeps a store as it has to be
abbrev pub GroupsKeep : Type 0
GroupsKeep = (g : Group) (old new : Store) → Makes g old new → Held old → Rooted old → Held new × Rooted new

-- so every log leaves one
abbrev pub LogsKeep : Type 0
LogsKeep = (gs : List Group) (S : Store) → AllMake gs blank S → Held S × Rooted S

-- one version more under one name and key
abbrev pub with_version : List ℕ → List ℕ → Version → (List ℕ → List ℕ → List Version) → List ℕ → List ℕ
    → List Version
with_version a k v chains b j = if bytes_eq b a && bytes_eq j k then v ∷ chains b j else chains b j

-- the newest version, which is the transaction's, is gone, or as it was
abbrev pub IsPopped : ℕ → List Version → List Version → Type 0
IsPopped t new old = (new ≡ old) ⊎ ((new ≡ older old) × IsLedBy t old)

-- By name and key: a row that is written and a table that is made put one version in front, an undo takes one
-- away, also where it takes the table away, and no other group changes any.
abbrev pub MovesChains : Group → Store → (List ℕ → List ℕ → List Version) → (List ℕ → List ℕ → List Version)
    → Type 0
MovesChains (begins s) S old new = (a k : List ℕ) → new a k ≡ old a k
MovesChains (writes s a k row) S old new =
    (t : ℕ) → S.slot s ≡ Some t → (b j : List ℕ) → new b j ≡ with_version a k (written t row) old b j
MovesChains (creates s a row) S old new =
    (t : ℕ) → S.slot s ≡ Some t → (b j : List ℕ)
    → new b j ≡ with_version catalog_name a (naming S t (Some row)) old b j
MovesChains (undoes s) S old new = (t : ℕ) → S.slot s ≡ Some t → (a k : List ℕ) → IsPopped t (new a k) (old a k)
MovesChains (commits s) S old new = (a k : List ℕ) → new a k ≡ old a k
MovesChains (frees s) S old new = (a k : List ℕ) → new a k ≡ old a k
MovesChains (splits pages) S old new = (a k : List ℕ) → new a k ≡ old a k

abbrev pub GroupsMoveChains : Type 0
GroupsMoveChains =
    (g : Group) (old new : Store)
    → Makes g old new → Held old → Rooted old → MovesChains g old (chain_of old) (chain_of new)
