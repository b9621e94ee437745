-- For the proofs: what is found in a range, by the versions of each key at a time of its own.
use Rattle.std.specs.Prelude.{◌≡◌, ◌≤◌, ◌||◌, ℕ, true, List, [], ◌∷◌, ◌++◌, Option, Some, None}
use Rattle.std.specs.List.{AllByRecursion}
use Rattle.page_view.specs.declared.leaf.LeafItem.{LeafItem}
use Rattle.page_view.specs.Keys.{key_in, keys_of, Ascend}
use Rattle.bplus_tree.specs.Walk.{in_range}
use Rattle.tree_timeline.specs.Found.{of_key, InRange}
use Rattle.tree_timeline.specs.Types.{Bound, Items, Key}
use Rattle.version_store.specs.Stores.{Store}
use Rattle.version_store.specs.Versions.{Version, is_own, seen, seen_root, visible}
use Rattle.range_reader.specs.Uses.{live}

-- how an item says a version
abbrev pub Saying : Type 1
Saying = LeafItem → Version → Type 0

-- the versions under a key at each time
abbrev pub VersionsBy : Type 0
VersionsBy = ℕ → Key → List Version

-- the version that is seen is this item's
pub record Shows (Says : Saying) (vs : List Version) (stamp : ℕ → ℕ) (n : ℕ) (own : Option ℕ)
    (item : LeafItem) : Type 0 where
  pub version : Version
  pub says : Says item version
  pub shown : (is_own own version.trx || visible (stamp version.trx) n) ≡ true
  pub row : seen vs stamp n own ≡ version.row
  pub root : seen_root vs stamp n own ≡ Some version.root

-- it is this item's, or none is seen
abbrev pub Tells : Saying → List Version → (ℕ → ℕ) → ℕ → Option ℕ → Option LeafItem → Type 0
Tells Says vs stamp n own None = seen vs stamp n own ≡ None
Tells Says vs stamp n own (Some item) = Shows Says vs stamp n own item

-- for each item what is seen of its key's versions, at a time between these
abbrev pub TellsEach : Saying → VersionsBy → (ℕ → Store) → ℕ → Option ℕ → ℕ → ℕ → Items
    → List LeafItem → Type 0
TellsEach Says versions S n own from end [] found = found ≡ []
TellsEach Says versions S n own from end (x ∷ xs) found =
    (r : Option LeafItem) × (more : List LeafItem) × (j : ℕ)
    × (from ≤ j) × (j ≤ end)
    × Tells Says (versions j (key_in x)) (S j).stamp n own r
    × TellsEach Says versions S n own from end xs more
    × (found ≡ live r ++ more)

-- The items of the range ascend, each with what is seen of it; and each other key of the range had
-- no versions at a time between these.
pub record TellsRange (Says : Saying) (versions : VersionsBy) (S : ℕ → Store) (n : ℕ)
    (own : Option ℕ) (from end : ℕ) (low high : Bound) (found : List LeafItem) : Type 0 where
  pub items : Items
  pub ascend : Ascend (keys_of items)
  pub inside : AllByRecursion (λ x. in_range low high x ≡ true) items
  pub each : TellsEach Says versions S n own from end items found
  pub absent : (k : Key) → InRange low high k → of_key k items ≡ []
      → (j : ℕ) × (from ≤ j) × (j ≤ end) × (versions j k ≡ [])
