-- Stated: the pages that are read on the way from a root to the leaf of a key.
use Rattle.std.specs.Prelude.{◌≡◌, ℕ, true, false, List, [], ◌∷◌, ◌++◌, ⊤}
use Rattle.page_image.specs.Image.{Image}
use Rattle.bplus_tree.specs.Tree.{is_leaf}
use Rattle.range_reader.specs.Walked.{child_in}
use Rattle.tree_timeline.specs.Types.{Items, Key, Pages}
use Rattle.version_store.specs.Stores.{Store}
use Rattle.held_versions.specs.Holds.{Holds}
use Rattle.held_versions.specs.Trees.{IsRoot}
use Rattle.tree_plan_steps.specs.Ways.{IsPath}
use Rattle.row_edits.specs.Wishes.{IsOnWay}

-- the page that is wanted behind these: first this one, then each time the child that holds the key
abbrev pub next_of : Key → ℕ → List Image → ℕ
next_of key page [] = page
next_of key page (im ∷ path) = next_of key (child_in im key) path

-- each of them is the page that was wanted behind those before it
abbrev pub AreWanted : Pages → Key → ℕ → List Image → Type 0
AreWanted pages key page [] = ⊤
AreWanted pages key page (im ∷ path) =
    (im ≡ pages page) × AreWanted pages key (child_in im key) path

-- none of them is a leaf
abbrev pub AreInner : List Image → Type 0
AreInner [] = ⊤
AreInner (im ∷ path) = (is_leaf im.kind ≡ false) × AreInner path

-- the last one is a leaf, and none before it
abbrev pub EndsAtLeaf : List Image → Type 0
EndsAtLeaf [] = ⊥
EndsAtLeaf (im ∷ []) = is_leaf im.kind ≡ true
EndsAtLeaf (im ∷ (next ∷ path)) = (is_leaf im.kind ≡ false) × EndsAtLeaf (next ∷ path)

-- the path is what a search for the key reads of these pages, from the root down to a leaf
pub record IsRead (pages : Pages) (root : ℕ) (key : Key) (path : List Image) : Type 0 where
  pub wanted : AreWanted pages key root path
  pub ends : EndsAtLeaf path

-- so it is the way to the key's leaf, whichever tree stands at the root
abbrev pub ReadIsPath : Type 0
ReadIsPath =
    (pages : Pages) (root : ℕ) (items : Items) (key : Key) (path : List Image)
    → IsRead pages root key path → IsPath pages root items key path

-- the page that is wanted next joins those that were read
abbrev pub ReadGoesOn : Type 0
ReadGoesOn =
    (pages : Pages) (root : ℕ) (key : Key) (path : List Image)
    → AreWanted pages key root path
    → AreWanted pages key root (path ++ pages (next_of key root path) ∷ [])

-- Over pages that hold a store, that page is fit for what a machine asks for at a root of the store:
-- it can be read, and, as a leaf, ends a way in a tree that stands.
abbrev pub WantedFits : Type 0
WantedFits =
    (items : ℕ → Items) (pages : Pages) (S : Store) (root : ℕ) (key : Key) (path : List Image)
    → Holds items pages S → IsRoot S root → AreWanted pages key root path → AreInner path
    → IsOnWay key path (next_of key root path) (pages (next_of key root path))
