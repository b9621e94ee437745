-- Stated: what is found over pages that are used one after the other. A use has an image, whatever
-- else it is.
use Rattle.std.specs.Prelude.{◌≡◌, ◌⊎◌, ℕ, Bool, true, false, List, [], ◌∷◌, ◌++◌, if◌then◌else◌, Option, Some, None}
use Rattle.page_image.specs.Image.{Image}
use Rattle.page_view.specs.declared.leaf.LeafItem.{LeafItem}
use Rattle.page_view.specs.Leaf.{leaf_of}
use Rattle.bplus_tree.specs.declared.want.Want.TheVariants as want
use Rattle.bplus_tree.specs.Walk.{Walking, start, wanted, IsToRead}
use Rattle.commit_stamps.specs.Stamping.{IsStampPage, stamp_in, visible}
use Rattle.undo_versions.specs.Chains.{GoesOn}
use Rattle.undo_versions.specs.Walking.{is_page, replaced}
use Rattle.version_store.specs.Versions.{is_own}
use Rattle.range_reader.specs.Walked.{taken, walked}

-- A version of another transaction was looked up on the page of its stamp, and is seen at the
-- snapshot or is not.
pub record LooksUp (im : Image) (n : ℕ) (own : Option ℕ) (item : LeafItem)
    (seen : Bool) : Type 0 where
  pub other : is_own own item.trx ≡ false
  pub page : IsStampPage im item.trx
  pub shown : visible (stamp_in im item.trx) n ≡ seen

-- The version of an item that a reader sees at a snapshot. Its own transaction's it sees without a
-- page. Each other version is looked up on the page that was used for its stamp; where it is not
-- seen, the page with the version before it was used next, up to the end of the chain.
abbrev pub Looks : {U : Type 0} → (U → Image) → ℕ → Option ℕ → LeafItem → List U → Option LeafItem
    → Type 0
Looks image n own item [] r = (is_own own item.trx ≡ true) × (r ≡ Some item)
Looks image n own item (u ∷ []) r =
    (LooksUp (image u) n own item true × (r ≡ Some item))
    ⊎ (LooksUp (image u) n own item false × (is_page item.older.page ≡ false) × (r ≡ None))
Looks image n own item (u ∷ (v ∷ us)) r =
    LooksUp (image u) n own item false
    × (is_page item.older.page ≡ true)
    × ((image v).page ≡ item.older.page)
    × GoesOn (λ old. Looks image n own old us r) ((us ≡ []) × (r ≡ None))
    (replaced (image v) item.older)

-- a version that is seen and is not that the key was deleted
abbrev pub live : Option LeafItem → List LeafItem
live None = []
live (Some item) = if item.deleted then [] else item ∷ []

-- the items of a leaf, one after the other
abbrev pub LooksEach : {U : Type 0} → (U → Image) → ℕ → Option ℕ → List (List ℕ) → List U
    → List LeafItem → Type 0
LooksEach image n own [] us found = (us ≡ []) × (found ≡ [])
LooksEach {U} image n own (x ∷ xs) us found =
    (here : List U) × (rest : List U) × (r : Option LeafItem) × (more : List LeafItem)
    × (us ≡ here ++ rest) × Looks image n own (leaf_of x) here r
    × LooksEach image n own xs rest more × (found ≡ live r ++ more)

-- a page of the tree that was used, the pages that were used for its items, and the versions that
-- are seen
pub record Step (U : Type 0) : Type 0 where
  pub use_of : U
  pub asides : List U
  pub found : List LeafItem

-- each page is the one that the search wants after those before it, up to its end
abbrev pub Steps : {U : Type 0} → (U → Image) → ℕ → Option ℕ → Option (List ℕ) → Option (List ℕ)
    → Walking → List (Step U) → Type 0
Steps image n own low high w [] = w.want ≡ want.Finished
Steps image n own low high w (p ∷ rest) =
    (wanted w.want ≡ Some (image p.use_of).page) × IsToRead (image p.use_of)
    × LooksEach image n own (taken low high (image p.use_of)) p.asides p.found
    × Steps image n own low high (walked w (image p.use_of)) rest

abbrev pub uses_of : {U : Type 0} → List (Step U) → List U
uses_of [] = []
uses_of (p ∷ rest) = p.use_of ∷ (p.asides ++ uses_of rest)

abbrev pub found_of : {U : Type 0} → List (Step U) → List LeafItem
found_of [] = []
found_of (p ∷ rest) = p.found ++ found_of rest

-- the versions found over these uses in the range of the tree with that root: from the root, page
-- after page, to the range's end
pub record FoundBy {U : Type 0} (image : U → Image) (n : ℕ) (own : Option ℕ) (root : ℕ)
    (low high : Option (List ℕ)) (us : List U) (found : List LeafItem) : Type 0 where
  pub steps : List (Step U)
  pub goes : Steps image n own low high (start root low high) steps
  pub used : us ≡ uses_of steps
  pub seen : found ≡ found_of steps
