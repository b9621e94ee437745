-- Stated: the versions of a key, along the chain of its item.
use Rattle.std.specs.Prelude.{◌≡◌, ◌≤◌, ◌⊎◌, ℕ, true, List, [], ◌∷◌, filter, Some}
use Rattle.rm_base.specs.declared.limits.TheConstants.{MAX_TRX_ID}
use Rattle.std.specs.Ordering.{is_eq}
use Rattle.rm_base.specs.declared.places.UndoPtr.{UndoPtr}
use Rattle.page_image.specs.Image.{Image}
use Rattle.page_view.specs.declared.leaf.LeafItem.{LeafItem}
use Rattle.page_view.specs.Keys.{key_in, key_cmp}
use Rattle.page_view.specs.Leaf.{leaf_of}
use Rattle.undo_versions.specs.declared.items.UndoItem.{UndoItem}
use Rattle.undo_versions.specs.Chains.{GoesOn, version_before}
use Rattle.undo_versions.specs.Reading.{older}
use Rattle.undo_versions.specs.Walking.{is_page}
use Rattle.version_store.specs.Versions.{Version}

-- an undo item stands at a place, on a page that there is
pub record StandsAt (pages : ℕ → Image) (at : UndoPtr) (undo : UndoItem) : Type 0 where
  pub page : is_page at.page ≡ true
  pub item : older (pages at.page) at ≡ Some undo

-- an older pointer names no page, or an undo item
abbrev pub IsPointer : (ℕ → Image) → UndoPtr → Type 0
IsPointer pages at = (at.page ≡ 0) ⊎ ((undo : UndoItem) × StandsAt pages at undo)

-- An item has this version, which its transaction wrote, and it points to what it replaced.
-- `Says` is what an item of its tree says of a version.
pub record Has (Says : LeafItem → Version → Type 0) (pages : ℕ → Image) (item : LeafItem)
    (v : Version) : Type 0 where
  pub says : Says item v
  pub trx : v.trx ≡ item.trx
  pub some : 1 ≤ item.trx
  pub most : item.trx ≤ MAX_TRX_ID
  pub pointer : IsPointer pages item.older

-- the versions of an item, newest first: its own, and those of the item that it replaced
abbrev pub Versions : (LeafItem → Version → Type 0) → (ℕ → Image) → LeafItem → List Version → Type 0
Versions Says pages item [] = ⊥
Versions Says pages item (v ∷ vs) =
    Has Says pages item v
    × GoesOn (λ old. Versions Says pages old vs) (vs ≡ []) (version_before pages item)

-- the items with the key: one or none, where they ascend
abbrev pub of_key : List ℕ → List (List ℕ) → List (List ℕ)
of_key key items = filter (λ item. is_eq (key_cmp (key_in item) key)) items

-- the versions of the one item with a key; without an item there are none
abbrev pub VersionsAt : (LeafItem → Version → Type 0) → (ℕ → Image) → List (List ℕ) → List Version
    → Type 0
VersionsAt Says pages [] vs = vs ≡ []
VersionsAt Says pages (x ∷ []) vs = Versions Says pages (leaf_of x) vs
VersionsAt Says pages (x ∷ (y ∷ rest)) vs = ⊥
