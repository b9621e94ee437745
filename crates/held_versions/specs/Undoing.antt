-- Stated: the undo list of a transaction, from its last undo item on.
use Rattle.std.specs.Prelude.{◌≡◌, ◌&&◌, ℕ, List, [], ◌∷◌, Option, Some, None, bytes_eq, nat_eq, if◌then◌else◌}
use Rattle.rm_base.specs.declared.places.UndoPtr.{UndoPtr}
use Rattle.page_image.specs.Image.{Image}
use Rattle.page_view.specs.declared.leaf.LeafItem.{LeafItem}
use Rattle.page_view.specs.Leaf.{leaf_of}
use Rattle.undo_versions.specs.declared.items.UndoItem.{UndoItem}
use Rattle.version_store.specs.Stores.{UndoEntry}
use Rattle.held_versions.specs.Versions.{StandsAt, of_key}

-- the item under each root and key
abbrev pub Current : Type 0
Current = ℕ → List ℕ → Option LeafItem

abbrev pub first_of : List (List ℕ) → Option LeafItem
first_of [] = None
first_of (x ∷ xs) = Some (leaf_of x)

-- that of the trees
abbrev pub current : (ℕ → List (List ℕ)) → Current
current items root key = first_of (of_key key (items root))

-- with another item, or none, under one root and key
abbrev pub with_item : Current → ℕ → List ℕ → Option LeafItem → Current
with_item items root key item r k = if nat_eq r root && bytes_eq k key then item else items r k

-- An undo item of the transaction stands there for the entry, and the item that it is to undo is
-- the present one: that transaction wrote it, and it points to the undo item.
pub record Undoes (pages : ℕ → Image) (t : ℕ) (items : Current) (at : UndoPtr) (entry : UndoEntry)
    : Type 0 where
  pub undo : UndoItem
  pub stands : StandsAt pages at undo
  pub trx : undo.trx ≡ t
  pub root : entry.root ≡ undo.root
  pub key : entry.key ≡ undo.key
  pub item : LeafItem
  pub present : items undo.root undo.key ≡ Some item
  pub wrote : item.trx ≡ t
  pub points : item.older ≡ at

-- The undo list from a place on: each entry is undone by the undo item there, and then those before
-- it, over the items that this leaves.
abbrev pub UndoList : (ℕ → Image) → ℕ → Current → UndoPtr → List UndoEntry → Type 0
UndoList pages t items at [] = at.page ≡ 0
UndoList pages t items at (entry ∷ entries) =
    (here : Undoes pages t items at entry)
    × UndoList pages t (with_item items entry.root entry.key here.undo.old) here.undo.before entries
