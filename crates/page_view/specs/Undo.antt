-- Stated: an undo item and its bytes.
use Rattle.std.specs.Prelude.{◌≡◌, ◌≤◌, ◌<◌, ◌+◌, ◌^◌, ◌==◌, ℕ, List, ◌∷◌, ◌++◌, length, take, drop, slice_index, Option, Some, None, MatchOption, if◌then◌else◌}
use Rattle.rm_base.specs.declared.limits.TheConstants.{MAX_KEY_BYTES, MAX_PAGE_ID}
use Rattle.rm_base.specs.Fields.{field, number}
use Rattle.rm_base.specs.declared.places.UndoPtr.{UndoPtr}
use Rattle.page_view.specs.declared.leaf.LeafItem.{LeafItem}
use Rattle.page_view.specs.Leaf.{leaf_bytes, leaf_of, IsLeaf, HoldsLeaf}

-- a change that can be undone: its transaction, the tree's root, the transaction's change before it, the key, and the item that was replaced
pub record Undone : Type 0 where
  pub trx : ℕ
  pub root : ℕ
  pub before : UndoPtr
  pub key : List ℕ
  pub old : Option LeafItem

-- 0 and the key where the key was not there, else 1 and the old item
abbrev pub old_bytes : List ℕ → Option LeafItem → List ℕ
old_bytes key None = 0 ∷ length key ∷ key
old_bytes key (Some old) = 1 ∷ leaf_bytes old

-- transaction, root, the page and place of the change before, and what was there
abbrev pub undo_bytes : Undone → List ℕ
undo_bytes undo =
    field 8 undo.trx ++ (field 4 undo.root ++ (field 4 undo.before.page ++ (field 2 undo.before.slot ++ old_bytes undo.key undo.old)))

-- the old item is a leaf item with the key
abbrev pub IsOld : List ℕ → Option LeafItem → Type 0
IsOld key None = Unit {0}
IsOld key (Some old) = IsLeaf old × (old.key ≡ key)

-- an undo item within its limits, whose numbers fit their fields
pub record IsUndo (undo : Undone) : Type 0 where
  pub trx : undo.trx < 2 ^ 64
  pub root : undo.root ≤ MAX_PAGE_ID
  pub before_page : undo.before.page < 2 ^ 32
  pub before_slot : undo.before.slot < 2 ^ 16
  pub short_key : length undo.key ≤ MAX_KEY_BYTES
  pub old : IsOld undo.key undo.old

-- the item's parts, by where they stand in the bytes
abbrev pub undo_of : List ℕ → Undone
undo_of item =
    record {
      trx = number 8 item;
      root = number 4 (drop 8 item);
      before = record { page = number 4 (drop 12 item); slot = number 2 (drop 16 item) };
      key = take (slice_index item 19) (drop 20 item);
      old = if slice_index item 18 == 1 then Some (leaf_of (drop 19 item)) else None;
    }

-- a key's length and a key
pub record HoldsKey (old : List ℕ) : Type 0 where
  pub long : length old ≡ 1 + slice_index old 0
  pub short : slice_index old 0 ≤ MAX_KEY_BYTES

-- by the flag, a key alone or a leaf item
pub record HoldsOld (mark : ℕ) (old : List ℕ) : Type 0 where
  pub known : mark ≤ 1
  pub key : mark ≡ 0 → HoldsKey old
  pub leaf : mark ≡ 1 → HoldsLeaf old

-- bytes that spell an undo item
pub record HoldsUndo (item : List ℕ) : Type 0 where
  pub long : 19 < length item
  pub root : number 4 (drop 8 item) ≤ MAX_PAGE_ID
  pub old : HoldsOld (slice_index item 18) (drop 19 item)

-- the undo item that the bytes spell, or none where they spell none
abbrev pub IsUndoOrNone : List ℕ → Option Undone → Type 0
IsUndoOrNone item result =
    MatchOption result ((undo : Undone) → IsUndo undo → ¬ (item ≡ undo_bytes undo)) (λ undo. IsUndo undo × (item ≡ undo_bytes undo))

-- bytes spell one undo item alone
abbrev pub OneUndo : Type 0
OneUndo = (a b : Undone) → IsUndo a → IsUndo b → undo_bytes a ≡ undo_bytes b → a ≡ b
