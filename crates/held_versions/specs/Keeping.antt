-- Stated: what pages that come later keep of earlier ones.
use Rattle.std.specs.Prelude.{◌≡◌, ℕ, Bool, true, List, Some, ◌||◌}
use Rattle.rm_base.specs.declared.places.UndoPtr.{UndoPtr}
use Rattle.page_image.specs.declared.kind.Kind.{Kind}
use Rattle.page_image.specs.Image.{Image, is_inner, is_slotted}
use Rattle.bplus_tree.specs.Tree.{is_leaf}
use Rattle.redo_record.specs.declared.redo.Record.{Record}
use Rattle.redo_record.specs.Effect.{after_records}
use Rattle.undo_versions.specs.declared.items.UndoItem.{UndoItem}
use Rattle.undo_versions.specs.Reading.{older}
use Rattle.held_versions.specs.Versions.{of_key}

-- the pages after a group with this LSN
abbrev pub grown : ℕ → List Record → (ℕ → Image) → ℕ → Image
grown lsn records pages q = after_records lsn records (pages q)

-- an undo item that stands at a place stands there still
abbrev pub KeepsUndo : (ℕ → Image) → (ℕ → Image) → Type 0
KeepsUndo old new =
    (at : UndoPtr) (undo : UndoItem)
    → older (old at.page) at ≡ Some undo → older (new at.page) at ≡ Some undo

-- a page of some tree
abbrev pub is_of_tree : Kind → Bool
is_of_tree kind = is_leaf kind || is_inner kind

-- each page of a tree is as it was
abbrev pub KeepsTrees : (ℕ → Image) → (ℕ → Image) → Type 0
KeepsTrees old new = (q : ℕ) → is_of_tree (old q).kind ≡ true → new q ≡ old q

-- each page with items is as it was: those of trees, and those of undo items
abbrev pub KeepsItems : (ℕ → Image) → (ℕ → Image) → Type 0
KeepsItems old new = (q : ℕ) → is_slotted (old q).kind ≡ true → new q ≡ old q

-- the items of each root and key but one are as they were
abbrev pub KeepsOthers : ℕ → List ℕ → (ℕ → List (List ℕ)) → (ℕ → List (List ℕ)) → Type 0
KeepsOthers r k old new =
    (q : ℕ) (j : List ℕ) → (q ≡ r → j ≡ k → ⊥) → of_key j (new q) ≡ of_key j (old q)
