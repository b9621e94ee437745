-- Stated: an undo item stays where it was put.
use Rattle.std.specs.Prelude.{◌≡◌, ◌≤◌, ℕ, List, length, slice_get, Some}
use Rattle.page_image.specs.declared.kind.Kind.TheVariants.{Undo}
use Rattle.page_image.specs.Image.{Image}
use Rattle.redo_record.specs.declared.redo.Record.{Record}
use Rattle.redo_record.specs.declared.redo.Record.TheVariants.{Make, Patch, InsertSlot, RemoveSlot, Cut, Link}
use Rattle.redo_record.specs.Effect.{page_of}
use Rattle.tree_timeline.specs.Types.{Pages, PagesAt}

-- each item of the one page stands in the same place of the other
abbrev pub KeepsItems : Image → Image → Type 0
KeepsItems old new =
    (i : ℕ) (item : List ℕ) → slice_get old.items i ≡ Some item → slice_get new.items i ≡ Some item

-- an undo page is one still, and its items stand where they stood
pub record IsGrown (old new : Image) : Type 0 where
  pub kind : new.kind ≡ Undo
  pub number : new.page ≡ old.page
  pub items : KeepsItems old new

-- so is every undo page
abbrev pub UndoGrows : Pages → Pages → Type 0
UndoGrows old new = (page : ℕ) → (old page).kind ≡ Undo → IsGrown (old page) (new page)

-- the record puts an item behind those of the page
abbrev pub IsPutBehind : Image → Record → Type 0
IsPutBehind image (Make page kind level) = ⊥
IsPutBehind image (Patch page at bytes) = ⊥
IsPutBehind image (InsertSlot page index bytes) = length image.items ≤ index
IsPutBehind image (RemoveSlot page index) = ⊥
IsPutBehind image (Cut page from) = ⊥
IsPutBehind image (Link page next) = ⊥

-- where the record is for an undo page, it puts an item behind those that are there
abbrev pub SparesUndo : Pages → Record → Type 0
SparesUndo pages r =
    (pages (page_of r)).kind ≡ Undo → IsPutBehind (pages (page_of r)) r

-- what stands on an undo page at a time stands there at every later time
abbrev pub UndoLasts : PagesAt → ℕ → Type 0
UndoLasts at base =
    (t u page : ℕ) → base ≤ t → t ≤ u → (at t page).kind ≡ Undo → IsGrown (at t page) (at u page)
