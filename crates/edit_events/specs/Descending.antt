-- Stated: which pages the machines that change a leaf ask for on their way down.
use Rattle.std.specs.Prelude.{◌≡◌, ℕ, List, [], ◌∷◌, ◌++◌, Option, Some, None}
use Rattle.rm_base.specs.declared.places.UndoPtr.{UndoPtr}
use Rattle.page_image.specs.Image.{Image}
use Rattle.question_tree.specs.Questions.{Ask, tells, asks, stops}
use Rattle.tree_timeline.specs.Types.{Key}
use Rattle.undo_versions.specs.declared.items.UndoItem.{UndoItem}
use Rattle.row_edits.specs.declared.changes.RowChange.{RowChange}
use Rattle.row_edits.specs.BackEdits.{BackWork, older, undo_wanted}
use Rattle.row_edits.specs.RowEdits.{row_work}
use Rattle.row_edits.specs.Wishes.{Wish, Input, Handed, Ran, Steps, ReadsUndo, ReadsSlots, ReadsMeta, Runs, Splits, Changes, TakesBack}
use Rattle.edit_events.specs.Reading.{AreInner, EndsAtLeaf, next_of}

-- With these pages read, a work asks for the page that is wanted behind them, as long as none is a
-- leaf; each plan stands on pages that end at a leaf; and behind a split it begins at the root again.
abbrev pub GoesDown : {A : Type 0} → Key → ℕ → List Image → Ask Wish Input A → Type 0
GoesDown key root path (tells a) = Unit {0}
GoesDown key root path (asks (Steps k before page) n) =
    (page ≡ next_of key root path) × AreInner path
    × ((im : Image) → GoesDown key root (path ++ im ∷ []) (n (Handed im)))
GoesDown key root path (asks (ReadsUndo page) n) = (im : Image) → GoesDown key root path (n (Handed im))
GoesDown key root path (asks ReadsSlots n) = (im : Image) → GoesDown key root path (n (Handed im))
GoesDown key root path (asks ReadsMeta n) = (im : Image) → GoesDown key root path (n (Handed im))
GoesDown key root path (asks (Runs (Splits item way meta)) n) =
    EndsAtLeaf path × GoesDown key root [] (n Ran)
GoesDown key root path (asks (Runs (Changes basis)) n) = EndsAtLeaf path
GoesDown key root path (asks (Runs (TakesBack basis)) n) = EndsAtLeaf path
GoesDown key root path stops = Unit {0}

-- a row's change does so from its own root
abbrev pub ChangeGoesDown : Type 0
ChangeGoesDown =
    (change : RowChange) → GoesDown change.item.key change.root [] (row_work change)

-- and an undo from the root that its undo item names
abbrev pub GoesDownFrom : Option UndoItem → BackWork → Type 0
GoesDownFrom None work = work ≡ stops
GoesDownFrom (Some undo) work = GoesDown undo.key undo.root [] work

abbrev pub GoesDownBehind : UndoPtr → BackWork → Type 0
GoesDownBehind at (asks (ReadsUndo page) n) =
    (im : Image) → GoesDownFrom (older im at) (n (Handed im))
GoesDownBehind at stops = Unit {0}
GoesDownBehind at other = ⊥

abbrev pub UndoGoesDown : Type 0
UndoGoesDown = (session : ℕ) (at : UndoPtr) → GoesDownBehind at (undo_wanted session at)
