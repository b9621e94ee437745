-- Stated: what the undoing of a session's ended transaction asks for, one thing after the other.
use Rattle.std.specs.Prelude.{◌≡◌, ℕ, zero, suc, Bool, true, false, nat_eq}
use Rattle.rm_base.specs.declared.places.UndoPtr.{UndoPtr}
use Rattle.page_image.specs.Image.{Image}
use Rattle.commit_stamps.specs.declared.slots.Slot.{Slot}
use Rattle.commit_stamps.specs.Fields.{slot_of}
use Rattle.question_tree.specs.Questions.{tells, asks, stops}
use Rattle.row_edits.specs.declared.wishes.Taken.{Taken}
use Rattle.row_edits.specs.declared.wishes.Taken.TheVariants as taken
use Rattle.row_edits.specs.BackEdits.{undo_wanted}
use Rattle.transaction_edits.specs.declared.wishes.Told.{Told}
use Rattle.transaction_edits.specs.declared.wishes.Told.TheVariants as told
use Rattle.transaction_edits.specs.Works.{by, free_work}
use Rattle.statement_work.specs.declared.acts.FixedPage.TheVariants as fixed
use Rattle.statement_work.specs.Works.{FetchesFixed, Rested, Again, image_in}
use Rattle.rw_worker.specs.Aims.{Work}
use Rattle.rw_worker.specs.Lifting.{row_over, transaction_over}
use Rattle.rw_worker.specs.declared.undo_stages.TheConstants.{MOST_CHANGES}

-- page 0 says that there is no undo item
abbrev pub is_none : UndoPtr → Bool
is_none at = nat_eq at.page 0

-- then nothing is left to undo
abbrev pub freed : Told → Work
freed told.Freed = tells Rested
freed (told.Begun trx) = stops
freed told.TrxFull = stops
freed (told.Committed stamp) = stops

abbrev pub free : ℕ → Work
free s = transaction_over true (free_work s) freed

-- the change before is undone next; without space for this one, the undoing begins anew
abbrev pub taken_then : ℕ → (UndoPtr → Work) → Taken → Work
taken_then s k (taken.Back at) = k at
taken_then s k taken.Again = tells (Again s)

-- the changes from the one whose undo item stands at the place, newest first, and then the slot becomes
-- free; there are at most so many
unfoldable pub undone : ℕ → ℕ → UndoPtr → Work
undone zero s at = stops
undone (suc n) s at =
    by (is_none at) (free s) (row_over true (undo_wanted s at) (taken_then s (undone n s)))

abbrev pub rested : Work
rested = tells Rested

-- a free slot has nothing to undo
abbrev pub undone_by : ℕ → Slot → Work
undone_by s slot = by (nat_eq slot.trx 0) rested (undone MOST_CHANGES s slot.last)

-- the session's slot says which change was the last
abbrev pub undoing : ℕ → Work
undoing s = asks (FetchesFixed true fixed.Slots) (λ x. undone_by s (slot_of (image_in x) s))
