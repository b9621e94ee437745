-- The order of an undoing's plans.
use Rattle.std.proofs.Common.{◌≡◌, ℕ, zero, suc, Bool, true, false, List, Option, Some, None, refl, sym, ◌∙◌, ap, subst}
use Rattle.std.specs.Prelude.{nat_eq}
use Rattle.rm_base.specs.declared.places.UndoPtr.{UndoPtr}
use Rattle.page_image.specs.Image.{Image}
use Rattle.commit_stamps.specs.declared.slots.Slot.{Slot}
use Rattle.commit_stamps.specs.Fields.{slot_of}
use Rattle.undo_versions.specs.declared.items.UndoItem.{UndoItem}
use Rattle.question_tree.specs.Questions.{Ask, tells, asks, stops, lift}
use Rattle.row_edits.specs.BackEdits.{BackWork, older, undo_wanted}
use Rattle.row_edits.specs.Laws.{Given, IsOneUndo, IsUndoOf, ReadsItem, nothing, with_meta, with_slots, with_step}
use Rattle.row_edits.specs.Wishes as row
use Rattle.row_edits.specs.declared.wishes.Taken.{Taken}
use Rattle.row_edits.specs.declared.wishes.Taken.TheVariants as taken
use Rattle.row_edits.proofs.OnceLaws.{undoes_once}
use Rattle.transaction_edits.specs.Works.{by, free_work}
use Rattle.transaction_edits.specs.declared.wishes.Told.{Told}
use Rattle.transaction_edits.specs.declared.wishes.Told.TheVariants as told
use Rattle.statement_work.specs.Latches.{ReleasesNone}
use Rattle.rw_worker.specs.Aims.{Work}
use Rattle.rw_worker.specs.Backs.{AtSlot, At, Undoes, Frees, Done, Nowhere, IsBack, UndoesInOrder, UndoesAreSilent, from_item, from_place, from_slot}
use Rattle.rw_worker.specs.Lifting.{row_over}
use Rattle.rw_worker.specs.Undoing.{free, freed, is_none, rested, taken_then, undone}
use Rattle.rw_worker.specs.declared.undo_stages.TheConstants.{MOST_CHANGES}
use Rattle.rw_worker.proofs.OrderLaws.{row_silent, transaction_silent}

-- ---- one change is undone

one_back : (s : ℕ) (next : UndoPtr → Work) → ((at : UndoPtr) → IsBack s (from_place at) (next at)) → (undo : UndoItem)
    → (m : BackWork) (given : Given) → IsOneUndo s undo given m
    → IsBack s (Undoes undo) (row_over true m (taken_then s next))
unfolding lift
one_back s next g undo (tells (taken.Back at)) given h = absurd h
one_back s next g undo (tells taken.Again) given h = refl
one_back s next g undo (asks (row.Steps key path page) k) given h =
    (refl, h.0, λ im. one_back s next g undo (k (row.Handed im)) (with_step given im) (h.2 im))
one_back s next g undo (asks (row.ReadsUndo page) k) given h = absurd h
one_back s next g undo (asks row.ReadsSlots k) given h =
    (refl, λ im. one_back s next g undo (k (row.Handed im)) (with_slots given im) (h im))
one_back s next g undo (asks row.ReadsMeta k) given h =
    (refl, λ im. one_back s next g undo (k (row.Handed im)) (with_meta given im) (h im))
one_back s next g undo (asks (row.Runs (row.Splits item path meta)) k) given h =
    (Undoes undo, refl, (h.0, refl), one_back s next g undo (k row.Ran) nothing h.3)
one_back s next g undo (asks (row.Runs (row.Changes basis)) k) given h = absurd h
one_back s next g undo (asks (row.Runs (row.TakesBack basis)) k) given h =
    let P : BackWork → Type 0 = λ x. IsBack s (from_place undo.before) (row_over true x (taken_then s next)) in
    (from_place undo.before, refl, (h.0, h.1, refl), subst P (sym h.4) (g undo.before))
one_back s next g undo stops given h = tt

item_back : (s : ℕ) (next : UndoPtr → Work) → ((at : UndoPtr) → IsBack s (from_place at) (next at))
    → (o : Option UndoItem) (m : BackWork) → IsUndoOf s o m → IsBack s (from_item o) (row_over true m (taken_then s next))
unfolding lift
item_back s next g None m h =
    let P : BackWork → Type 0 = λ x. IsBack s Nowhere (row_over true x (taken_then s next)) in subst P (sym h) tt
item_back s next g (Some undo) m h = one_back s next g undo m nothing h

at_back : (s : ℕ) (next : UndoPtr → Work) → ((at : UndoPtr) → IsBack s (from_place at) (next at))
    → (at : UndoPtr) (m : BackWork) → ReadsItem s at m → IsBack s (At at) (row_over true m (taken_then s next))
unfolding lift
at_back s next g at (tells t) h = absurd h
at_back s next g at (asks (row.Steps key path page) k) h = absurd h
at_back s next g at (asks (row.ReadsUndo page) k) h =
    (refl, h.0, λ im. item_back s next g (older im at) (k (row.Handed im)) (h.1 im))
at_back s next g at (asks row.ReadsSlots k) h = absurd h
at_back s next g at (asks row.ReadsMeta k) h = absurd h
at_back s next g at (asks (row.Runs aim) k) h = absurd h
at_back s next g at stops h = tt

free_back : (s : ℕ) → IsBack s Frees (free s)
unfolding lift
free_back s = (refl, λ slots. (Done, refl, (refl, refl), tt))

place_by : (s : ℕ) (at : UndoPtr) (w : Work) (b : Bool) → IsBack s (At at) w → IsBack s (by b Frees (At at)) (by b (free s) w)
place_by s at w true h = free_back s
place_by s at w false h = h

all_back : (n s : ℕ) (at : UndoPtr) → IsBack s (from_place at) (undone n s at)
unfolding undone
all_back zero s at = tt
all_back (suc n) s at =
    place_by s at (row_over true (undo_wanted s at) (taken_then s (undone n s))) (is_none at) (at_back s (undone n s) (λ before. all_back n s before) at (undo_wanted s at) (undoes_once s at))

slot_back : (s : ℕ) (slot : Slot) (b : Bool) → IsBack s (by b Done (from_place slot.last)) (by b rested (undone MOST_CHANGES s slot.last))
slot_back s slot true = tt
slot_back s slot false = all_back MOST_CHANGES s slot.last

pub undoes_in_order : UndoesInOrder
undoes_in_order s = (refl, λ im. slot_back s (slot_of im s) (nat_eq (slot_of im s).trx 0))

-- ---- no latch

freed_silent : (t : Told) → ReleasesNone (freed t)
freed_silent told.Freed = tt
freed_silent (told.Begun trx) = tt
freed_silent told.TrxFull = tt
freed_silent (told.Committed stamp) = tt

taken_silent : (s : ℕ) (next : UndoPtr → Work) → ((at : UndoPtr) → ReleasesNone (next at)) → (t : Taken) → ReleasesNone (taken_then s next t)
taken_silent s next h (taken.Back at) = h at
taken_silent s next h taken.Again = tt

by_silent : (b : Bool) (v w : Work) → ReleasesNone v → ReleasesNone w → ReleasesNone (by b v w)
by_silent true v w g h = g
by_silent false v w g h = h

undone_silent : (n s : ℕ) (at : UndoPtr) → ReleasesNone (undone n s at)
unfolding undone
undone_silent zero s at = tt
undone_silent (suc n) s at =
    by_silent (is_none at) (free s) (row_over true (undo_wanted s at) (taken_then s (undone n s))) (transaction_silent true (free_work s) freed freed_silent)
    (row_silent true (undo_wanted s at) (taken_then s (undone n s)) (taken_silent s (undone n s) (λ before. undone_silent n s before)))

pub undoes_are_silent : UndoesAreSilent
undoes_are_silent s = λ im. by_silent (nat_eq (slot_of im s).trx 0) rested (undone MOST_CHANGES s (slot_of im s).last) tt (undone_silent MOST_CHANGES s (slot_of im s).last)
