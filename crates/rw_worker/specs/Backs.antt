-- Stated: in which order an undoing undoes changes, on every way through.
use Rattle.std.specs.Prelude.{◌≡◌, ℕ, Bool, true, false, Option, Some, None, nat_eq}
use Rattle.rm_base.specs.declared.places.UndoPtr.{UndoPtr}
use Rattle.page_image.specs.Image.{Image}
use Rattle.commit_stamps.specs.declared.slots.Slot.{Slot}
use Rattle.commit_stamps.specs.Fields.{slot_of}
use Rattle.undo_versions.specs.declared.items.UndoItem.{UndoItem}
use Rattle.question_tree.specs.Questions.{tells, asks, stops}
use Rattle.row_edits.specs.BackEdits.{older}
use Rattle.row_edits.specs.Wishes as row
use Rattle.transaction_edits.specs.Wishes as transaction
use Rattle.transaction_edits.specs.Works.{by}
use Rattle.statement_work.specs.declared.acts.FixedPage.{FixedPage}
use Rattle.statement_work.specs.declared.acts.FixedPage.TheVariants as fixed
use Rattle.statement_work.specs.Latches.{KeepsLatches}
use Rattle.statement_work.specs.Works as works
use Rattle.statement_work.specs.Works.{Claim, OnWay, UndoPage, Fetches, FetchesFixed, FetchesSure, Releases, Stamps, Handed, Made, Told, Found, Replied, Rested, Again}
use Rattle.rw_worker.specs.Aims.{Aim, OfRow, OfTransaction, Work}
use Rattle.rw_worker.specs.Undoing.{is_none, undoing}

-- what is still to be done: the session's slot is read; the undo item at a place is read; what it says is undone;
-- the slot becomes free; nothing; and where an undo item is not at its place, the undoing stops
pub data Back : Type 0 where
  AtSlot : Back
  At : UndoPtr → Back
  Undoes : UndoItem → Back
  Frees : Back
  Done : Back
  Nowhere : Back

-- behind the first change its slot becomes free
abbrev pub from_place : UndoPtr → Back
from_place at = by (is_none at) Frees (At at)

-- a free slot has nothing to undo
abbrev pub from_slot : Slot → Back
from_slot slot = by (nat_eq slot.trx 0) Done (from_place slot.last)

abbrev pub from_item : Option UndoItem → Back
from_item None = Nowhere
from_item (Some undo) = Undoes undo

-- the slots page and then the undo item are read where they stand, each page on the way as it comes
abbrev pub past_fixed : ℕ → Back → Image → Back
past_fixed s AtSlot im = from_slot (slot_of im s)
past_fixed s other im = other

abbrev pub past_sure : Back → Image → Back
past_sure (At at) im = from_item (older im at)
past_sure other im = other

abbrev pub IsRead : Back → Claim → Type 0
IsRead (At at) (UndoPage page) = page ≡ at.page
IsRead (Undoes undo) (OnWay key path page) = key ≡ undo.key
IsRead other claim = ⊥

-- A plan takes back just what the undo item says, and the change before is next; a split is for the item that is to
-- be put back; the slot becomes free behind the first change.
abbrev pub IsNextBack : ℕ → Back → Aim → Back → Type 0
IsNextBack s (Undoes undo) (OfRow (row.Splits item path meta)) b =
    (undo.old ≡ Some item) × (b ≡ Undoes undo)
IsNextBack s (Undoes undo) (OfRow (row.TakesBack basis)) b =
    (basis.session ≡ s) × (basis.undo ≡ undo) × (b ≡ from_place undo.before)
IsNextBack s Frees (OfTransaction (transaction.Frees session slots)) b = (session ≡ s) × (b ≡ Done)
IsNextBack s other aim b = ⊥

-- it rests once all is done, and begins anew only where a change could not be undone yet
abbrev pub IsBackEnd : ℕ → Back → Told ⊥ → Type 0
IsBackEnd s Done Rested = Unit {0}
IsBackEnd s (Undoes undo) (Again session) = session ≡ s
IsBackEnd s other told = ⊥

-- whatever pages are handed out; each wish waits where the pool is full
abbrev pub IsBack : ℕ → Back → Work → Type 0
IsBack s b (tells a) = IsBackEnd s b a
IsBack s b (asks (Fetches calm q) k) = ⊥
IsBack s b (asks (FetchesFixed calm p) k) =
    (calm ≡ true) × ((im : Image) → IsBack s (past_fixed s b im) (k (Handed im)))
IsBack s b (asks (FetchesSure calm c) k) =
    (calm ≡ true) × IsRead b c × ((im : Image) → IsBack s (past_sure b im) (k (Handed im)))
IsBack s b (asks (Releases page) k) = ⊥
IsBack s b (asks (works.Runs calm aim) k) =
    (next : Back) × (calm ≡ true) × IsNextBack s b aim next × IsBack s next (k Made)
IsBack s b (asks Stamps k) = ⊥
IsBack s b (asks works.Appends k) = ⊥
IsBack s b stops = Unit {0}

abbrev pub UndoesInOrder : Type 0
UndoesInOrder = (s : ℕ) → IsBack s AtSlot (undoing s)

abbrev pub UndoesAreSilent : Type 0
UndoesAreSilent = (s : ℕ) → KeepsLatches false (undoing s)
