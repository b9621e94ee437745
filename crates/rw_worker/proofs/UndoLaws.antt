-- An undoing, one change after the other.
use Rattle.std.proofs.Common.{◌≡◌, ◌≢◌, ◌-◌, ℕ, zero, suc, Bool, true, false, Option, Some, None, eqb-true, refl, sym, ◌∙◌, ap, subst, arith}
use Rattle.std.specs.Prelude.{nat_eq}
use Rattle.rm_base.specs.declared.places.UndoPtr.{UndoPtr}
use Rattle.page_image.specs.Image.{Image}
use Rattle.page_image.specs.Meta.{IsSlots}
use Rattle.commit_stamps.specs.declared.slots.Slot.{Slot}
use Rattle.question_tree.specs.Questions.{Ask, tells, asks, stops, after, told, lift}
use Rattle.row_edits.specs.BackEdits.{BackWork, undo_wanted}
use Rattle.row_edits.specs.RowEdits.{is_page}
use Rattle.row_edits.specs.Rooms as rooms
use Rattle.row_edits.specs.Wishes as row
use Rattle.transaction_edits.specs.Wishes as transaction
use Rattle.transaction_edits.specs.Works.{Work as TransactionWork, by, free_work}
use Rattle.statement_work.specs.declared.acts.FixedPage.TheVariants as fixed
use Rattle.statement_work.specs.Acting.{anew}
use Rattle.statement_work.specs.Works.{IsFixed}
use Rattle.rw_worker.specs.Aims.{Work}
use Rattle.rw_worker.specs.Lifting.{row_over, transaction_over}
use Rattle.rw_worker.specs.Undoing.{free, freed, is_none, rested, taken_then, undoing, undone, undone_by}
use Rattle.rw_worker.specs.declared.undo_stages.TheConstants.{MOST_CHANGES}

something : {A B : Type 0} {a : A} → Some a ≡ None → B
something e = absurd (apart e)
  where
    apart : {A : Type 0} {a : A} → Some a ≡ None → ⊥
    apart q = cc

pub slots_are : (im : Image) → IsFixed fixed.Slots im → IsSlots im
slots_are im h = record { kind = h.1; number = h.0 }

pub undone_stops : (s n : ℕ) (at : UndoPtr) → n ≡ 0 → stops ≡ undone n s at
unfolding undone
undone_stops s n at e = ap (λ (k : ℕ). undone k s at) (sym e)

is_zero : (n : ℕ) → n ≡ 0 → nat_eq n 0 ≡ true
is_zero zero e = refl
is_zero (suc n) e = absurd (apart e)
  where
    apart : {n : ℕ} → suc n ≡ 0 → ⊥
    apart q = omega arith

is_other : (n : ℕ) → n ≢ 0 → nat_eq n 0 ≡ false
is_other n e = go (nat_eq n 0) refl
  where
    go : (b : Bool) → nat_eq n 0 ≡ b → b ≡ false
    go true t = absurd (e (eqb-true n 0 t))
    go false t = refl

pub undone_free : (s n : ℕ) (at : UndoPtr) (m : TransactionWork) → n ≢ 0 → at.page ≡ 0 → m ≡ free_work s → transaction_over true m freed ≡ undone n s at
unfolding undone
undone_free s zero at m e p h = absurd (e refl)
undone_free s (suc n) at m e p h = ap (λ (x : TransactionWork). transaction_over true x freed) h ∙ ap (λ (b : Bool). by b (free s) (row_over true (undo_wanted s at) (taken_then s (undone n s)))) (sym (is_zero at.page p))

less : (n : ℕ) → suc n - 1 ≡ n
less n = omega arith

pub undone_back : (s n : ℕ) (at : UndoPtr) (m : BackWork) → n ≢ 0 → at.page ≢ 0 → m ≡ undo_wanted s at
    → row_over true m (taken_then s (undone (n - 1) s)) ≡ undone n s at
unfolding undone
undone_back s zero at m e p h = absurd (e refl)
undone_back s (suc n) at m e p h =
    ap (λ (k : ℕ). row_over true m (taken_then s (undone k s))) (less n)
    ∙ (ap (λ (x : BackWork). row_over true x (taken_then s (undone n s))) h
    ∙ ap (λ (b : Bool). by b (free s) (row_over true (undo_wanted s at) (taken_then s (undone n s)))) (sym (is_other at.page p)))

pub slot_free : (s : ℕ) (slot : Slot) → slot.trx ≡ 0 → rested ≡ undone_by s slot
slot_free s slot e = ap (λ (b : Bool). by b rested (undone MOST_CHANGES s slot.last)) (sym (is_zero slot.trx e))

pub slot_taken : (s : ℕ) (slot : Slot) (w : Work) → slot.trx ≢ 0 → w ≡ undone MOST_CHANGES s slot.last → w ≡ undone_by s slot
slot_taken s slot w e h = h ∙ ap (λ (b : Bool). by b rested (undone MOST_CHANGES s slot.last)) (sym (is_other slot.trx e))

untold_by : (b : Bool) (q : row.Wish) (k : row.Input → BackWork) → told (rooms.by b (asks q k) stops) ≡ None
untold_by true q k = refl
untold_by false q k = refl

pub back_untold : (s : ℕ) (at : UndoPtr) (m : BackWork) → m ≡ undo_wanted s at → told m ≡ None
back_untold s at m e = ap told e ∙ untold_by (is_page at.page) _ _

pub row_anew : {A : Type 0} (m : Ask row.Wish row.Input A) (k : A → Work) → told m ≡ None → row_over true m k ≡ anew undoing (row_over true m k)
unfolding lift
row_anew (tells b) k e = something e
row_anew (asks q n) k e = refl
row_anew stops k e = refl

pub transaction_anew : {A : Type 0} (m : Ask transaction.Wish transaction.Input A) (k : A → Work) → told m ≡ None
    → transaction_over true m k ≡ anew undoing (transaction_over true m k)
unfolding lift
transaction_anew (tells b) k e = something e
transaction_anew (asks q n) k e = refl
transaction_anew stops k e = refl

pub anew_same : (u v w : Work) → v ≡ w → u ≡ anew undoing v → u ≡ anew undoing w
anew_same u v w e h = h ∙ ap (λ (x : Work). anew undoing x) e
