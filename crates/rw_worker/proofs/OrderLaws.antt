-- The order of a statement's plans.
use Rattle.std.proofs.Common.{◌≡◌, ℕ, Bool, true, false, List, [], ◌∷◌, Option, Some, None, refl, sym, ◌∙◌, ap, subst}
use Rattle.page_image.specs.Image.{Image}
use Rattle.page_image.specs.Meta.{counters_of}
use Rattle.commit_stamps.specs.Fields.{slot_of}
use Rattle.commit_stamps.specs.Stamping.{stamp_page}
use Rattle.question_tree.specs.Questions.{Ask, tells, asks, stops, lift}
use Rattle.row_edits.specs.Wishes as row
use Rattle.row_edits.specs.declared.changes.RowChange.{RowChange}
use Rattle.row_edits.specs.declared.wishes.Edited.{Edited}
use Rattle.row_edits.specs.declared.wishes.Edited.TheVariants as edited
use Rattle.row_edits.specs.Laws.{Given, IsOneChange, nothing, with_meta, with_slots, with_step, with_undo}
use Rattle.row_edits.specs.RowEdits.{RowWork, row_work}
use Rattle.row_edits.proofs.OnceLaws.{changes_once}
use Rattle.transaction_edits.specs.Wishes as transaction
use Rattle.transaction_edits.specs.Works as transaction_works
use Rattle.transaction_edits.specs.Works.{begin_work, by_number, can_commit, commit_work, committing, number_of}
use Rattle.transaction_edits.specs.declared.numbering.Number.{Number}
use Rattle.transaction_edits.specs.declared.numbering.Number.TheVariants as number
use Rattle.transaction_edits.specs.declared.wishes.Told.{Told}
use Rattle.transaction_edits.specs.declared.wishes.Told.TheVariants as told
use Rattle.statement_work.specs.Latches.{ReleasesNone}
use Rattle.statement_work.specs.Replies.{EndsInReply}
use Rattle.rw_worker.specs.Aims.{Work}
use Rattle.rw_worker.specs.Lifting.{of_row, of_transaction, row_over, transaction_over}
use Rattle.rw_worker.specs.Orders.{Phase, Numbers, Changes, Publishes, Answers, IsInOrder, first_phase, WritesInOrder, WritesEnd, WritesAreSilent}
use Rattle.rw_worker.specs.Writing.{begun_then, changing, committed, edited_then, ends, numbered, numbered_by, writing_of}
use Rattle.rw_worker.specs.declared.writes.Write.{Write}

-- ---- a change

row_in_order : (w : Write) (trx : ℕ) (c : RowChange) (cs : List RowChange) (next : Work) → IsInOrder w (Changes trx cs) next
    → (m : RowWork) (given : Given) → IsOneChange (numbered trx c) given m
    → IsInOrder w (Changes trx (c ∷ cs)) (row_over false m (edited_then next))
unfolding lift
row_in_order w trx c cs next g (tells edited.Made) given h = absurd h
row_in_order w trx c cs next g (tells edited.SpaceFull) given h = refl
row_in_order w trx c cs next g (asks (row.Steps key path page) k) given h =
    (refl, tt, λ im. row_in_order w trx c cs next g (k (row.Handed im)) (with_step given im) (h.2 im))
row_in_order w trx c cs next g (asks (row.ReadsUndo page) k) given h =
    (refl, tt, λ im. row_in_order w trx c cs next g (k (row.Handed im)) (with_undo given im) (h im))
row_in_order w trx c cs next g (asks row.ReadsSlots k) given h =
    (refl, tt, λ im. row_in_order w trx c cs next g (k (row.Handed im)) (with_slots given im) (h im))
row_in_order w trx c cs next g (asks row.ReadsMeta k) given h =
    (refl, tt, λ im. row_in_order w trx c cs next g (k (row.Handed im)) (with_meta given im) (h im))
row_in_order w trx c cs next g (asks (row.Runs (row.Splits item path meta)) k) given h =
    (Changes trx (c ∷ cs), refl, (h.0, refl), row_in_order w trx c cs next g (k row.Ran) nothing h.3)
row_in_order w trx c cs next g (asks (row.Runs (row.Changes basis)) k) given h =
    let P : RowWork → Type 0 = λ x. IsInOrder w (Changes trx cs) (row_over false x (edited_then next)) in
    (Changes trx cs, refl, (h.0, refl), subst P (sym h.5) g)
row_in_order w trx c cs next g (asks (row.Runs (row.TakesBack basis)) k) given h = absurd h
row_in_order w trx c cs next g stops given h = tt

-- ---- the commit

commit_by : (w : Write) (trx : ℕ) (meta slots : Image) (b : Bool) → w.lasting ≡ false
    → IsInOrder w (Changes trx []) (transaction_over false (transaction_works.by b (asks (transaction.ReadsStamps (stamp_page (slot_of slots w.session).trx))
    (λ x. committing w.session meta slots (transaction.page_in x))) stops) (committed w.rows))
unfolding lift
commit_by w trx meta slots true e = (refl, tt, λ im. (Publishes, refl, (e, refl, refl), (refl, refl)))
commit_by w trx meta slots false e = tt

ends_by : (w : Write) (trx : ℕ) (b : Bool) → w.lasting ≡ b → IsInOrder w (Changes trx []) (ends b w.session w.rows)
unfolding lift
ends_by w trx true e = (e, refl)
ends_by w trx false e = (refl, tt, λ meta. (refl, tt, λ slots. commit_by w trx meta slots (can_commit w.session meta slots) e))

all_in_order : (w : Write) (trx : ℕ) (cs : List RowChange) → IsInOrder w (Changes trx cs) (changing w.lasting w.session w.rows trx cs)
unfolding changing
all_in_order w trx [] = ends_by w trx w.lasting refl
all_in_order w trx (c ∷ cs) =
    row_in_order w trx c cs (changing w.lasting w.session w.rows trx cs) (all_in_order w trx cs) (row_work (numbered trx c)) nothing (changes_once (numbered trx c))

-- ---- the begin

begin_by : (w : Write) (cs : List RowChange) (meta slots : Image) (n : Number)
    → IsInOrder w (Numbers cs) (transaction_over false (by_number n w.session meta slots) (begun_then (λ trx. changing w.lasting w.session w.rows trx cs)))
unfolding lift
begin_by w cs meta slots number.Next = (Changes (counters_of meta).next cs, refl, (refl, refl), all_in_order w (counters_of meta).next cs)
begin_by w cs meta slots number.AllGiven = refl
begin_by w cs meta slots number.Wrong = tt

begin_in_order : (w : Write) (cs : List RowChange)
    → IsInOrder w (Numbers cs) (transaction_over false (begin_work w.session) (begun_then (λ trx. changing w.lasting w.session w.rows trx cs)))
unfolding lift
begin_in_order w cs = (refl, tt, λ meta. (refl, tt, λ slots. begin_by w cs meta slots (number_of meta)))

pub writes_in_order : WritesInOrder
writes_in_order w = go w.number w.changes.items
  where
    go : (number : Option ℕ) (cs : List RowChange) → IsInOrder w (first_phase number cs) (writing_of number w.lasting w.session w.rows cs)
    go number [] = refl
    go (Some trx) (c ∷ cs) = all_in_order w trx (c ∷ cs)
    go None (c ∷ cs) = begin_in_order w (c ∷ cs)

-- ---- the end

pub row_replies : {A : Type 0} (calm : Bool) (m : Ask row.Wish row.Input A) (k : A → Work) → ((a : A) → EndsInReply (k a)) → EndsInReply (row_over calm m k)
unfolding lift
row_replies calm (tells a) k h = h a
row_replies calm (asks q n) k h = λ x. row_replies calm (n (of_row x)) k h
row_replies calm stops k h = tt

transaction_replies : {A : Type 0} (calm : Bool) (m : Ask transaction.Wish transaction.Input A) (k : A → Work) → ((a : A) → EndsInReply (k a))
    → EndsInReply (transaction_over calm m k)
unfolding lift
transaction_replies calm (tells a) k h = h a
transaction_replies calm (asks q n) k h = λ x. transaction_replies calm (n (of_transaction x)) k h
transaction_replies calm stops k h = tt

committed_replies : (n : ℕ) (t : Told) → EndsInReply (committed n t)
committed_replies n (told.Committed stamp) = λ x. tt
committed_replies n (told.Begun trx) = tt
committed_replies n told.TrxFull = tt
committed_replies n told.Freed = tt

ends_replies : (b : Bool) (s n : ℕ) → EndsInReply (ends b s n)
ends_replies true s n = tt
ends_replies false s n = transaction_replies false (commit_work s) (committed n) (committed_replies n)

edited_replies : (next : Work) → EndsInReply next → (e : Edited) → EndsInReply (edited_then next e)
edited_replies next h edited.Made = h
edited_replies next h edited.SpaceFull = tt

changing_replies : (b : Bool) (s n trx : ℕ) (cs : List RowChange) → EndsInReply (changing b s n trx cs)
unfolding changing
changing_replies b s n trx [] = ends_replies b s n
changing_replies b s n trx (c ∷ cs) = row_replies false (row_work (numbered trx c)) (edited_then (changing b s n trx cs)) (edited_replies (changing b s n trx cs) (changing_replies b s n trx cs))

begun_replies : (k : ℕ → Work) → ((trx : ℕ) → EndsInReply (k trx)) → (t : Told) → EndsInReply (begun_then k t)
begun_replies k h (told.Begun trx) = h trx
begun_replies k h told.TrxFull = tt
begun_replies k h (told.Committed stamp) = tt
begun_replies k h told.Freed = tt

pub writes_end : WritesEnd
writes_end w = go w.number w.changes.items
  where
    go : (number : Option ℕ) (cs : List RowChange) → EndsInReply (writing_of number w.lasting w.session w.rows cs)
    go number [] = tt
    go (Some trx) (c ∷ cs) = changing_replies w.lasting w.session w.rows trx (c ∷ cs)
    go None (c ∷ cs) =
        transaction_replies false (begin_work w.session) (begun_then (λ trx. changing w.lasting w.session w.rows trx (c ∷ cs)))
        (begun_replies (λ trx. changing w.lasting w.session w.rows trx (c ∷ cs)) (λ trx. changing_replies w.lasting w.session w.rows trx (c ∷ cs)))

-- ---- no latch

pub row_silent : {A : Type 0} (calm : Bool) (m : Ask row.Wish row.Input A) (k : A → Work) → ((a : A) → ReleasesNone (k a)) → ReleasesNone (row_over calm m k)
unfolding lift
row_silent calm (tells a) k h = h a
row_silent calm (asks (row.Steps key path page) n) k h = λ im. row_silent calm (n (row.Handed im)) k h
row_silent calm (asks (row.ReadsUndo page) n) k h = λ im. row_silent calm (n (row.Handed im)) k h
row_silent calm (asks row.ReadsSlots n) k h = λ im. row_silent calm (n (row.Handed im)) k h
row_silent calm (asks row.ReadsMeta n) k h = λ im. row_silent calm (n (row.Handed im)) k h
row_silent calm (asks (row.Runs aim) n) k h = row_silent calm (n row.Ran) k h
row_silent calm stops k h = tt

pub transaction_silent : {A : Type 0} (calm : Bool) (m : Ask transaction.Wish transaction.Input A) (k : A → Work) → ((a : A) → ReleasesNone (k a))
    → ReleasesNone (transaction_over calm m k)
unfolding lift
transaction_silent calm (tells a) k h = h a
transaction_silent calm (asks transaction.ReadsMeta n) k h = λ im. transaction_silent calm (n (transaction.Handed im)) k h
transaction_silent calm (asks transaction.ReadsSlots n) k h = λ im. transaction_silent calm (n (transaction.Handed im)) k h
transaction_silent calm (asks (transaction.ReadsStamps page) n) k h = λ im. transaction_silent calm (n (transaction.Handed im)) k h
transaction_silent calm (asks (transaction.Runs aim) n) k h = transaction_silent calm (n transaction.Ran) k h
transaction_silent calm stops k h = tt

committed_silent : (n : ℕ) (t : Told) → ReleasesNone (committed n t)
committed_silent n (told.Committed stamp) = tt
committed_silent n (told.Begun trx) = tt
committed_silent n told.TrxFull = tt
committed_silent n told.Freed = tt

ends_silent : (b : Bool) (s n : ℕ) → ReleasesNone (ends b s n)
ends_silent true s n = tt
ends_silent false s n = transaction_silent false (commit_work s) (committed n) (committed_silent n)

edited_silent : (next : Work) → ReleasesNone next → (e : Edited) → ReleasesNone (edited_then next e)
edited_silent next h edited.Made = h
edited_silent next h edited.SpaceFull = tt

changing_silent : (b : Bool) (s n trx : ℕ) (cs : List RowChange) → ReleasesNone (changing b s n trx cs)
unfolding changing
changing_silent b s n trx [] = ends_silent b s n
changing_silent b s n trx (c ∷ cs) = row_silent false (row_work (numbered trx c)) (edited_then (changing b s n trx cs)) (edited_silent (changing b s n trx cs) (changing_silent b s n trx cs))

begun_silent : (k : ℕ → Work) → ((trx : ℕ) → ReleasesNone (k trx)) → (t : Told) → ReleasesNone (begun_then k t)
begun_silent k h (told.Begun trx) = h trx
begun_silent k h told.TrxFull = tt
begun_silent k h (told.Committed stamp) = tt
begun_silent k h told.Freed = tt

pub writes_are_silent : WritesAreSilent
writes_are_silent w = go w.number w.changes.items
  where
    go : (number : Option ℕ) (cs : List RowChange) → ReleasesNone (writing_of number w.lasting w.session w.rows cs)
    go number [] = tt
    go (Some trx) (c ∷ cs) = changing_silent w.lasting w.session w.rows trx (c ∷ cs)
    go None (c ∷ cs) =
        transaction_silent false (begin_work w.session) (begun_then (λ trx. changing w.lasting w.session w.rows trx (c ∷ cs)))
        (begun_silent (λ trx. changing w.lasting w.session w.rows trx (c ∷ cs)) (λ trx. changing_silent w.lasting w.session w.rows trx (c ∷ cs)))
