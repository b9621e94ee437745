-- Stated: in which order the plans of a statement's changes are run, on every way through.
use Rattle.std.specs.Prelude.{◌≡◌, ℕ, true, false, List, [], ◌∷◌, Option, Some, None}
use Rattle.page_image.specs.Image.{Image}
use Rattle.page_image.specs.Meta.{counters_of}
use Rattle.sql_database.specs.declared.replies.SqlReply.{SqlReply}
use Rattle.sql_database.specs.declared.replies.SqlReply.TheVariants as reply
use Rattle.question_tree.specs.Questions.{tells, asks, stops}
use Rattle.row_edits.specs.Wishes as row
use Rattle.row_edits.specs.declared.changes.RowChange.{RowChange}
use Rattle.transaction_edits.specs.Wishes as transaction
use Rattle.statement_work.specs.Latches.{KeepsLatches}
use Rattle.statement_work.specs.Replies.{EndsInReply}
use Rattle.statement_work.specs.Works as works
use Rattle.statement_work.specs.Works.{Fetches, FetchesFixed, FetchesSure, Releases, Stamps, Handed, Made, Told, Found, Replied, Rested, Again}
use Rattle.rw_worker.specs.Aims.{Aim, OfRow, OfTransaction, Work}
use Rattle.rw_worker.specs.Writing.{numbered, writing}
use Rattle.rw_worker.specs.declared.writes.Write.{Write}

-- what is still to be done: the transaction gets its number, for these changes; these changes are made, in the
-- transaction with that number; the log is appended; Ok is replied
pub data Phase : Type 0 where
  Numbers : List RowChange → Phase
  Changes : ℕ → List RowChange → Phase
  Publishes : Phase
  Answers : Phase

-- A plan is one of the phase, and leads to the next: the begin of the session's transaction gives the changes its
-- number; a split is for the first change's item; the first change is followed by the others; the commit comes
-- behind the last, unless the transaction lasts.
abbrev pub IsNext : Write → Phase → Aim → Phase → Type 0
IsNext w (Numbers cs) (OfTransaction (transaction.Begins s meta slots)) p =
    (s ≡ w.session) × (p ≡ Changes (counters_of meta).next cs)
IsNext w (Changes trx (c ∷ cs)) (OfRow (row.Splits item path meta)) p =
    (item ≡ (numbered trx c).item) × (p ≡ Changes trx (c ∷ cs))
IsNext w (Changes trx (c ∷ cs)) (OfRow (row.Changes basis)) p =
    (basis.change ≡ numbered trx c) × (p ≡ Changes trx cs)
IsNext w (Changes trx []) (OfTransaction (transaction.Commits s meta slots stamps)) p =
    (w.lasting ≡ false) × (s ≡ w.session) × (p ≡ Publishes)
IsNext w other aim p = ⊥

-- pages are read before the last plan
abbrev pub Reads : Phase → Type 0
Reads (Numbers cs) = Unit {0}
Reads (Changes trx cs) = Unit {0}
Reads Publishes = ⊥
Reads Answers = ⊥

-- Ok is replied once all is done, of as many rows as are to be told; TrxFull before there is a number, SpaceFull
-- before a change
abbrev pub IsAnswer : Write → Phase → SqlReply → Type 0
IsAnswer w (Numbers cs) r = r ≡ reply.TrxFull
IsAnswer w (Changes trx (c ∷ cs)) r = r ≡ reply.SpaceFull
IsAnswer w (Changes trx []) r = (w.lasting ≡ true) × (r ≡ reply.Ok w.rows)
IsAnswer w Publishes r = ⊥
IsAnswer w Answers r = r ≡ reply.Ok w.rows

abbrev pub IsEnd : Write → Phase → Told ⊥ → Type 0
IsEnd w p (Found a) = ⊥
IsEnd w p (Replied r) = IsAnswer w p r
IsEnd w p Rested = ⊥
IsEnd w p (Again s) = ⊥

-- whatever pages are handed out; no wish waits where the pool is full
abbrev pub IsInOrder : Write → Phase → Work → Type 0
IsInOrder w p (tells a) = IsEnd w p a
IsInOrder w p (asks (Fetches calm q) k) =
    (calm ≡ false) × Reads p × ((im : Image) → IsInOrder w p (k (Handed im)))
IsInOrder w p (asks (FetchesFixed calm q) k) =
    (calm ≡ false) × Reads p × ((im : Image) → IsInOrder w p (k (Handed im)))
IsInOrder w p (asks (FetchesSure calm c) k) =
    (calm ≡ false) × Reads p × ((im : Image) → IsInOrder w p (k (Handed im)))
IsInOrder w p (asks (Releases page) k) = ⊥
IsInOrder w p (asks (works.Runs calm aim) k) =
    (next : Phase) × (calm ≡ false) × IsNext w p aim next × IsInOrder w next (k Made)
IsInOrder w p (asks Stamps k) = ⊥
IsInOrder w p (asks works.Appends k) = (p ≡ Publishes) × IsInOrder w Answers (k Made)
IsInOrder w p stops = Unit {0}

-- a number that is there is kept
abbrev pub phase_by : Option ℕ → List RowChange → Phase
phase_by (Some trx) cs = Changes trx cs
phase_by None cs = Numbers cs

-- with no changes Ok is replied at once
abbrev pub first_phase : Option ℕ → List RowChange → Phase
first_phase number [] = Answers
first_phase number (c ∷ cs) = phase_by number (c ∷ cs)

abbrev pub WritesInOrder : Type 0
WritesInOrder = (w : Write) → IsInOrder w (first_phase w.number w.changes.items) (writing w)

-- they end in a reply, and hold no latch
abbrev pub WritesEnd : Type 0
WritesEnd = (w : Write) → EndsInReply (writing w)

abbrev pub WritesAreSilent : Type 0
WritesAreSilent = (w : Write) → KeepsLatches false (writing w)
