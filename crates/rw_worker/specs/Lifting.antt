-- Stated: what a change of a leaf, and a transaction's begin and end, ask for, in the words of a worker.
use Rattle.std.specs.Prelude.{◌≡◌, ℕ, Bool}
use Rattle.question_tree.specs.Questions.{Ask, lift}
use Rattle.range_reader.specs.declared.fetch.Fetch.TheVariants as fetch
use Rattle.row_edits.specs.Wishes as row
use Rattle.row_edits.specs.declared.wishes.Act.TheVariants as row_act
use Rattle.row_edits.specs.declared.wishes.Fetch.TheVariants as row_fetch
use Rattle.row_edits.specs.declared.wishes.Act.{Act as RowAct}
use Rattle.row_edits.specs.declared.wishes.Fetch.{Fetch as RowFetch}
use Rattle.transaction_edits.specs.Wishes as transaction
use Rattle.transaction_edits.specs.declared.wishes.Act.TheVariants as transaction_act
use Rattle.transaction_edits.specs.declared.wishes.Fetch.TheVariants as transaction_fetch
use Rattle.transaction_edits.specs.declared.wishes.Act.{Act as TransactionAct}
use Rattle.transaction_edits.specs.declared.wishes.Fetch.{Fetch as TransactionFetch}
use Rattle.statement_work.specs.declared.acts.Deed.{Deed}
use Rattle.statement_work.specs.declared.acts.Deed.TheVariants as deed
use Rattle.statement_work.specs.declared.acts.FixedPage.TheVariants as fixed
use Rattle.statement_work.specs.Works as works
use Rattle.statement_work.specs.Works.{Wish, Input, Fetches, FetchesFixed, FetchesSure, OnWay, UndoPage, Handed, Stamped, Made}
use Rattle.rw_worker.specs.Aims.{Aim, OfRow, OfTransaction, Work}

-- ---- a change of a leaf

-- calm or not, as the whole is
abbrev pub row_wish : Bool → row.Wish → Wish Aim
row_wish calm (row.Steps key path page) = FetchesSure calm (OnWay key path page)
row_wish calm (row.ReadsUndo page) = FetchesSure calm (UndoPage page)
row_wish calm row.ReadsSlots = FetchesFixed calm fixed.Slots
row_wish calm row.ReadsMeta = FetchesFixed calm fixed.Meta
row_wish calm (row.Runs aim) = works.Runs calm (OfRow aim)

-- a page, or that the plan was run; no stamp is asked for
abbrev pub of_row : Input → row.Input
of_row (Handed im) = row.Handed im
of_row (Stamped n) = row.Ran
of_row Made = row.Ran

-- a change of a leaf, and then what follows from what became of it
abbrev pub row_over : {A : Type 0} → Bool → Ask row.Wish row.Input A → (A → Work) → Work
row_over calm m k = lift (row_wish calm) of_row m k

abbrev pub row_page : RowFetch → Deed
row_page (row_fetch.Root p) = deed.FetchSure (fetch.Root p)
row_page (row_fetch.Child p) = deed.FetchSure (fetch.Child p)
row_page (row_fetch.Undo p) = deed.FetchSure (fetch.Undo p)
row_page row_fetch.Slots = deed.FetchFixed fixed.Slots
row_page row_fetch.Meta = deed.FetchFixed fixed.Meta

abbrev pub row_deed : RowAct → Deed
row_deed (row_act.Fetch q) = row_page q
row_deed (row_act.Run plan) = deed.Run plan

-- ---- a transaction's begin or end

abbrev pub transaction_wish : Bool → transaction.Wish → Wish Aim
transaction_wish calm transaction.ReadsMeta = FetchesFixed calm fixed.Meta
transaction_wish calm transaction.ReadsSlots = FetchesFixed calm fixed.Slots
transaction_wish calm (transaction.ReadsStamps page) = Fetches calm (fetch.Stamps page)
transaction_wish calm (transaction.Runs aim) = works.Runs calm (OfTransaction aim)

abbrev pub of_transaction : Input → transaction.Input
of_transaction (Handed im) = transaction.Handed im
of_transaction (Stamped n) = transaction.Ran
of_transaction Made = transaction.Ran

-- a begin or an end, and then what follows from what became of it
abbrev pub transaction_over : {A : Type 0} → Bool → Ask transaction.Wish transaction.Input A → (A → Work)
    → Work
transaction_over calm m k = lift (transaction_wish calm) of_transaction m k

abbrev pub transaction_page : TransactionFetch → Deed
transaction_page transaction_fetch.Meta = deed.FetchFixed fixed.Meta
transaction_page transaction_fetch.Slots = deed.FetchFixed fixed.Slots
transaction_page (transaction_fetch.Stamps p) = deed.Fetch (fetch.Stamps p)

abbrev pub transaction_deed : TransactionAct → Deed
transaction_deed (transaction_act.Fetch q) = transaction_page q
transaction_deed (transaction_act.Run plan) = deed.Run plan
