-- For the proofs: what is left, and what is known, at each stage of a statement's changes.
use Rattle.std.specs.Prelude.{◌≡◌, ℕ, false, List, ◌∷◌, Option, None}
use Rattle.sql_database.specs.declared.replies.SqlReply.{SqlReply}
use Rattle.sql_database.specs.declared.replies.SqlReply.TheVariants as reply
use Rattle.question_tree.specs.Questions.{tells, stops, told}
use Rattle.row_edits.specs.RowStages as row
use Rattle.row_edits.specs.declared.changes.RowChange.{RowChange}
use Rattle.row_edits.specs.RowPlans.{IsChange}
use Rattle.transaction_edits.specs.Stages as transaction
use Rattle.statement_work.specs.Works.{Replied}
use Rattle.rw_worker.specs.Aims.{Work}
use Rattle.rw_worker.specs.Lifting.{row_over, transaction_over}
use Rattle.rw_worker.specs.Writing.{AreChanges, appended, begun_then, changing, committed, edited_then}
use Rattle.rw_worker.specs.declared.writes.Todo.{Todo}
use Rattle.rw_worker.specs.declared.writes.WriteEnd.{WriteEnd}
use Rattle.rw_worker.specs.declared.writes.WriteEnd.TheVariants as end
use Rattle.rw_worker.specs.declared.write_stages.WriteStage.{WriteStage}
use Rattle.rw_worker.specs.declared.write_stages.WriteStage.TheVariants as stage

abbrev pub reply_of : WriteEnd → SqlReply
reply_of (end.Made n) = reply.Ok n
reply_of end.SpaceFull = reply.SpaceFull
reply_of end.TrxFull = reply.TrxFull

-- what is still to be changed, in the transaction with this number
abbrev pub to_do : Todo → ℕ → Work
to_do t trx = changing t.lasting t.session t.rows trx t.changes.items

abbrev pub with_first : RowChange → Todo → ℕ → Work
with_first first t trx = changing t.lasting t.session t.rows trx (first ∷ t.changes.items)

abbrev pub work_of : WriteStage → Work
work_of (stage.Beginning edit first t) =
    transaction_over false (transaction.work_of edit) (begun_then (with_first first t))
work_of (stage.Editing edit trx t) =
    row_over false (row.work_of edit) (edited_then (to_do t trx))
work_of (stage.Committing edit n) =
    transaction_over false (transaction.work_of edit) (committed n)
work_of (stage.Appending n) = appended n
work_of (stage.Told end) = tells (Replied (reply_of end))
work_of stage.Stopped = stops

abbrev pub Stands : WriteStage → Type 0
Stands (stage.Beginning edit first t) =
    (told (transaction.work_of edit) ≡ None) × IsChange first × AreChanges t.changes.items
Stands (stage.Editing edit trx t) =
    (told (row.work_of edit) ≡ None) × AreChanges t.changes.items
Stands (stage.Committing edit n) = told (transaction.work_of edit) ≡ None
Stands (stage.Appending n) = Unit {0}
Stands (stage.Told end) = Unit {0}
Stands stage.Stopped = Unit {0}
