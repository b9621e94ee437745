use Rattle.std.proofs.Common.{sym, ◌∙◌, ap, subst}
use Rattle.question_tree.specs.Questions.{after}
use Rattle.row_edits.specs.RowStages as row
use Rattle.transaction_edits.specs.Stages as transaction
use Rattle.statement_work.specs.Works.{Made}
use Rattle.rw_worker.specs.Writing.{begun_then, committed, edited_then}
use Rattle.rw_worker.specs.WriteStages.{Stands, to_do, with_first, work_of}
use Rattle.rw_worker.specs.declared.write_stages.WriteStage.{WriteStage}
use Rattle.rw_worker.specs.declared.write_stages.WriteStage.TheVariants as stage
use Rattle.rw_worker.proofs.LiftLaws.{row_goes_on, transaction_goes_on}
use Rattle.rw_worker.proofs.write_stages.ran.Goals as goal

pub returns-in-Beginning-clause-work : goal.returns-in-Beginning-clause-work
returns-in-Beginning-clause-work c =
    let P : WriteStage → Type 0 = λ st. Stands st in
    let s : Stands (stage.Beginning c.in-Beginning.edit c.in-Beginning.first c.in-Beginning.todo) = subst P c.in-Beginning.is c.requires.stands in
    transaction_goes_on (transaction.work_of c.in-Beginning.edit) (transaction.work_of c.ran.result) (begun_then (with_first c.in-Beginning.first c.in-Beginning.todo))
    (work_of c.begin_on.result) s.0 c.ran.ensures c.begin_on.ensures.work
    ∙ ap (λ (st : WriteStage). after (work_of st) Made) (sym c.in-Beginning.is)

pub returns-in-Editing-clause-work : goal.returns-in-Editing-clause-work
returns-in-Editing-clause-work c =
    let P : WriteStage → Type 0 = λ st. Stands st in
    let s : Stands (stage.Editing c.in-Editing.edit c.in-Editing.trx c.in-Editing.todo) = subst P c.in-Editing.is c.requires.stands in
    row_goes_on (row.work_of c.in-Editing.edit) (row.work_of c.ran-in-Editing.result) (edited_then (to_do c.in-Editing.todo c.in-Editing.trx))
    (work_of c.row_on.result) s.0 c.ran-in-Editing.ensures c.row_on.ensures.work
    ∙ ap (λ (st : WriteStage). after (work_of st) Made) (sym c.in-Editing.is)

pub returns-in-Committing-clause-work : goal.returns-in-Committing-clause-work
returns-in-Committing-clause-work c =
    let P : WriteStage → Type 0 = λ st. Stands st in
    let s : Stands (stage.Committing c.in-Committing.edit c.in-Committing.rows) = subst P c.in-Committing.is c.requires.stands in
    transaction_goes_on (transaction.work_of c.in-Committing.edit) (transaction.work_of c.ran-in-Committing.result) (committed c.in-Committing.rows)
    (work_of c.commit_on.result) s c.ran-in-Committing.ensures c.commit_on.ensures.work
    ∙ ap (λ (st : WriteStage). after (work_of st) Made) (sym c.in-Committing.is)
