-- Stated: what the plans of a node that writes are for, and which plans serve that.
use Rattle.redo_record.specs.declared.plans.Plan.{Plan}
use Rattle.row_edits.specs.Wishes as row
use Rattle.transaction_edits.specs.Wishes as transaction
use Rattle.statement_work.specs.Terms.{Terms}
use Rattle.statement_work.specs.Works as works

-- a transaction's begin or end, or the change of a leaf; each with the pages that its plan stands on
pub data Aim : Type 0 where
  OfTransaction : transaction.Aim → Aim
  OfRow : row.Aim → Aim

abbrev pub IsPlanFor : Aim → Plan → Type 0
IsPlanFor (OfTransaction aim) plan = transaction.IsPlanFor aim plan
IsPlanFor (OfRow aim) plan = row.IsPlanFor aim plan

-- what is told at the end is told by number alone: nothing is found here
abbrev pub writer : Terms
writer = record {
  Aim = Aim;
  Serves = IsPlanFor;
  Finding = ⊥;
  Replies = λ a r. ⊥;
}

abbrev pub Work : Type 0
Work = works.Work writer
