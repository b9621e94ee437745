use Rattle.std.proofs.Common.{sym, subst}
use Rattle.redo_record.specs.declared.plans.Plan.{Plan}
use Rattle.commit_stamps.specs.Effects.{Begins}
use Rattle.commit_stamps.proofs.plans.begin_plan.Goals as goal

pub returns-clause-begins : goal.returns-clause-begins
returns-clause-begins c =
    subst (λ (p : Plan). Begins c.args.meta.now c.args.slots.now c.args.s c.next_number-t.result p.records) (sym c.in_ok-plan.ensures) c.begin_changes.ensures
