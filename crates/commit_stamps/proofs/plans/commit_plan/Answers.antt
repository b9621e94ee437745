use Rattle.std.proofs.Common.{sym, subst}
use Rattle.redo_record.specs.declared.plans.Plan.{Plan}
use Rattle.commit_stamps.specs.Effects.{Commits}
use Rattle.commit_stamps.proofs.plans.commit_plan.Goals as goal

pub returns-clause-commits : goal.returns-clause-commits
returns-clause-commits c =
    subst (λ (p : Plan). Commits c.args.meta.now c.args.slots.now c.args.stamps.now c.args.s p.records) (sym c.in_ok-plan.ensures) c.commit_changes.ensures
