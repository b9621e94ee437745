use Rattle.plan_steps.proofs.Following.{groups_grow, others_grow, undo_is_kept, versions_are_followed}
use Rattle.plan_steps.proofs.laws.growth_laws.Goals as goal

pub returns-clause-groups : goal.returns-clause-groups
returns-clause-groups c = groups_grow

pub returns-clause-others : goal.returns-clause-others
returns-clause-others c = others_grow

pub returns-clause-kept : goal.returns-clause-kept
returns-clause-kept c = undo_is_kept

pub returns-clause-followed : goal.returns-clause-followed
returns-clause-followed c = versions_are_followed
