use Rattle.plan_steps.proofs.Entries.{entries_stay_rooted, none_stay_behind}
use Rattle.plan_steps.proofs.laws.entry_laws.Goals as goal

pub returns-clause-rooted : goal.returns-clause-rooted
returns-clause-rooted c = entries_stay_rooted

pub returns-clause-behind : goal.returns-clause-behind
returns-clause-behind c = none_stay_behind
