use Rattle.plan_steps.proofs.Splitting.{split_is_split}
use Rattle.plan_steps.proofs.laws.split_laws.Goals as goal

pub returns : goal.returns
returns c = record { split = split_is_split }
