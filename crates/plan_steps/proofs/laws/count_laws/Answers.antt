use Rattle.plan_steps.proofs.CountLaws.{counts_alone}
use Rattle.plan_steps.proofs.laws.count_laws.Goals as goal

pub returns : goal.returns
returns c = record { counts = counts_alone }
