use Rattle.history.proofs.SmallRun.{small_run_happens}
use Rattle.history.proofs.laws.small_run_laws.Goals as goal

pub returns : goal.returns
returns c = record { happens = small_run_happens }
