use Rattle.cluster_manager.proofs.Seats.{sweep_seated, empty_seated}
use Rattle.cluster_manager.proofs.laws.seating_laws.Goals as goal

pub returns-clause-sweep : goal.returns-clause-sweep
returns-clause-sweep c = sweep_seated

pub returns-clause-renewal : goal.returns-clause-renewal
returns-clause-renewal c = empty_seated
