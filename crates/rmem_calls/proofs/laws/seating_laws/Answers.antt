use Rattle.rmem_calls.proofs.Dropping.{kick_seated, drop_seated, none_there, others_stay}
use Rattle.rmem_calls.proofs.laws.seating_laws.Goals as goal

pub returns-clause-kick : goal.returns-clause-kick
returns-clause-kick c = kick_seated

pub returns-clause-drop : goal.returns-clause-drop
returns-clause-drop c = drop_seated

pub returns-clause-empty : goal.returns-clause-empty
returns-clause-empty c = none_there

pub returns-clause-elsewhere : goal.returns-clause-elsewhere
returns-clause-elsewhere c = others_stay
