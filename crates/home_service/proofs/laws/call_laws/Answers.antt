use Rattle.home_service.proofs.Moving.{unregister_serves}
use Rattle.home_service.proofs.Registering.{joins_serves, free_serves, given_serves, full_serves}
use Rattle.home_service.proofs.Invalidating.{invalidate_serves}
use Rattle.home_service.proofs.laws.call_laws.Goals as goal

pub returns-clause-unregister : goal.returns-clause-unregister
returns-clause-unregister c = unregister_serves

pub returns-clause-invalidate : goal.returns-clause-invalidate
returns-clause-invalidate c = invalidate_serves

pub returns-clause-joins : goal.returns-clause-joins
returns-clause-joins c = joins_serves

pub returns-clause-free : goal.returns-clause-free
returns-clause-free c = free_serves

pub returns-clause-given : goal.returns-clause-given
returns-clause-given c = given_serves

pub returns-clause-full : goal.returns-clause-full
returns-clause-full c = full_serves
