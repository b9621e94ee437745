use Rattle.pool_laws.proofs.EveryEvent.{events_are_steps, pages_are_reached, pages_are_coherent, handled_once, log_is_durable, appends_are_kept}
use Rattle.pool_laws.proofs.pool_laws.Goals as goal

pub returns-clause-steps : goal.returns-clause-steps
returns-clause-steps g c = events_are_steps

pub returns-clause-pages : goal.returns-clause-pages
returns-clause-pages g c = pages_are_reached

pub returns-clause-coherent : goal.returns-clause-coherent
returns-clause-coherent g c = pages_are_coherent

pub returns-clause-once : goal.returns-clause-once
returns-clause-once g c = handled_once

pub returns-clause-durable : goal.returns-clause-durable
returns-clause-durable g c = log_is_durable

pub returns-clause-kept : goal.returns-clause-kept
returns-clause-kept g c = appends_are_kept
