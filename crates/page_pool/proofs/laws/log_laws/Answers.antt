use Rattle.page_pool.proofs.EveryCall.{is_a_front, known_is_a_front, log_is_counted, log_grows, acknowledged_grows, handed_was_current}
use Rattle.page_pool.proofs.laws.log_laws.Goals as goal

pub returns-clause-front : goal.returns-clause-front
returns-clause-front c = is_a_front

pub returns-clause-known : goal.returns-clause-known
returns-clause-known c = known_is_a_front

pub returns-clause-counted : goal.returns-clause-counted
returns-clause-counted c = log_is_counted

pub returns-clause-grows : goal.returns-clause-grows
returns-clause-grows c = log_grows

pub returns-clause-lasts : goal.returns-clause-lasts
returns-clause-lasts c = acknowledged_grows

pub returns-clause-current : goal.returns-clause-current
returns-clause-current c = handed_was_current
