use Rattle.message_network.proofs.Promises.{are_runs_of_calls, are_call_steps, each_handled_once, each_was_asked, replies_are_right}
use Rattle.message_network.proofs.laws.service_laws.Goals as goal

pub returns-clause-runs : goal.returns-clause-runs
returns-clause-runs c = are_runs_of_calls

pub returns-clause-steps : goal.returns-clause-steps
returns-clause-steps c = are_call_steps

pub returns-clause-once : goal.returns-clause-once
returns-clause-once c = each_handled_once

pub returns-clause-asked : goal.returns-clause-asked
returns-clause-asked c = each_was_asked

pub returns-clause-replies : goal.returns-clause-replies
returns-clause-replies c = replies_are_right
