use Rattle.call_model.proofs.Laws.{handled_once, answers_are_kept, handled_were_asked, labels_are_of_one_call, refused_are_older, events_are_call_steps}
use Rattle.call_model.proofs.call_laws.Goals as goal

pub returns-clause-once : goal.returns-clause-once
returns-clause-once g c = handled_once

pub returns-clause-kept : goal.returns-clause-kept
returns-clause-kept g c = answers_are_kept

pub returns-clause-asked : goal.returns-clause-asked
returns-clause-asked g c = handled_were_asked

pub returns-clause-one_call : goal.returns-clause-one_call
returns-clause-one_call g c = labels_are_of_one_call

pub returns-clause-older : goal.returns-clause-older
returns-clause-older g c = refused_are_older

pub returns-clause-steps : goal.returns-clause-steps
returns-clause-steps g c = events_are_call_steps
