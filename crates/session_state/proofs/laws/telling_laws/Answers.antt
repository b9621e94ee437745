use Rattle.session_state.proofs.Entries.{enqueue_tells, exec_tells, forget_tells, join_tells, nodes_tell, settle_tells, snap_tells, start_tells, submit_tells}
use Rattle.session_state.proofs.Falls.{fall_tells}
use Rattle.session_state.proofs.Replies.{lost_tells, refusal_tells, reply_tells}
use Rattle.session_state.proofs.Stopped.{timer_tells}
use Rattle.session_state.proofs.laws.telling_laws.Goals as goal

pub returns-clause-start : goal.returns-clause-start
returns-clause-start g c = start_tells g.L.Language.language

pub returns-clause-joins : goal.returns-clause-joins
returns-clause-joins g c = join_tells g.L.Language.language

pub returns-clause-submits : goal.returns-clause-submits
returns-clause-submits g c = submit_tells g.L.Language.language

pub returns-clause-refusal : goal.returns-clause-refusal
returns-clause-refusal g c = refusal_tells g.L.Language.language

pub returns-clause-lost : goal.returns-clause-lost
returns-clause-lost g c = lost_tells g.L.Language.language

pub returns-clause-snaps : goal.returns-clause-snaps
returns-clause-snaps g c = snap_tells g.L.Language.language

pub returns-clause-executes : goal.returns-clause-executes
returns-clause-executes g c = exec_tells g.L.Language.language

pub returns-clause-enqueues : goal.returns-clause-enqueues
returns-clause-enqueues g c = enqueue_tells g.L.Language.language

pub returns-clause-settles : goal.returns-clause-settles
returns-clause-settles g c = settle_tells g.L.Language.language

pub returns-clause-replies : goal.returns-clause-replies
returns-clause-replies g c = reply_tells g.L.Language.language

pub returns-clause-timer : goal.returns-clause-timer
returns-clause-timer g c = timer_tells g.L.Language.language

pub returns-clause-falls : goal.returns-clause-falls
returns-clause-falls g c = fall_tells g.L.Language.language

pub returns-clause-nodes : goal.returns-clause-nodes
returns-clause-nodes g c = nodes_tell g.L.Language.language

pub returns-clause-forgets : goal.returns-clause-forgets
returns-clause-forgets g c = forget_tells g.L.Language.language
