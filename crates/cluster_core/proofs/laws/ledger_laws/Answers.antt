use Rattle.cluster_core.proofs.LedgerTells.{enqueue_is_told, exec_is_told, join_is_told, reply_is_told, settle_is_told, snap_is_told, start_is_told, submit_is_told, use_is_told}
use Rattle.cluster_core.proofs.laws.ledger_laws.Goals as goal

pub returns-clause-start : goal.returns-clause-start
returns-clause-start g c = start_is_told g.L.Language.language

pub returns-clause-joins : goal.returns-clause-joins
returns-clause-joins g c = join_is_told g.L.Language.language

pub returns-clause-submits : goal.returns-clause-submits
returns-clause-submits g c = submit_is_told g.L.Language.language

pub returns-clause-snaps : goal.returns-clause-snaps
returns-clause-snaps g c = snap_is_told g.L.Language.language

pub returns-clause-executes : goal.returns-clause-executes
returns-clause-executes g c = exec_is_told g.L.Language.language

pub returns-clause-enqueues : goal.returns-clause-enqueues
returns-clause-enqueues g c = enqueue_is_told g.L.Language.language

pub returns-clause-settles : goal.returns-clause-settles
returns-clause-settles g c = settle_is_told g.L.Language.language

pub returns-clause-replies : goal.returns-clause-replies
returns-clause-replies g c = reply_is_told g.L.Language.language

pub returns-clause-uses : goal.returns-clause-uses
returns-clause-uses g c = use_is_told g.L.Language.language
