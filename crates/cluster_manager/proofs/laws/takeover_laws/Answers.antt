use Rattle.cluster_manager.proofs.Ordered.{opens_in_order, one_writer, due_follows}
use Rattle.cluster_manager.proofs.Sampled.{takeover_runs}
use Rattle.cluster_manager.proofs.laws.takeover_laws.Goals as goal

pub returns-clause-order : goal.returns-clause-order
returns-clause-order c = opens_in_order

pub returns-clause-alone : goal.returns-clause-alone
returns-clause-alone c = one_writer

pub returns-clause-due : goal.returns-clause-due
returns-clause-due c = due_follows

pub returns-clause-sample : goal.returns-clause-sample
returns-clause-sample c = takeover_runs
