use Rattle.log_chunks.proofs.HistoryLaws.{after_all-groups, after_all-log, after_all-epoch, fenced}
use Rattle.log_chunks.proofs.laws.store_laws.Goals as goal

pub returns-clause-groups : goal.returns-clause-groups
returns-clause-groups c = after_all-groups

pub returns-clause-counted : goal.returns-clause-counted
returns-clause-counted c = after_all-log

pub returns-clause-epoch : goal.returns-clause-epoch
returns-clause-epoch c = after_all-epoch

pub returns-clause-fenced : goal.returns-clause-fenced
returns-clause-fenced c = fenced
