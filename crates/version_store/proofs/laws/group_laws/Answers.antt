use Rattle.version_store.proofs.GroupLaws.{groups_keep, groups_move, logs_keep}
use Rattle.version_store.proofs.laws.group_laws.Goals as goal

pub returns-clause-keep : goal.returns-clause-keep
returns-clause-keep c = groups_keep

pub returns-clause-chains : goal.returns-clause-chains
returns-clause-chains c = groups_move

pub returns-clause-logs : goal.returns-clause-logs
returns-clause-logs c = logs_keep
