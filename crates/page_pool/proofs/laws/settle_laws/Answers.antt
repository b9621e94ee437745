use Rattle.page_pool.proofs.EveryCall.{end_is_known, offset_is_known, others_settle_none}
use Rattle.page_pool.proofs.laws.settle_laws.Goals as goal

pub returns-clause-end : goal.returns-clause-end
returns-clause-end c = end_is_known

pub returns-clause-offset : goal.returns-clause-offset
returns-clause-offset c = offset_is_known

pub returns-clause-others : goal.returns-clause-others
returns-clause-others c = others_settle_none
