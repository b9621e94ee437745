use Rattle.sql_words.proofs.ScanSteps.{token_within, fault_within}
use Rattle.sql_words.proofs.cutting.cut_front.Goals as goal

pub returns-clause-token : goal.returns-clause-token
returns-clause-token c = token_within _ _ c.args.bytes.now c.by_first_byte.result c.requires c.by_first_byte.ensures

pub returns-clause-fault : goal.returns-clause-fault
returns-clause-fault c = fault_within _ _ c.args.bytes.now c.by_first_byte.result c.requires c.by_first_byte.ensures
