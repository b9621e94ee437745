use Rattle.sql_front.proofs.Statements.{one_meaning}
use Rattle.sql_front.proofs.laws.one_meaning.Goals as goal

pub returns : goal.returns
returns c = one_meaning
