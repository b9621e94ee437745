use Rattle.sql_front.proofs.CreatedLaws.{make_tables}
use Rattle.sql_front.proofs.laws.created_tables.Goals as goal

pub returns : goal.returns
returns c = make_tables
