use Rattle.rmem_db.proofs.SessionLaws.{is_proper}
use Rattle.rmem_db.proofs.language.sql_laws.Goals as goal

pub returns : goal.returns
returns c = λ text st h. is_proper st (c.created_tables.ensures text st h)
