use Rattle.std.proofs.Common.{Err, refl}
use Rattle.rmem_db.proofs.SessionLaws.{makes}
use Rattle.rmem_db.proofs.session.OneSession.answer.Goals as goal

pub obey-requires-clause-made : goal.obey-requires-clause-made
obey-requires-clause-made g c = makes c.in-Ok.statement (c.created_tables.ensures c.args.line.now c.in-Ok.statement ((c.in_ok-statement.ensures.statement c.in-Ok.statement).0 c.in-Ok.is))

pub returns-in-Err-clause-ok : goal.returns-in-Err-clause-ok
returns-in-Err-clause-ok g c = λ t h.
    record {
      read = Err c.in-Err.syntax.at;
      reads = (c.in_ok-statement.ensures.syntax c.in-Err.syntax.at).0 c.in-Err.is;
      takes = record { new = t; step = (refl, refl); stands = h };
    }
