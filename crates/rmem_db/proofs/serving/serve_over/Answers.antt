use Rattle.std.proofs.Common.{arith}
use Rattle.sql_database.specs.Database.{empty}
use Rattle.table_machine.specs.Serving.{at_rest}
use Rattle.rmem_db.specs.Session.{Stands}
use Rattle.rmem_db.proofs.ServingLaws.{IsCutOff-start, Serves-start}
use Rattle.rmem_db.proofs.serving.serve_over.Goals as goal

pub loop-status-init : goal.loop-status-init
loop-status-init g c = record {
  stands = (at_rest empty, c.requires.start);
  serves = Serves-start _ _ (Stands g.W.TableStore.kept g.W.TableStore.tables _) c.in-Ok.input c.requires.start c.in-Ok.ensures;
  source_count = omega arith;
  sink_count = omega arith;
}

pub returns-in_default-clause-ends : goal.returns-in_default-clause-ends
returns-in_default-clause-ends g c = IsCutOff-start c.serving_laws.ensures.lines _ _ (g.W.TableStore.kept c.args.session.now.tables) c.requires.start.kept
