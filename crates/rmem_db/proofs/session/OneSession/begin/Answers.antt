use Rattle.rmem_db.proofs.SessionLaws.{opens_again, opens_now}
use Rattle.rmem_db.proofs.session.OneSession.begin.Goals as goal

pub returns-then-self : goal.returns-then-self
returns-then-self g c = λ t h. opens_again g.W.TableStore.kept g.W.TableStore.tables c.args.self.now t.kept t.own c.if-self.true h

pub returns : goal.returns
returns g c = λ t h. opens_now g.W.TableStore.kept g.W.TableStore.tables c.args.self.now t.kept t.own c.if-self.false h
