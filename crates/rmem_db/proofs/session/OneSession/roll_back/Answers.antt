use Rattle.rmem_db.proofs.SessionLaws.{gives_none, gives_own}
use Rattle.rmem_db.proofs.session.OneSession.roll_back.Goals as goal

pub returns-then-self : goal.returns-then-self
returns-then-self g c = λ t h.
    gives_own g.W.TableStore.kept g.W.TableStore.tables c.args.self.now t.kept t.own c.if-self.true h c.give_back.new.self c.give_back.ensures.kept c.give_back.ensures.tables

pub returns : goal.returns
returns g c = λ t h. gives_none g.W.TableStore.kept g.W.TableStore.tables c.args.self.now t.kept t.own c.if-self.false h
