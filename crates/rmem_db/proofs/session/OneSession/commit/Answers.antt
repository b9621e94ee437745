use Rattle.rmem_db.proofs.SessionLaws.{keeps_none, keeps_own}
use Rattle.rmem_db.proofs.session.OneSession.commit.Goals as goal

pub returns-then-self : goal.returns-then-self
returns-then-self g c = λ t h.
    keeps_own g.W.TableStore.kept g.W.TableStore.tables c.args.self.now t.kept t.own c.if-self.true h c.keep.new.self c.keep.ensures.kept c.keep.ensures.tables

pub returns : goal.returns
returns g c = λ t h. keeps_none g.W.TableStore.kept g.W.TableStore.tables c.args.self.now t.kept t.own c.if-self.false h
