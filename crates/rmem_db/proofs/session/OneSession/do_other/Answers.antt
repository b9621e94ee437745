use Rattle.std.proofs.Common.{sym, ◌∙◌}
use Rattle.table_machine.specs.Serving.{seen}
use Rattle.rmem_db.proofs.SessionLaws.{apart, full, joins, keeps_now}
use Rattle.rmem_db.proofs.session.OneSession.do_other.Goals as goal

pub returns-then-is_full-clause-ok : goal.returns-then-is_full-clause-ok
returns-then-is_full-clause-ok g c = λ t h.
    full g.W.TableStore.kept g.W.TableStore.tables c.serving_laws.ensures.answers c.args.statement.now (g.W.TableStore.full c.execute.new.store) t.kept t.own c.execute.new.store c.give_back.new.self c.in_ok-reply.reply
    (c.fills.ensures t.kept (c.in_ok-reply.ensures.keeps t.kept h.kept)) (c.is_full.ensures.0 c.if-is_full.true) (c.in_ok-reply.ensures.executes (seen t) h.shown) (c.in_ok-reply.ensures.keeps t.kept h.kept) c.give_back.ensures.kept c.give_back.ensures.tables

pub returns-then-self-clause-ok : goal.returns-then-self-clause-ok
returns-then-self-clause-ok g c = λ t h.
    joins g.W.TableStore.kept g.W.TableStore.tables c.serving_laws.ensures.answers c.args.statement.now (g.W.TableStore.full c.execute.new.store) c.args.self.now t.kept t.own c.execute.new.store c.in_ok-reply.reply
    (λ e. apart (sym (c.is_full.ensures.1 e) ∙ c.if-is_full.false)) c.if-self.true h (c.in_ok-reply.ensures.executes (seen t) h.shown) (c.in_ok-reply.ensures.keeps t.kept h.kept)

pub returns-clause-ok : goal.returns-clause-ok
returns-clause-ok g c = λ t h.
    keeps_now g.W.TableStore.kept g.W.TableStore.tables c.serving_laws.ensures.answers c.args.statement.now (g.W.TableStore.full c.execute.new.store) c.args.self.now t.kept t.own c.execute.new.store c.keep.new.self c.in_ok-reply.reply
    (λ e. apart (sym (c.is_full.ensures.1 e) ∙ c.if-is_full.false)) c.if-self.false h (c.in_ok-reply.ensures.executes (seen t) h.shown) c.keep.ensures.kept c.keep.ensures.tables
