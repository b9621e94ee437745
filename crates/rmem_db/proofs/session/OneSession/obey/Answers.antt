use Rattle.std.proofs.Common.{Ok, sym, subst}
use Rattle.sql_statements.specs.declared.statements.Stmt.{Stmt}
use Rattle.table_machine.specs.Serving.{Turn}
use Rattle.rmem_db.specs.Session.{Takes, sql}
use Rattle.rmem_db.proofs.SessionLaws.{is_evaluated, takes_if_ok}
use Rattle.rmem_db.proofs.session.OneSession.obey.Goals as goal

pub returns-in-Begin-clause-ok : goal.returns-in-Begin-clause-ok
returns-in-Begin-clause-ok g c = λ t h.
    subst (λ (s : Stmt). Takes g.W.TableStore.kept g.W.TableStore.tables (Turn sql (Ok s) t) c.begin.new.self c.begin.result) (sym c.in-Begin.is) (c.begin.ensures t h)

pub returns-in-Commit-clause-ok : goal.returns-in-Commit-clause-ok
returns-in-Commit-clause-ok g c = λ t h.
    subst (λ (s : Stmt). Takes g.W.TableStore.kept g.W.TableStore.tables (Turn sql (Ok s) t) c.commit.new.self c.commit.result) (sym c.in-Commit.is) (c.commit.ensures t h)

pub returns-in-Rollback-clause-ok : goal.returns-in-Rollback-clause-ok
returns-in-Rollback-clause-ok g c = λ t h.
    subst (λ (s : Stmt). Takes g.W.TableStore.kept g.W.TableStore.tables (Turn sql (Ok s) t) c.roll_back.new.self c.roll_back.result) (sym c.in-Rollback.is) (c.roll_back.ensures t h)

pub returns-in_default-clause-ok : goal.returns-in_default-clause-ok
returns-in_default-clause-ok g c = λ t h.
    takes_if_ok g.W.TableStore.kept g.W.TableStore.tables c.args.statement.now t c.do_other.new.self c.do_other.result
    (is_evaluated c.args.statement.now c.in_default.not-Begin c.in_default.not-Commit c.in_default.not-Rollback) (c.do_other.ensures.ok t h)
