use Rattle.std.proofs.Common.{length, sym, ap, subst, ◌∙◌}
use Rattle.sql_statements.specs.declared.statements.Stmt.{Stmt}
use Rattle.sql_statements.specs.declared.statements.Stmt.TheVariants as stmt
use Rattle.sql_exec.specs.declared.outcomes.Outcome.TheVariants as outcome
use Rattle.sql_database.specs.declared.replies.SqlReply.{SqlReply}
use Rattle.sql_database.specs.declared.replies.SqlReply.TheVariants as reply
use Rattle.sql_exec.specs.Answer.{ComesFrom}
use Rattle.sql_exec.specs.Whole.{AnswersOver}
use Rattle.sql_database.specs.Database.{Database}
use Rattle.sql_engine.specs.Executed.{Executes}
use Rattle.sql_engine.proofs.MadeLemmas.{by_made, changes_rows, on_error, wants_rows, wants_table}
use Rattle.sql_engine.proofs.executing.make.Goals as goal

pub make_table-requires-clause-absent : goal.make_table-requires-clause-absent
make_table-requires-clause-absent g c =
    let d = c.requires.wanted.0 in
    let from = subst (λ (s : Stmt). ComesFrom (AnswersOver d s) (outcome.Changes c.args.changes.now)) c.in-Create.is c.requires.wanted.2 in
    (d, c.requires.wanted.1, (wants_table d c.in-Create.schema c.args.changes.now (λ e. Unit {0}) (Unit {0}) from).absent)

pub returns-in_ok-make_table-in-Create-clause-executes : goal.returns-in_ok-make_table-in-Create-clause-executes
returns-in_ok-make_table-in-Create-clause-executes g c = λ d t from.
    let IsAfter : Database → Type 0 = λ e. g.T.TableStore.tables c.make_table.new.store e in
    let IsFull : Type 0 = g.T.TableStore.full c.make_table.new.store in
    let s = c.in-Create.schema in
    let wants = wants_table d s c.args.changes.now IsAfter IsFull (subst (λ (q : Stmt). ComesFrom (AnswersOver d q) (outcome.Changes c.args.changes.now)) c.in-Create.is from) in
    subst (λ (q : Stmt). Executes d q IsAfter IsFull c.told.result) (sym c.in-Create.is)
    (by_made c.in_ok-make_table-in-Create.field-0 c.told.result (reply.Ok 0) (λ (r : SqlReply). Executes d (stmt.Create s) IsAfter IsFull r) c.told.ensures.ok c.told.ensures.full
    (λ ok. wants.done (c.in_ok-make_table-in-Create.ensures.made d t wants.absent ok)) (λ err. wants.full (on_error c.in_ok-make_table-in-Create.field-0 IsFull c.in_ok-make_table-in-Create.ensures.room err)))

pub make_changes-requires : goal.make_changes-requires
make_changes-requires g c =
    let d = c.requires.wanted.0 in
    let changes = changes_rows c.args.statement.now c.in_default.not-Create in
    (d, c.requires.wanted.1, (wants_rows d c.args.statement.now c.args.changes.now (λ e. Unit {0}) (Unit {0}) (c.rules.ensures d c.requires.wanted.1) changes c.requires.wanted.2).suit)

pub returns-in_ok-made-in_default-clause-executes : goal.returns-in_ok-made-in_default-clause-executes
returns-in_ok-made-in_default-clause-executes g c = λ d t from.
    let IsAfter : Database → Type 0 = λ e. g.T.TableStore.tables c.make_changes.new.store e in
    let IsFull : Type 0 = g.T.TableStore.full c.make_changes.new.store in
    let s = c.args.statement.now in
    let cs = c.args.changes.now in
    let wants = wants_rows d s cs IsAfter IsFull (c.rules.ensures d t) (changes_rows s c.in_default.not-Create) from in
    by_made c.in_ok-made-in_default.made c.told-in_default.result (reply.Ok (length cs)) (λ (r : SqlReply). Executes d s IsAfter IsFull r)
    (λ ok. c.told-in_default.ensures.ok ok ∙ ap reply.Ok c.len.ensures) c.told-in_default.ensures.full
    (λ ok. wants.done (c.in_ok-made-in_default.ensures.made d t wants.suit ok)) (λ err. wants.full (c.in_ok-made-in_default.ensures.full err) (on_error c.in_ok-made-in_default.made IsFull c.in_ok-made-in_default.ensures.room err))
