-- What a statement is answered.
use Rattle.std.proofs.Common.{◌≡◌, ℕ, Bool, true, false, List, [], ◌∷◌, Option, Some, None, refl, sym, ◌∙◌, ap, subst}
use Rattle.sql_statements.specs.declared.statements.Stmt.{Stmt}
use Rattle.sql_statements.specs.declared.statements.Stmt.TheVariants as stmt
use Rattle.sql_database.specs.Statements.{is_select, is_write}
use Rattle.sql_exec.specs.Answer.{Answers, ComesFrom}
use Rattle.sql_database.specs.declared.replies.SqlReply.{SqlReply}
use Rattle.sql_database.specs.declared.replies.SqlReply.TheVariants as reply
use Rattle.question_tree.specs.Questions.{Ask, tells, asks, stops, Gives}
use Rattle.statement_reader.specs.declared.asking.Read.{Read}
use Rattle.statement_reader.specs.Reads as statement
use Rattle.statement_work.specs.declared.acts.Job.{Job}
use Rattle.statement_work.specs.Works as works
use Rattle.statement_work.specs.Works.{Input, Handed, Stamped, Made, Told, Replied, Rested, Again, Fits, uses}
use Rattle.statement_work.specs.Replies.{Allows, IsReplyOver}
use Rattle.ro_worker.specs.declared.kinds.StatementKind.{StatementKind}
use Rattle.ro_worker.specs.declared.kinds.StatementKind.TheVariants as kind
use Rattle.ro_worker.specs.Kinds.{kind_of}
use Rattle.ro_worker.specs.Laws.{IsServed, SelectsAreAnswered, WritesAreRefused}
use Rattle.ro_worker.specs.Serving.{ReadWork, at_stamp, reads, ro_finds, ro_serves, serves_by}
use Rattle.ro_worker.specs.Wishes.{reads_only}
use Rattle.ro_worker.specs.WorkerLaws.{latched_gives}
use Rattle.ro_worker.proofs.OutcomeLaws.{select_changes_nothing}

false_true : {A : Type 0} → false ≡ true → A
false_true e = absurd (apart e)
  where
    apart : false ≡ true → ⊥
    apart q = cc

found_replied : {a : Read} {r : SqlReply} → Replied r ≡ works.Found a → ⊥
found_replied e = cc

-- a SELECT tells what it read
select_tells : (snapshot own : Option ℕ) (st : Stmt) (xs : List Input) (r : SqlReply) → Gives Fits (at_stamp snapshot (reads st own)) xs (Replied r) → ⊥
select_tells (Some n) own st xs r h = let g = latched_gives None (statement.reads (record { stamp = n; own = own }) st) xs (Replied r) h in found_replied g.1
select_tells None own st [] r h = h
select_tells None own st (Handed im ∷ xs) r h = h.0
select_tells None own st (Made ∷ xs) r h = h.0
select_tells None own st (Stamped n ∷ xs) r h = let g = latched_gives None (statement.reads (record { stamp = n; own = own }) st) xs (Replied r) h.1 in found_replied g.1

abbrev IsSelecting : StatementKind → Type 0
IsSelecting kind.Write = ⊥
IsSelecting kind.Select = Unit {0}
IsSelecting kind.Begin = ⊥
IsSelecting kind.End = ⊥

select_kind : (st : Stmt) → is_select st ≡ true → IsSelecting (kind_of st)
select_kind (stmt.Create s) e = false_true e
select_kind (stmt.Insert t names tuples) e = false_true e
select_kind (stmt.Update t sets test) e = false_true e
select_kind (stmt.Delete t test) e = false_true e
select_kind (stmt.Select q) e = tt
select_kind stmt.Begin e = false_true e
select_kind stmt.Commit e = false_true e
select_kind stmt.Rollback e = false_true e

never_replied : (k : StatementKind) → IsSelecting k → (job : Job) (xs : List Input) (r : SqlReply) → Gives Fits (serves_by k job) xs (Replied r) → ⊥
never_replied kind.Write s job xs r h = s
never_replied kind.Select s job xs r h = select_tells job.snapshot job.trx job.statement xs r h
never_replied kind.Begin s job xs r h = s
never_replied kind.End s job xs r h = s

pub selects_are_answered : SelectsAreAnswered
selects_are_answered job xs r e (works.Found a, h, (over, (o, c, is))) =
    let P : Stmt → Type 0 = λ st. ComesFrom (Answers a.found.schemas a.found.rows st) o in
    let comes = subst P over.statement c in
    (o, (a.found, over.found, comes), select_changes_nothing job.statement a.found.schemas a.found.rows o e comes, is)
selects_are_answered job xs r e (Replied s, h, same) = absurd (never_replied (kind_of job.statement) (select_kind job.statement e) job xs s h)
selects_are_answered job xs r e (Rested, h, none) = absurd none
selects_are_answered job xs r e (Again session, h, none) = absurd none

abbrev IsWriting : StatementKind → Type 0
IsWriting kind.Write = Unit {0}
IsWriting kind.Select = ⊥
IsWriting kind.Begin = ⊥
IsWriting kind.End = ⊥

write_kind : (st : Stmt) → is_write st ≡ true → IsWriting (kind_of st)
write_kind (stmt.Create s) e = tt
write_kind (stmt.Insert t names tuples) e = tt
write_kind (stmt.Update t sets test) e = tt
write_kind (stmt.Delete t test) e = tt
write_kind (stmt.Select q) e = false_true e
write_kind stmt.Begin e = false_true e
write_kind stmt.Commit e = false_true e
write_kind stmt.Rollback e = false_true e

refused_by : (job : Job) (xs : List Input) (r s : SqlReply) (a : Told Read) → s ≡ reply.ReadOnly → Replied s ≡ a → Allows reads_only (ro_finds job) xs a r → r ≡ reply.ReadOnly
refused_by job xs r s a e f h =
    let P : Told Read → Type 0 = λ x. Allows reads_only (ro_finds job) xs x r in
    let same : r ≡ s = subst P (sym f) h in same ∙ e

refused : (k : StatementKind) → IsWriting k → (job : Job) (xs : List Input) (r : SqlReply) (a : Told Read) → Gives Fits (serves_by k job) xs a
    → Allows reads_only (ro_finds job) xs a r → (r ≡ reply.ReadOnly) × (xs ≡ [])
refused kind.Write w job [] r a h allows = (refused_by job [] r reply.ReadOnly a refl h allows, refl)
refused kind.Write w job (x ∷ xs) r a h allows = absurd h
refused kind.Select w job xs r a h allows = absurd w
refused kind.Begin w job xs r a h allows = absurd w
refused kind.End w job xs r a h allows = absurd w

pub writes_are_refused : WritesAreRefused
writes_are_refused job xs r e (a, h, allows) = refused (kind_of job.statement) (write_kind job.statement e) job xs r a h allows
