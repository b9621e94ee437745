-- Ok of a commit stands after the commit, and a transaction may begin.
use Rattle.std.proofs.Common.{◌≡◌, ◌⊎◌, ℕ, Bool, true, false, [], Option, Some, None, Ok, if◌then◌else◌, is_some, nat_eq, unwrap_or, option_and_then, refl, sym, ap, subst, ◌∙◌, inl, inr, arith}
use Rattle.std.specs.Option.{option_map_or}
use Rattle.std.specs.Result.{result_ok}
use Rattle.sql_statements.specs.declared.statements.Stmt.{Stmt}
use Rattle.sql_statements.specs.declared.statements.Stmt.TheVariants as stmt
use Rattle.sql_database.specs.declared.replies.SqlReply.{SqlReply}
use Rattle.sql_database.specs.declared.replies.SqlReply.TheVariants as reply
use Rattle.table_machine.specs.Language.{Language}
use Rattle.table_machine.specs.Machine.{Machine, NoneForced, Session, Statement, commit_of, idle, is_lasting, is_stopped, running, settled, start, wrote}
use Rattle.table_machine.specs.Moves.{answered, joined, snapped, submitted}
use Rattle.sql_database.specs.Replies.{is_done}
use Rattle.table_machine.specs.Replies.{IsReplied, MayReply, begun, done, evaluated, full, plain_end, pool_full, read_only, second_begin, stray_end}
use Rattle.sql_database.specs.Statements.{is_commit, is_write}
use Rattle.table_machine.specs.Steps.{MaySnap}
use Rattle.table_machine.specs.Laws.{BeginIsARun, EndsInCommit, OkIsCommitted}

abbrev IsYes : Bool → Type 0
IsYes true = Unit {0}
IsYes false = ⊥

clash : {A : Type 0} → true ≡ false → A
clash e = absurd (subst IsYes e tt)

not_ok : {A : Type 0} (n : ℕ) (r : SqlReply) → reply.Ok n ≡ r → is_done r ≡ false → A
not_ok n r e f = clash (ap is_done e ∙ f)

-- BEGIN is neither a commit nor a write, and COMMIT is no write
not_begin : {A : Type 0} (x : Session) (st : Stmt) → st ≡ stmt.Begin → EndsInCommit x st → A
not_begin x st e (inl c) = clash (sym c ∙ ap is_commit e)
not_begin x st e (inr w) = clash (sym w.0 ∙ ap is_write e)

-- no statement both ends a transaction and writes
both_kinds : {A : Type 0} (st : Stmt) → is_commit st ≡ true → is_write st ≡ true → A
both_kinds (stmt.Create a) c w = clash (sym c)
both_kinds (stmt.Insert a b d) c w = clash (sym c)
both_kinds (stmt.Update a b d) c w = clash (sym c)
both_kinds (stmt.Delete a b) c w = clash (sym c)
both_kinds (stmt.Select q) c w = clash (sym c)
both_kinds stmt.Begin c w = clash (sym c)
both_kinds stmt.Commit c w = clash (sym w)
both_kinds stmt.Rollback c w = clash (sym c)

-- a statement that is stopped does not run
stopped_runs : {A : Type 0} (st : Stmt) (o : Option Statement) → option_map_or (λ a. a.stopped) o false ≡ true → option_and_then (λ a. if a.stopped then None else result_ok a.read) o ≡ Some st → A
stopped_runs st None e f = clash (sym e)
stopped_runs st (Some a) e f = clash (sym (ap is_some (sym (ap (λ b. if b then None else result_ok a.read) e) ∙ f)))

when_done : (x : Session) (st : Stmt) → is_lasting x ≡ false → EndsInCommit x st → (is_lasting x ≡ true) ⊎ (((is_write st ≡ true) × (wrote x ≡ [])) ⊎ (commit_of x ≡ settled)) → commit_of x ≡ settled
when_done x st l e (inl a) = clash (sym a ∙ l)
when_done x st l (inl c) (inr (inl w)) = both_kinds st c w.0
when_done x st l (inr v) (inr (inl w)) = absurd (v.1 w.1)
when_done x st l e (inr (inr z)) = z

when_full : {A : Type 0} (n : ℕ) → (reply.Ok n ≡ reply.SpaceFull) ⊎ (reply.Ok n ≡ reply.TrxFull) → A
when_full n (inl e) = not_ok n reply.SpaceFull e refl
when_full n (inr e) = not_ok n reply.TrxFull e refl

when_replied : (m : Machine) (x : Session) (st : Stmt) (n : ℕ) → is_lasting x ≡ false → EndsInCommit x st → IsReplied m x st (reply.Ok n) → commit_of x ≡ settled
when_replied m x st n l e (read_only i) = not_ok n reply.ReadOnly i.2 refl
when_replied m x st n l e (second_begin i) = not_begin x st i.0 e
when_replied m x st n l e (stray_end i) = not_ok n reply.NoTransaction i.3 refl
when_replied m x st n l e (begun i) = not_begin x st i.0 e
when_replied m x st n l e (plain_end i) = clash (sym i.1 ∙ l)
when_replied m x st n l e (evaluated i) = clash i.1
when_replied m x st n l e (done i) = when_done x st l e i.2
when_replied m x st n l e (pool_full i) = not_ok n (reply.PoolFull i.2) i.3 refl
when_replied m x st n l e (full i) = when_full n i.4

when_allowed : (m : Machine) (s n : ℕ) (st : Stmt) → MayReply m s (reply.Ok n) → running (m.sessions s) ≡ Some st → is_lasting (m.sessions s) ≡ false → EndsInCommit (m.sessions s) st → commit_of (m.sessions s) ≡ settled
when_allowed m s n st (inl f) r l e = stopped_runs st (m.sessions s).statement f.stopped r
when_allowed m s n st (inr (c, inl y)) r l e = not_ok n (reply.Syntax y.at) y.is refl
when_allowed m s n st (inr (c, inr y)) r l e =
    let one : y.0 ≡ st = ap (λ o. unwrap_or o st) (sym y.1 ∙ r) in
    when_replied m (m.sessions s) st n l e (subst (λ z. IsReplied m (m.sessions s) z (reply.Ok n)) one y.2)

pub ok_is_committed : (language : Language) → OkIsCommitted language
ok_is_committed language s n st old new p r l e = when_allowed old s n st p.0 r l e

calm : (b : Bool) (x y : Session) → is_stopped x ≡ false → is_stopped y ≡ false → is_stopped (if b then x else y) ≡ false
calm true x y p q = p
calm false x y p q = q

pub begin_runs : (language : Language) → BeginIsARun language
begin_runs language base first name text p =
    let m0 : Machine = start 2 base first in
    let m1 : Machine = joined m0 0 0 in
    let m2 : Machine = submitted m1 0 (Ok stmt.Begin) in
    let m3 : Machine = snapped m2 0 in
    let m4 : Machine = answered m3 0 (reply.Ok 0) in
    let c1 : NoneForced m1 = λ t q. calm (nat_eq t 0) (idle 0) (idle 0) refl refl in
    let c2 : NoneForced m2 = λ t q. calm (nat_eq t 0) (m2.sessions 0) (m1.sessions t) refl (c1 t q) in
    let c3 : NoneForced m3 = λ t q. calm (nat_eq t 0) (m3.sessions 0) (m2.sessions t) refl (c2 t q) in
    let runs2 : running (m2.sessions 0) ≡ Some stmt.Begin = refl in
    let runs3 : running (m3.sessions 0) ≡ Some stmt.Begin = refl in
    let may : MaySnap m2 0 = record { statement = stmt.Begin; runs = runs2; stays = refl; free = refl; writer = refl } in
    let is : IsReplied m3 (m3.sessions 0) stmt.Begin (reply.Ok 0) = begun (refl, λ e. clash (ap is_some e), refl, refl) in
    (m4, (m1, (λ t q. refl, refl, refl), (m2, (Ok stmt.Begin, c1, omega arith, refl, p, refl), (m3, (c2, may, refl), (m4, (inr (c3, inr (stmt.Begin, runs3, is)), refl), refl)))))
