-- The lines of one session have one serial run.
use Rattle.std.proofs.Common.{◌≡◌, ◌≢◌, ◌⊎◌, ℕ, Bool, true, false, not, if◌then◌else◌, is_some, List, [], ◌∷◌, ◌++◌, Option, Some, None, Result, Ok, Err, option_map, option_and_then, unwrap_or, refl, sym, ap, subst, ◌∙◌, inl, inr}
use Rattle.std.specs.List.{AllByRecursion}
use Rattle.std.specs.Option.{option_map_or}
use Rattle.std.specs.Result.{result_ok}
use Rattle.sql_statements.specs.declared.statements.Stmt.{Stmt}
use Rattle.sql_statements.specs.declared.statements.Stmt.TheVariants as stmt
use Rattle.sql_database.specs.declared.replies.SqlReply.{SqlReply}
use Rattle.sql_database.specs.declared.replies.SqlReply.TheVariants as reply
use Rattle.sql_database.specs.Database.{Database}
use Rattle.sql_database.specs.Replies.{is_done}
use Rattle.sql_database.specs.Rules.{OneAnswer}
use Rattle.sql_database.specs.Statements.{IsEvaluated, is_begin, is_commit, is_ending, is_write}
use Rattle.sql_database.proofs.KindLaws.{IsPlainKind, plain_kind}
use Rattle.table_machine.specs.declared.entries.Entry.{Entry}
use Rattle.table_machine.specs.declared.entries.Entry.TheVariants as entry
use Rattle.table_machine.specs.Conflicts.{Evaluated, evaluated as evaluated_in}
use Rattle.table_machine.specs.Language.{Language, ReadsOneWay}
use Rattle.table_machine.specs.Laws.{HasNoFull, IsNotFull, OneSerial}
use Rattle.table_machine.specs.Machine.{Commit, Machine, Session, Statement, Transaction, commit_of, due_of, is_lasting, is_open, is_some_of, is_stopped, pending_of, queued, running, settled, start, unqueued}
use Rattle.table_machine.specs.Moves.{answered, answered_session, asking, enqueued, executed, forced, fresh, in_queue, is_made, is_told, joined, joins, queued_session, settled_session, settles, snapped, snapshot, submitted, told_session}
use Rattle.table_machine.specs.Replies.{IsReplied, IsSyntax, MayReply, begun, done, evaluated, full, plain_end, pool_full, read_only, second_begin, stray_end}
use Rattle.table_machine.specs.Runs.{AnswersLine, IfMay, IsPoolFull, Leads, Serves}
use Rattle.table_machine.specs.Steps.{MayEnqueue, MayExec, Step}
use Rattle.table_machine.proofs.StepLaws.{step_once}

abbrev IsYes : Bool → Type 0
IsYes true = Unit {0}
IsYes false = ⊥

clash : {A : Type 0} → true ≡ false → A
clash e = absurd (subst IsYes e tt)

same_of : {A : Type 0} (a b : A) → Some a ≡ Some b → a ≡ b
same_of a b e = ap (λ o. unwrap_or o a) e

-- ---- where a statement stands

-- what is evaluated was
record Evaluates (x : Session) : Type 0 where
  statement : Stmt
  runs : running x ≡ Some statement
  kind : IsEvaluated statement

-- a COMMIT whose changes are in the queue or made
record HasCommitted (x : Session) : Type 0 where
  statement : Stmt
  runs : running x ≡ Some statement
  kind : is_commit statement ≡ true
  sent : commit_of x ≢ unqueued
  over : is_lasting x ≡ false

-- a reply is due only of what was evaluated, or of a COMMIT in the queue
abbrev DueFairly : Session → Type 0
DueFairly x = (due_of x ≡ None) ⊎ (Evaluates x ⊎ HasCommitted x)

-- on the first node, with no transaction lost and nothing stopped
record IsGoing (x : Session) : Type 0 where
  node : x.node ≡ 0
  lost : x.lost ≡ false
  going : is_stopped x ≡ false

record IsBetween (x : Session) : Type 0 where
  goes : IsGoing x
  free : x.statement ≡ None

record IsAsked (x : Session) : Type 0 where
  goes : IsGoing x
  due : due_of x ≡ None
  free : commit_of x ≡ unqueued

record IsTried (x : Session) : Type 0 where
  goes : IsGoing x
  due : (due_of x ≡ None) ⊎ Evaluates x

record IsSent (x : Session) : Type 0 where
  goes : IsGoing x
  due : DueFairly x

-- the first node is up and takes the writes, and its session stands so
record Stands (P : Session → Type 0) (m : Machine) : Type 0 where
  up : m.up 0 ≡ true
  writer : m.writer ≡ Some 0
  session : P (m.sessions 0)

-- a state that is made
stands_in : (P : Session → Type 0) (m made : Machine) → m ≡ made → Stands P made → Stands P m
stands_in P m made e h = subst (Stands P) (sym e) h

-- ---- what the entries make of the session

asked_session : (b l : Bool) (read : Result Stmt ℕ) (x : Session) → b ≡ true → l ≡ false → IsGoing x
    → IsAsked (if not b then record x { statement = Some (forced reply.Unavailable (fresh read)) }
    else (if l then record x { lost = false; statement = Some (forced reply.Lost (fresh read)) } else record x { statement = Some (fresh read) }))
asked_session true false read x e f h =
    record { goes = record { node = h.node; lost = h.lost; going = refl }; due = refl; free = refl }
asked_session true true read x e f h = clash f
asked_session false l read x e f h = clash (sym e)

told_going : (e : Evaluated) (o : Option Statement) → option_map_or (λ a. a.stopped) o false ≡ false → option_map_or (λ a. a.stopped) (option_map (is_told e) o) false ≡ false
told_going e None h = h
told_going e (Some a) h = h

abbrev running_in : Option Statement → Option Stmt
running_in o = option_and_then (λ a. if a.stopped then None else result_ok a.read) o

told_running : (e : Evaluated) (o : Option Statement) → running_in (option_map (is_told e) o) ≡ running_in o
told_running e None = refl
told_running e (Some a) = refl

told : (e : Evaluated) (x : Session) → IsGoing x → Evaluates x → IsTried (told_session e x)
told e x h v = record {
  goes = record { node = h.node; lost = h.lost; going = told_going e x.statement h.going };
  due = inr (record { statement = v.statement; runs = told_running e x.statement ∙ v.runs; kind = v.kind });
}

queue_going : (o : Option Statement) → option_map_or (λ a. a.stopped) o false ≡ false → option_map_or (λ a. a.stopped) (option_map in_queue o) false ≡ false
queue_going None h = h
queue_going (Some a) h = h

queue_running : (o : Option Statement) → running_in (option_map in_queue o) ≡ running_in o
queue_running None = refl
queue_running (Some a) = refl

abbrev IsUnqueued : Commit → Type 0
IsUnqueued unqueued = Unit {0}
IsUnqueued queued = ⊥
IsUnqueued settled = ⊥

abbrev commit_in : Option Statement → Commit
commit_in o = option_map_or (λ a. a.commit) o unqueued

in_the_queue : (st : Stmt) (o : Option Statement) → running_in o ≡ Some st → commit_in (option_map in_queue o) ≢ unqueued
in_the_queue st None r e = clash (sym (ap is_some r))
in_the_queue st (Some a) r e = subst IsUnqueued (sym e) tt

evaluated_write : (st : Stmt) → is_write st ≡ true → IsEvaluated st
evaluated_write (stmt.Create s) w = tt
evaluated_write (stmt.Insert t names rows) w = tt
evaluated_write (stmt.Update t sets test) w = tt
evaluated_write (stmt.Delete t test) w = tt
evaluated_write (stmt.Select q) w = tt
evaluated_write stmt.Begin w = clash (sym w)
evaluated_write stmt.Commit w = clash (sym w)
evaluated_write stmt.Rollback w = clash (sym w)

sent : (m : Machine) → IsGoing (m.sessions 0) → MayEnqueue m 0 → IsSent (queued_session (m.sessions 0))
sent m h may = record {
  goes = record { node = h.node; lost = h.lost; going = queue_going (m.sessions 0).statement h.going };
  due = inr (by_kind may.commits);
}
  where
    runs : running (queued_session (m.sessions 0)) ≡ Some may.statement
    runs = queue_running (m.sessions 0).statement ∙ may.runs

    by_kind : ((is_commit may.statement ≡ true) × (is_lasting (m.sessions 0) ≡ true))
        ⊎ ((is_write may.statement ≡ true) × (is_lasting (m.sessions 0) ≡ false) × (option_map_or is_done (due_of (m.sessions 0)) false ≡ true))
        → Evaluates (queued_session (m.sessions 0)) ⊎ HasCommitted (queued_session (m.sessions 0))
    by_kind (inl c) = inr (record { statement = may.statement; runs = runs; kind = c.0; sent = in_the_queue may.statement (m.sessions 0).statement may.runs; over = refl })
    by_kind (inr w) = inl (record { statement = may.statement; runs = runs; kind = evaluated_write may.statement w.0 })

made_going : (o : Option Statement) → option_map_or (λ a. a.stopped) o false ≡ false → option_map_or (λ a. a.stopped) (option_map is_made o) false ≡ false
made_going None h = h
made_going (Some a) h = h

made_running : (o : Option Statement) → running_in (option_map is_made o) ≡ running_in o
made_running None = refl
made_running (Some a) = refl

made_due : (o : Option Statement) → option_and_then (λ a. a.due) (option_map is_made o) ≡ option_and_then (λ a. a.due) o
made_due None = refl
made_due (Some a) = refl

made_commit : (o : Option Statement) → commit_in o ≢ unqueued → commit_in (option_map is_made o) ≢ unqueued
made_commit None h e = h e
made_commit (Some a) h e = subst IsUnqueued (sym e) tt

made : (x : Session) → IsSent x → IsSent (settled_session x)
made x h = record {
  goes = record { node = h.goes.node; lost = h.goes.lost; going = made_going x.statement h.goes.going };
  due = by_due h.due;
}
  where
    by_due : DueFairly x → DueFairly (settled_session x)
    by_due (inl n) = inl (made_due x.statement ∙ n)
    by_due (inr (inl v)) = inr (inl (record { statement = v.statement; runs = made_running x.statement ∙ v.runs; kind = v.kind }))
    by_due (inr (inr c)) = inr (inr (record { statement = c.statement; runs = made_running x.statement ∙ c.runs; kind = c.kind; sent = made_commit x.statement c.sent; over = c.over }))

made_if : (b : Bool) (x : Session) → IsSent x → IsSent (if b then settled_session x else x)
made_if true x h = made x h
made_if false x h = h

-- ---- each entry that may stand

module _ (language : Language) where
  if_may : (P Q : Session → Type 0) (m new : Machine) (e : Entry) (es : List Entry) → ((made : Machine) → Step language m e made → Stands Q made) → (Stands P m → Stands Q m)
      → Stands P m → IfMay language m e es new → Stands Q new
  if_may P Q m new e es does stays h (inl a) = does new a.0
  if_may P Q m new e es does stays h (inr b) = stands_in Q new m b.2 (stays h)

  submits : (m new : Machine) (line : List ℕ) → Stands IsBetween m → Step language m (entry.Submit 0 line) new → Stands IsAsked new
  submits m new line h p = stands_in IsAsked new (submitted m 0 p.0) p.5 (record {
    up = h.up;
    writer = h.writer;
    session = asked_session (m.up (m.sessions 0).node) (m.sessions 0).lost p.0 (m.sessions 0) (ap m.up h.session.goes.node ∙ h.up) h.session.goes.lost h.session.goes;
  })

  snaps : (m new : Machine) (es : List Entry) → Stands IsAsked m → IfMay language m (entry.Snap 0) es new → Stands IsAsked new
  snaps m new es h p = if_may IsAsked IsAsked m new (entry.Snap 0) es
      (λ made s. stands_in IsAsked made (snapped m 0) s.2 (record {
        up = h.up;
        writer = h.writer;
        session = record { goes = record { node = h.session.goes.node; lost = h.session.goes.lost; going = h.session.goes.going }; due = h.session.due; free = h.session.free };
      }))
      (λ k. k) h p

  execs : (m new : Machine) (es : List Entry) → Stands IsAsked m → IfMay language m (entry.Exec 0) es new → Stands IsTried new
  execs m new es h p = if_may IsAsked IsTried m new (entry.Exec 0) es
      (λ made s. stands_in IsTried made (executed m 0 (evaluated_in m 0 s.0 s.1)) s.4 (record {
        up = h.up;
        writer = h.writer;
        session = told (evaluated_in m 0 s.0 s.1) (m.sessions 0) h.session.goes (record { statement = s.3.statement; runs = s.3.runs; kind = s.3.kind });
      }))
      (λ k. record { up = k.up; writer = k.writer; session = record { goes = k.session.goes; due = inl k.session.due } }) h p

  is_sent : (x : Session) → IsTried x → IsSent x
  is_sent x h = record { goes = h.goes; due = by_due h.due }
    where
      by_due : (due_of x ≡ None) ⊎ Evaluates x → DueFairly x
      by_due (inl n) = inl n
      by_due (inr v) = inr (inl v)

  enqueues : (m new : Machine) (es : List Entry) → Stands IsTried m → IfMay language m (entry.Enqueue 0) es new → Stands IsSent new
  enqueues m new es h p = if_may IsTried IsSent m new (entry.Enqueue 0) es
      (λ made s. stands_in IsSent made (enqueued m 0) s.2 (record { up = h.up; writer = h.writer; session = sent m h.session.goes s.1 }))
      (λ k. record { up = k.up; writer = k.writer; session = is_sent (m.sessions 0) k.session }) h p

  settles_too : (m new : Machine) (es : List Entry) → Stands IsSent m → IfMay language m entry.Settle es new → Stands IsSent new
  settles_too m new es h p = if_may IsSent IsSent m new entry.Settle es
      (λ made s. stands_in IsSent made (settles m) s.3 (record {
        up = h.up;
        writer = h.writer;
        session = made_if (is_some_of (m.owner _) 0) (m.sessions 0) h.session;
      }))
      (λ k. k) h p

  replies : (m new : Machine) (r : SqlReply) → Stands IsSent m → Step language m (entry.Reply 0 r) new → Stands IsBetween new
  replies m new r h p = stands_in IsBetween new (answered m 0 r) p.1 (record {
    up = h.up;
    writer = h.writer;
    session = record { goes = record { node = h.session.goes.node; lost = h.session.goes.lost; going = refl }; free = refl };
  })

-- ---- one reply

-- the reply that is due, or that a statement with no answer gets
abbrev said : Option SqlReply → Stmt → Bool → SqlReply
said (Some r) st l = r
said None st l = if is_begin st then (if l then reply.InTransaction else reply.Ok 0) else (if l then reply.Ok 0 else reply.NoTransaction)

ends_not_begins : (st : Stmt) → is_ending st ≡ true → is_begin st ≡ false
ends_not_begins stmt.Begin e = clash (sym e)
ends_not_begins stmt.Commit e = refl
ends_not_begins stmt.Rollback e = refl
ends_not_begins (stmt.Create s) e = refl
ends_not_begins (stmt.Insert t names rows) e = refl
ends_not_begins (stmt.Update t sets test) e = refl
ends_not_begins (stmt.Delete t test) e = refl
ends_not_begins (stmt.Select q) e = refl

commit_ends : (st : Stmt) → is_commit st ≡ true → is_ending st ≡ true
commit_ends stmt.Commit e = refl
commit_ends stmt.Begin e = clash (sym e)
commit_ends stmt.Rollback e = clash (sym e)
commit_ends (stmt.Create s) e = clash (sym e)
commit_ends (stmt.Insert t names rows) e = clash (sym e)
commit_ends (stmt.Update t sets test) e = clash (sym e)
commit_ends (stmt.Delete t test) e = clash (sym e)
commit_ends (stmt.Select q) e = clash (sym e)

module _ (m : Machine) (x : Session) (st : Stmt) (r : SqlReply) (writer : m.writer ≡ Some 0) (h : IsSent x) (runs : running x ≡ Some st) where
  is_the : (v : Stmt) → running x ≡ Some v → v ≡ st
  is_the v e = same_of v st (sym e ∙ runs)

  -- BEGIN has no reply due
  begin_free : st ≡ stmt.Begin → due_of x ≡ None
  begin_free e = by_due h.due
    where
      by_due : DueFairly x → due_of x ≡ None
      by_due (inl n) = n
      by_due (inr (inl v)) = clash (sym (ap is_begin (is_the v.statement v.runs ∙ e)) ∙ (plain_kind v.statement v.kind).begin)
      by_due (inr (inr c)) = clash (sym c.kind ∙ ap is_commit (is_the c.statement c.runs ∙ e))

  -- nor has COMMIT or ROLLBACK, unless a commit is on its way
  end_free : is_ending st ≡ true → (is_lasting x ≡ true) ⊎ (commit_of x ≡ unqueued) → due_of x ≡ None
  end_free e k = by_due h.due k
    where
      by_due : DueFairly x → (is_lasting x ≡ true) ⊎ (commit_of x ≡ unqueued) → due_of x ≡ None
      by_due (inl n) k = n
      by_due (inr (inl v)) k = clash (sym (ap is_ending (is_the v.statement v.runs) ∙ e) ∙ (plain_kind v.statement v.kind).ending)
      by_due (inr (inr c)) (inl l) = clash (sym l ∙ c.over)
      by_due (inr (inr c)) (inr u) = absurd (c.sent u)

  said_free : (b l : Bool) → due_of x ≡ None → is_begin st ≡ b → is_lasting x ≡ l
      → (if b then (if l then reply.InTransaction else reply.Ok 0) else (if l then reply.Ok 0 else reply.NoTransaction)) ≡ said (due_of x) st (is_lasting x)
  said_free b l n e f =
      sym (ap (λ d. said d st (is_lasting x)) n
      ∙ (ap (λ c. if c then (if is_lasting x then reply.InTransaction else reply.Ok 0) else (if is_lasting x then reply.Ok 0 else reply.NoTransaction)) e
      ∙ ap (λ k. if b then (if k then reply.InTransaction else reply.Ok 0) else (if k then reply.Ok 0 else reply.NoTransaction)) f))

  an_end : (st ≡ stmt.Rollback) ⊎ ((st ≡ stmt.Commit) × (pending_of x ≡ [])) → is_ending st ≡ true
  an_end (inl e) = ap is_ending e
  an_end (inr e) = ap is_ending e.0

  only : ¬ IsPoolFull r → IsNotFull (entry.Reply 0 r) → IsReplied m x st r → r ≡ said (due_of x) st (is_lasting x)
  only room some (read_only i) = clash (sym (ap (λ n. is_open m n) h.goes.node ∙ ap (λ w. is_some_of w 0) writer) ∙ i.1)
  only room some (second_begin i) = i.2 ∙ said_free true true (begin_free i.0) (ap is_begin i.0) i.1
  only room some (stray_end i) = i.3 ∙ said_free false false (end_free i.0 (inr i.2)) (ends_not_begins st i.0) i.1
  only room some (begun i) = i.3 ∙ said_free true false (begin_free i.0) (ap is_begin i.0) i.2
  only room some (plain_end i) = i.2 ∙ said_free false true (end_free (an_end i.0) (inl i.1)) (ends_not_begins st (an_end i.0)) i.1
  only room some (evaluated i) = sym (ap (λ d. said d st (is_lasting x)) i.0)
  only room some (done i) = sym (ap (λ d. said d st (is_lasting x)) i.0)
  only room some (pool_full i) = absurd (room (i.2, i.3))
  only room some (full i) = by_full i.4
    where
      by_full : (r ≡ reply.SpaceFull) ⊎ (r ≡ reply.TrxFull) → r ≡ said (due_of x) st (is_lasting x)
      by_full (inl e) = absurd (some.0 e)
      by_full (inr e) = absurd (some.1 e)

abbrev at_of : Result Stmt ℕ → ℕ
at_of (Ok st) = 0
at_of (Err at) = at

abbrev read_in : Option Statement → Result Stmt ℕ
read_in o = option_map_or (λ a. a.read) o (Err 0)

-- a text that is wrong is no statement that runs
not_both : {A : Type 0} (x : Session) (st : Stmt) (r : SqlReply) → IsSyntax x r → running x ≡ Some st → A
not_both x st r y e =
    clash (sym (ap is_some (sym (ap running_in y.has ∙ (ap (λ b. if b then None else result_ok (y.asked).read) y.going ∙ ap result_ok y.refused)) ∙ e)))

one_reply : (m : Machine) (r q : SqlReply) → Stands IsSent m → ¬ IsPoolFull r → ¬ IsPoolFull q → IsNotFull (entry.Reply 0 r) → IsNotFull (entry.Reply 0 q)
    → MayReply m 0 r → MayReply m 0 q → r ≡ q
one_reply m r q h pr pq fr fq (inl f) v = clash (sym f.stopped ∙ h.session.goes.going)
one_reply m r q h pr pq fr fq (inr u) (inl f) = clash (sym f.stopped ∙ h.session.goes.going)
one_reply m r q h pr pq fr fq (inr (c, inl y)) (inr (d, inl z)) =
    let same : y.asked ≡ z.asked = same_of y.asked z.asked (sym y.has ∙ z.has) in
    y.is ∙ (ap (λ a. reply.Syntax (at_of a)) (sym y.refused ∙ (ap (λ a. a.read) same ∙ z.refused)) ∙ sym z.is)
one_reply m r q h pr pq fr fq (inr (c, inl y)) (inr (d, inr z)) = not_both (m.sessions 0) z.0 r y z.1
one_reply m r q h pr pq fr fq (inr (c, inr y)) (inr (d, inl z)) = not_both (m.sessions 0) y.0 q z y.1
one_reply m r q h pr pq fr fq (inr (c, inr y)) (inr (d, inr z)) =
    let same : y.0 ≡ z.0 = same_of y.0 z.0 (sym y.1 ∙ z.1) in
    only m (m.sessions 0) y.0 r h.writer h.session y.1 pr fr y.2
    ∙ (ap (λ st. said (due_of (m.sessions 0)) st (is_lasting (m.sessions 0))) same
    ∙ sym (only m (m.sessions 0) z.0 q h.writer h.session z.1 pq fq z.2))

-- ---- one line, and all lines

front_has : (es fs : List Entry) → HasNoFull (es ++ fs) → HasNoFull es
front_has [] fs h = tt
front_has (e ∷ es) fs h = (h.0, front_has es fs h.1)

rest_has : (es fs : List Entry) → HasNoFull (es ++ fs) → HasNoFull fs
rest_has [] fs h = h
rest_has (e ∷ es) fs h = rest_has es fs h.1

module _ (language : Language) (reads : ReadsOneWay language) (answers : OneAnswer language.answers) where
  may_once : (e : Entry) (m new other : Machine) (es fs : List Entry) → IfMay language m e es new → IfMay language m e fs other → (es ≡ fs) × (new ≡ other)
  may_once e m new other es fs (inl a) (inl b) = (a.1 ∙ sym b.1, step_once language answers reads e m new other a.0 b.0)
  may_once e m new other es fs (inl a) (inr b) = absurd (b.0 new a.0)
  may_once e m new other es fs (inr a) (inl b) = absurd (a.0 other b.0)
  may_once e m new other es fs (inr a) (inr b) = (a.1 ∙ sym b.1, a.2 ∙ sym b.2)

  may_after : (e : Entry) (m n new other : Machine) (es fs : List Entry) → m ≡ n → IfMay language m e es new → IfMay language n e fs other → (es ≡ fs) × (new ≡ other)
  may_after e m n new other es fs same p q = may_once e m new other es fs p (subst (λ k. IfMay language k e fs other) (sym same) q)

  -- the reply among a line's entries
  the_reply : (m new : Machine) (line : List ℕ) (es : List Entry) (a : AnswersLine language 0 m line es new) → HasNoFull es → IsNotFull (entry.Reply 0 a.answer)
  the_reply m new line es a h =
      let all : HasNoFull (entry.Submit 0 line ∷ (a.snap ++ (a.exec ++ (a.enqueue ++ (a.settle ++ entry.Reply 0 a.answer ∷ []))))) = subst HasNoFull a.all h in
      let last : HasNoFull (entry.Reply 0 a.answer ∷ []) =
      rest_has a.settle _ (rest_has a.enqueue _ (rest_has a.exec _ (rest_has a.snap _ all.1))) in
      last.0

  stands_made : (m new : Machine) (line : List ℕ) (es : List Entry) → Stands IsBetween m → (a : AnswersLine language 0 m line es new) → Stands IsSent a.made
  stands_made m new line es h a =
      settles_too language a.waiting a.made a.settle
      (enqueues language a.evaluated a.waiting a.enqueue
      (execs language a.seeing a.evaluated a.exec
      (snaps language a.asked a.seeing a.snap (submits language m a.asked line h a.submits) a.snaps) a.execs) a.enqueues) a.settles

  line_once : (m new other : Machine) (line : List ℕ) (es fs : List Entry) → Stands IsBetween m → HasNoFull es → HasNoFull fs
      → AnswersLine language 0 m line es new → AnswersLine language 0 m line fs other → (es ≡ fs) × (new ≡ other) × Stands IsBetween new
  line_once m new other line es fs h p q a b =
      let asked : a.asked ≡ b.asked = step_once language answers reads (entry.Submit 0 line) m a.asked b.asked a.submits b.submits in
      let snap : (a.snap ≡ b.snap) × (a.seeing ≡ b.seeing) = may_after (entry.Snap 0) a.asked b.asked a.seeing b.seeing a.snap b.snap asked a.snaps b.snaps in
      let exec : (a.exec ≡ b.exec) × (a.evaluated ≡ b.evaluated) = may_after (entry.Exec 0) a.seeing b.seeing a.evaluated b.evaluated a.exec b.exec snap.1 a.execs b.execs in
      let enqueue : (a.enqueue ≡ b.enqueue) × (a.waiting ≡ b.waiting) = may_after (entry.Enqueue 0) a.evaluated b.evaluated a.waiting b.waiting a.enqueue b.enqueue exec.1 a.enqueues b.enqueues in
      let settle : (a.settle ≡ b.settle) × (a.made ≡ b.made) = may_after entry.Settle a.waiting b.waiting a.made b.made a.settle b.settle enqueue.1 a.settles b.settles in
      let sent : Stands IsSent a.made = stands_made m new line es h a in
      let other_reply : Step language a.made (entry.Reply 0 b.answer) other = subst (λ k. Step language k (entry.Reply 0 b.answer) other) (sym settle.1) b.replies in
      let answer : a.answer ≡ b.answer = one_reply a.made a.answer b.answer sent a.room b.room (the_reply m new line es a p) (the_reply m other line fs b q) a.replies.0 other_reply.0 in (
        a.all
            ∙ (ap (λ l. entry.Submit 0 line ∷ (l ++ (a.exec ++ (a.enqueue ++ (a.settle ++ entry.Reply 0 a.answer ∷ []))))) snap.0
            ∙ (ap (λ l. entry.Submit 0 line ∷ (b.snap ++ (l ++ (a.enqueue ++ (a.settle ++ entry.Reply 0 a.answer ∷ []))))) exec.0
            ∙ (ap (λ l. entry.Submit 0 line ∷ (b.snap ++ (b.exec ++ (l ++ (a.settle ++ entry.Reply 0 a.answer ∷ []))))) enqueue.0
            ∙ (ap (λ l. entry.Submit 0 line ∷ (b.snap ++ (b.exec ++ (b.enqueue ++ (l ++ entry.Reply 0 a.answer ∷ []))))) settle.0
            ∙ (ap (λ r. entry.Submit 0 line ∷ (b.snap ++ (b.exec ++ (b.enqueue ++ (b.settle ++ entry.Reply 0 r ∷ []))))) answer
            ∙ sym b.all))))),
        a.replies.1 ∙ (ap (λ r. answered a.made 0 r) answer ∙ sym other_reply.1),
        replies language a.made new a.answer sent a.replies,
      )

  lines_once : (lines : List (List ℕ)) (m new other : Machine) (es fs : List Entry) → Stands IsBetween m → HasNoFull es → HasNoFull fs
      → Serves language 0 m lines es new → Serves language 0 m lines fs other → es ≡ fs
  lines_once [] m new other es fs h p q v w = v.0 ∙ sym w.0
  lines_once (line ∷ lines) m new other es fs h p q v w =
      let pv : HasNoFull (v.1 ++ v.2) = subst HasNoFull v.5 p in
      let qw : HasNoFull (w.1 ++ w.2) = subst HasNoFull w.5 q in
      let one : (v.1 ≡ w.1) × (v.0 ≡ w.0) × Stands IsBetween v.0 = line_once m v.0 w.0 line v.1 w.1 h (front_has v.1 v.2 pv) (front_has w.1 w.2 qw) v.3 w.3 in
      let more : v.2 ≡ w.2 = lines_once lines v.0 new other v.2 w.2 one.2 (rest_has v.1 v.2 pv) (rest_has w.1 w.2 qw) v.4 (subst (λ k. Serves language 0 k lines w.2 other) (sym one.1) w.4) in
      v.5 ∙ (ap (λ l. l ++ v.2) one.0 ∙ (ap (λ l. w.1 ++ l) more ∙ sym w.5))

pub one_serial : (language : Language) → OneAnswer language.answers → ReadsOneWay language → OneSerial language
one_serial language answers reads nodes base first name lines es fs up p q v w =
    let ready : v.0 ≡ w.0 = step_once language answers reads (entry.Join 0 name 0) (start nodes base first) v.0 w.0 v.3 w.3 in
    let pv : HasNoFull (entry.Join 0 name 0 ∷ v.2) = subst HasNoFull v.5 p in
    let qw : HasNoFull (entry.Join 0 name 0 ∷ w.2) = subst HasNoFull w.5 q in
    let begins : Stands IsBetween v.0 = stands_in IsBetween v.0 (joined (start nodes base first) 0 0) v.3.2
    (record { up = up; writer = refl; session = record { goes = record { node = refl; lost = refl; going = refl }; free = refl } }) in
    v.5 ∙ (ap (λ l. entry.Join 0 name 0 ∷ l) (lines_once language reads answers lines v.0 v.1 w.1 v.2 w.2 begins pv.1 qw.1 v.4 (subst (λ k. Serves language 0 k lines w.2 w.1) (sym ready) w.4)) ∙ sym w.5)
