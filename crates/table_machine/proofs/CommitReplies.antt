-- A COMMIT is told Ok only where its commit is made, or it had nothing to commit.
use Rattle.std.proofs.Common.{◌≡◌, ◌≢◌, ◌⊎◌, ℕ, Bool, true, false, not, nat_eq, if◌then◌else◌, is_some, List, [], ◌∷◌, Option, Some, None, Result, Ok, Err, option_map, option_and_then, unwrap_or, refl, sym, ap, subst, ◌∙◌, inl, inr}
use Rattle.std.specs.Option.{option_map_or}
use Rattle.std.specs.Result.{result_ok}
use Rattle.sql_statements.specs.declared.statements.Stmt.{Stmt}
use Rattle.sql_statements.specs.declared.statements.Stmt.TheVariants as stmt
use Rattle.sql_database.specs.declared.changes.Change.{Change}
use Rattle.sql_database.specs.declared.replies.SqlReply.{SqlReply}
use Rattle.sql_database.specs.declared.replies.SqlReply.TheVariants as reply
use Rattle.sql_database.specs.Database.{Database}
use Rattle.sql_database.specs.Replies.{is_done}
use Rattle.sql_database.specs.Statements.{is_commit, is_ending, is_write}
use Rattle.sql_database.proofs.KindLaws.{plain_kind}
use Rattle.table_machine.specs.declared.entries.Entry.{Entry}
use Rattle.table_machine.specs.declared.entries.Entry.TheVariants as entry
use Rattle.table_machine.specs.Conflicts.{Evaluated, evaluated as evaluated_in}
use Rattle.table_machine.specs.Language.{Language}
use Rattle.table_machine.specs.Laws.{CommitIsMade}
use Rattle.table_machine.specs.Machine.{Machine, Session, Statement, Transaction, commit_of, due_of, idle, is_lasting, is_some_of, is_stopped, pending_of, running, settled, start, wrote}
use Rattle.table_machine.specs.Moves.{answered_session, asking, fallen, forced, fresh, given_up, in_queue, is_in, is_made, is_told, put, queued_session, settled_session, snapshot, told_session}
use Rattle.table_machine.specs.Replies.{IsReplied, IsSyntax, MayReply, begun, done, evaluated, full, plain_end, pool_full, read_only, second_begin, stray_end}
use Rattle.table_machine.specs.Runs.{Leads}
use Rattle.table_machine.specs.Steps.{Step}

abbrev IsYes : Bool → Type 0
IsYes true = Unit {0}
IsYes false = ⊥

clash : {A : Type 0} → true ≡ false → A
clash e = absurd (subst IsYes e tt)

nothing_is : {A B : Type 0} (a : A) → None ≡ Some a → B
nothing_is a e = clash (sym (ap is_some e))

same_of : {A : Type 0} (a b : A) → Some a ≡ Some b → a ≡ b
same_of a b e = ap (λ o. unwrap_or o a) e

abbrev running_in : Option Statement → Option Stmt
running_in o = option_and_then (λ a. if a.stopped then None else result_ok a.read) o

abbrev due_in : Option Statement → Option SqlReply
due_in o = option_and_then (λ a. a.due) o

-- a COMMIT to which a reply is due has no transaction any more
abbrev IsOver : Session → Type 0
IsOver x = running x ≡ Some stmt.Commit → (due_of x ≡ None) ⊎ (x.transaction ≡ None)

AllOver : Machine → Type 0
AllOver m = (t : ℕ) → IsOver (m.sessions t)

over_at : (m : Machine) → AllOver m → (t : ℕ) → IsOver (m.sessions t)
unfolding AllOver
over_at m h t = h t

all_over : (m : Machine) → ((t : ℕ) → IsOver (m.sessions t)) → AllOver m
unfolding AllOver
all_over m h = h

-- nothing runs
at_rest : (x : Session) → running x ≡ None → IsOver x
at_rest x n e = nothing_is stmt.Commit (sym n ∙ e)

over_if : (b : Bool) (x y : Session) → IsOver x → IsOver y → IsOver (if b then x else y)
over_if true x y p q = p
over_if false x y p q = q

put_over : (m : Machine) (s : ℕ) (x : Session) → AllOver m → IsOver x → (t : ℕ) → IsOver (put m.sessions s x t)
put_over m s x h p t = over_if (nat_eq t s) x (m.sessions t) p (over_at m h t)

asking_over : (up lost : Bool) (read : Result Stmt ℕ) (x : Session)
    → IsOver (if not up then record x { statement = Some (forced reply.Unavailable (fresh read)) }
    else (if lost then record x { lost = false; statement = Some (forced reply.Lost (fresh read)) } else record x { statement = Some (fresh read) }))
asking_over false lost read x e = nothing_is stmt.Commit e
asking_over true true read x e = nothing_is stmt.Commit e
asking_over true false read x e = inl refl

told_running : (e : Evaluated) (o : Option Statement) → running_in (option_map (is_told e) o) ≡ running_in o
told_running e None = refl
told_running e (Some a) = refl

forced_rests : (r : SqlReply) (o : Option Statement) → running_in (option_map (forced r) o) ≡ None
forced_rests r None = refl
forced_rests r (Some a) = refl

made_running : (o : Option Statement) → running_in (option_map is_made o) ≡ running_in o
made_running None = refl
made_running (Some a) = refl

made_due : (o : Option Statement) → due_in (option_map is_made o) ≡ due_in o
made_due None = refl
made_due (Some a) = refl

settled_over : (x : Session) → IsOver x → IsOver (settled_session x)
settled_over x h e = by_either (h (sym (made_running x.statement) ∙ e))
  where
    by_either : (due_of x ≡ None) ⊎ (x.transaction ≡ None) → (due_of (settled_session x) ≡ None) ⊎ (x.transaction ≡ None)
    by_either (inl n) = inl (made_due x.statement ∙ n)
    by_either (inr n) = inr n

-- a statement of another kind is no COMMIT
other_kind : {A : Type 0} (f : Stmt → Bool) (st : Stmt) (o : Option Stmt) → o ≡ Some st → o ≡ Some stmt.Commit → f stmt.Commit ≡ true → f st ≡ false → A
other_kind f st o e c is other = clash (sym is ∙ (ap f (sym (same_of st stmt.Commit (sym e ∙ c))) ∙ other))

snapped_over : (x : Session) (st : Stmt) (t : Option Transaction) → running x ≡ Some st → is_ending st ≡ false → IsOver (record x { transaction = t })
snapped_over x st t r k e = other_kind is_ending st (running x) r e refl k

executed_over : (x : Session) (v : Evaluated) (st : Stmt) → running x ≡ Some st → is_ending st ≡ false → IsOver (told_session v x)
executed_over x v st r k e = other_kind is_ending st (running x) r (sym (told_running v x.statement) ∙ e) refl k

step : (language : Language) (e : Entry) (old new : Machine) → Step language old e new → AllOver old → AllOver new
step language (entry.Join s name n) old new c h = subst AllOver (sym c.2) (all_over _ (put_over old s (idle n) h (at_rest (idle n) refl)))
step language (entry.Submit s text) old new c h =
    subst AllOver (sym c.5) (all_over _ (put_over old s _ h (asking_over (old.up (old.sessions s).node) (old.sessions s).lost c.0 (old.sessions s))))
step language (entry.Snap s) old new c h =
    subst AllOver (sym c.2) (all_over _ (put_over old s _ h (snapped_over (old.sessions s) c.1.statement (Some (snapshot old.count)) c.1.runs c.1.stays)))
step language (entry.Exec s) old new c h =
    subst AllOver (sym c.4) (all_over _ (put_over old s _ h (executed_over (old.sessions s) (evaluated_in old s c.0 c.1) c.3.statement c.3.runs (plain_kind c.3.statement c.3.kind).ending)))
step language (entry.Enqueue s) old new c h = subst AllOver (sym c.2) (all_over _ (put_over old s (queued_session (old.sessions s)) h (λ e. inr refl)))
step language entry.Settle old new c h =
    subst AllOver (sym c.3) (all_over _ (λ t. over_if (is_some_of (old.owner _) t) (settled_session (old.sessions t)) (old.sessions t) (settled_over (old.sessions t) (over_at old h t)) (over_at old h t)))
step language (entry.Forget k) old new c h = subst AllOver (sym c.3) (all_over _ (over_at old h))
step language (entry.Reply s r) old new c h = subst AllOver (sym c.1) (all_over _ (put_over old s (answered_session r (old.sessions s)) h (at_rest (answered_session r (old.sessions s)) refl)))
step language (entry.Timer s) old new c h =
    subst AllOver (sym c.2) (all_over _ (put_over old s (given_up (old.sessions s)) h (at_rest (given_up (old.sessions s)) (forced_rests reply.Unavailable (old.sessions s).statement))))
step language (entry.Down n ss) old new c h =
    subst AllOver (sym c.3) (all_over _ (λ t. over_if (is_in ss t) (fallen (old.sessions t)) (old.sessions t)
    (at_rest (fallen (old.sessions t)) (forced_rests reply.Unavailable (old.sessions t).statement)) (over_at old h t)))
step language (entry.Up n) old new c h = subst AllOver (sym c.2) (all_over _ (over_at old h))
step language (entry.Opened n) old new c h = subst AllOver (sym c.4) (all_over _ (over_at old h))
step language (entry.Ignored l) old new c h = subst AllOver (sym c.1) (all_over _ (over_at old h))
step language (entry.Missed l) old new c h = subst AllOver (sym c.1) (all_over _ (over_at old h))
step language (entry.End ss) old new c h = subst AllOver (sym c.2) (all_over _ (over_at old h))

steps : (language : Language) (es : List Entry) (old new : Machine) → Leads language old es new → AllOver old → AllOver new
steps language [] old new l h = subst AllOver (sym l) h
steps language (e ∷ es) old new l h = steps language es l.0 new l.2 (step language e old l.0 l.1 h)

-- ---- the reply

not_ok : {A : Type 0} (n : ℕ) (r : SqlReply) → reply.Ok n ≡ r → is_done r ≡ false → A
not_ok n r e f = clash (ap is_done e ∙ f)

abbrev Told : Session → Type 0
Told x = (commit_of x ≡ settled) ⊎ (pending_of x ≡ [])

module _ (m : Machine) (x : Session) (st : Stmt) (n : ℕ) (commits : st ≡ stmt.Commit) (runs : running x ≡ Some st) (over : IsOver x) where
  when_done : (due_of x ≡ Some (reply.Ok n)) → (is_lasting x ≡ true) ⊎ (((is_write st ≡ true) × (wrote x ≡ [])) ⊎ (commit_of x ≡ settled)) → Told x
  when_done due (inl l) = by_either (over (runs ∙ ap Some commits))
    where
      by_either : (due_of x ≡ None) ⊎ (x.transaction ≡ None) → Told x
      by_either (inl e) = nothing_is (reply.Ok n) (sym e ∙ due)
      by_either (inr e) = clash (sym l ∙ ap (λ t. option_map_or (λ q. q.lasting) t false) e)
  when_done due (inr (inl w)) = clash (sym w.0 ∙ ap is_write commits)
  when_done due (inr (inr z)) = inl z

  when_ended : (st ≡ stmt.Rollback) ⊎ ((st ≡ stmt.Commit) × (pending_of x ≡ [])) → Told x
  when_ended (inl e) = clash (sym (ap is_commit commits) ∙ ap is_commit e)
  when_ended (inr e) = inr e.1

  when_full : (reply.Ok n ≡ reply.SpaceFull) ⊎ (reply.Ok n ≡ reply.TrxFull) → Told x
  when_full (inl e) = not_ok n reply.SpaceFull e refl
  when_full (inr e) = not_ok n reply.TrxFull e refl

  when_replied : IsReplied m x st (reply.Ok n) → Told x
  when_replied (read_only i) = not_ok n reply.ReadOnly i.2 refl
  when_replied (second_begin i) = not_ok n reply.InTransaction i.2 refl
  when_replied (stray_end i) = not_ok n reply.NoTransaction i.3 refl
  when_replied (begun i) = clash (sym (ap is_commit commits) ∙ ap is_commit i.0)
  when_replied (plain_end i) = when_ended i.0
  when_replied (evaluated i) = clash i.1
  when_replied (done i) = when_done i.0 i.2
  when_replied (pool_full i) = not_ok n (reply.PoolFull i.2) i.3 refl
  when_replied (full i) = when_full i.4

stopped_runs : {A : Type 0} (st : Stmt) (o : Option Statement) → option_map_or (λ a. a.stopped) o false ≡ true → running_in o ≡ Some st → A
stopped_runs st None e f = clash (sym e)
stopped_runs st (Some a) e f = clash (sym (ap is_some (sym (ap (λ b. if b then None else result_ok a.read) e) ∙ f)))

when_allowed : (m : Machine) (s n : ℕ) → MayReply m s (reply.Ok n) → running (m.sessions s) ≡ Some stmt.Commit → IsOver (m.sessions s) → Told (m.sessions s)
when_allowed m s n (inl f) r o = stopped_runs stmt.Commit (m.sessions s).statement f.stopped r
when_allowed m s n (inr (c, inl y)) r o = not_ok n (reply.Syntax y.at) y.is refl
when_allowed m s n (inr (c, inr y)) r o = when_replied m (m.sessions s) y.0 n (same_of y.0 stmt.Commit (sym y.1 ∙ r)) y.1 o y.2

pub commit_is_made : (language : Language) → CommitIsMade language
commit_is_made language nodes base first es s n old new leads step runs =
    when_allowed old s n step.0 runs (over_at old (steps language es (start nodes base first) old leads (all_over _ (λ t. at_rest (idle 0) refl))) s)
