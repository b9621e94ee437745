-- Stated: the steps of the table machine, by entry: what each needs, and what it does.
use Rattle.std.specs.Prelude.{◌≡◌, ◌≢◌, ◌≤◌, ◌<◌, ◌⊎◌, ℕ, Bool, true, false, ◌&&◌, ◌||◌, nat_eq, is_some, List, [], filter, Some, None, Result}
use Rattle.std.specs.List.{range_with_len}
use Rattle.std.specs.Option.{option_map_or}
use Rattle.sql_statements.specs.declared.statements.Stmt.{Stmt}
use Rattle.sql_database.specs.Answers.{Answer}
use Rattle.sql_database.specs.Statements.{IsEvaluated, is_commit, is_ending, is_write}
use Rattle.table_machine.specs.declared.entries.Entry.{Entry}
use Rattle.table_machine.specs.declared.entries.Entry.TheVariants as entry
use Rattle.table_machine.specs.Conflicts.{evaluated}
use Rattle.table_machine.specs.Language.{Language}
use Rattle.table_machine.specs.Machine.{Machine, Session, Transaction, unqueued, commit_of, due_of, is_lasting, is_open, is_stopped, NoneForced, pending_of, running, view}
use Rattle.table_machine.specs.Moves.{answered, downed, enqueued, executed, forgotten, joined, opened, passed, settles, snapped, started, submitted, timed_out}
use Rattle.sql_database.specs.Replies.{is_done}
use Rattle.table_machine.specs.Replies.{MayReply}

-- a statement that takes a snapshot, in a session with no transaction
pub record MaySnap (m : Machine) (s : ℕ) : Type 0 where
  pub statement : Stmt
  pub runs : running (m.sessions s) ≡ Some statement
  pub stays : is_ending statement ≡ false
  pub free : (m.sessions s).transaction ≡ None
  pub writer : is_some m.writer ≡ true

-- a statement that was not evaluated yet, in a transaction, and its answer over what the transaction sees
pub record MayExec (language : Language) (m : Machine) (s : ℕ) (t : Transaction) (a : Answer) : Type 0 where
  pub statement : Stmt
  pub runs : running (m.sessions s) ≡ Some statement
  pub kind : IsEvaluated statement
  pub writes : is_write statement ≡ true → is_open m (m.sessions s).node ≡ true
  pub has : (m.sessions s).transaction ≡ Some t
  pub due : due_of (m.sessions s) ≡ None
  pub answers : language.answers (view m t) statement a

-- COMMIT of what a BEGIN opened, or a write of its own that is done
abbrev pub Commits : Session → Stmt → Type 0
Commits x st =
    ((is_commit st ≡ true) × (is_lasting x ≡ true))
    ⊎ ((is_write st ≡ true) × (is_lasting x ≡ false) × (option_map_or is_done (due_of x) false ≡ true))

pub record MayEnqueue (m : Machine) (s : ℕ) : Type 0 where
  pub statement : Stmt
  pub runs : running (m.sessions s) ≡ Some statement
  pub writer : is_open m (m.sessions s).node ≡ true
  pub free : commit_of (m.sessions s) ≡ unqueued
  pub changes : pending_of (m.sessions s) ≢ []
  pub commits : Commits (m.sessions s) statement

-- a statement that is not stopped, on a node that is up
pub record MayTime (m : Machine) (s : ℕ) : Type 0 where
  pub asks : is_some (m.sessions s).statement ≡ true
  pub going : is_stopped (m.sessions s) ≡ false
  pub up : m.up (m.sessions s).node ≡ true

-- the sessions with a property, ascending
abbrev pub sessions_with : (Session → Bool) → Machine → List ℕ
sessions_with has m = filter (λ s. has (m.sessions s)) (range_with_len 0 m.joined)

-- a node's session with a statement or a transaction
abbrev pub is_busy_on : ℕ → Session → Bool
is_busy_on n x = nat_eq x.node n && (is_some x.statement || is_some x.transaction)

abbrev pub Step : Language → Machine → Entry → Machine → Type 0
Step language m (entry.Join s name n) new = NoneForced m × (s ≡ m.joined) × (new ≡ joined m s n)
Step language m (entry.Submit s text) new =
    (read : Result Stmt ℕ) × NoneForced m × (s < m.joined) × ((m.sessions s).statement ≡ None) × language.parses text read
    × (new ≡ submitted m s read)
Step language m (entry.Snap s) new = NoneForced m × MaySnap m s × (new ≡ snapped m s)
Step language m (entry.Exec s) new =
    (t : Transaction) × (a : Answer) × NoneForced m × MayExec language m s t a × (new ≡ executed m s (evaluated m s t a))
Step language m (entry.Enqueue s) new = NoneForced m × MayEnqueue m s × (new ≡ enqueued m s)
Step language m entry.Settle new = NoneForced m × (is_some m.writer ≡ true) × (0 < m.waiting) × (new ≡ settles m)
Step language m (entry.Forget k) new = NoneForced m × (m.writer ≡ None) × (k ≤ m.waiting) × (new ≡ forgotten m k)
Step language m (entry.Reply s r) new = MayReply m s r × (new ≡ answered m s r)
Step language m (entry.Timer s) new = NoneForced m × MayTime m s × (new ≡ timed_out m s)
Step language m (entry.Down n ss) new =
    NoneForced m × (m.up n ≡ true) × (ss ≡ sessions_with (is_busy_on n) m) × (new ≡ downed m n ss)
Step language m (entry.Up n) new = NoneForced m × (m.up n ≡ false) × (new ≡ started m n)
Step language m (entry.Opened n) new =
    NoneForced m × (m.writer ≡ None) × (m.up n ≡ true) × (m.forgot ≡ true) × (new ≡ opened m n)
Step language m (entry.Ignored line) new = NoneForced m × (new ≡ passed m)
Step language m (entry.Missed line) new = NoneForced m × (new ≡ passed m)
Step language m (entry.End ss) new = NoneForced m × (ss ≡ sessions_with (λ x. is_some x.statement) m) × (new ≡ passed m)
