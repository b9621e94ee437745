-- Stated: the table machine's state: nodes, sessions, a database with commits after it, and commits that wait.
use Rattle.std.specs.Prelude.{◌≡◌, ℕ, zero, suc, ◌+◌, ◌-◌, ◌<◌, Bool, false, nat_lt, nat_eq, List, [], Option, Some, None, Result, option_and_then, if◌then◌else◌}
use Rattle.std.specs.Option.{option_map_or}
use Rattle.std.specs.Result.{result_ok}
use Rattle.sql_statements.specs.declared.statements.Stmt.{Stmt}
use Rattle.sql_database.specs.declared.changes.Change.{Change}
use Rattle.sql_database.specs.declared.replies.SqlReply.{SqlReply}
use Rattle.sql_database.specs.Database.{Database}
use Rattle.sql_database.specs.Applied.{applied}

-- the number of the commit that it sees last, its own changes, and whether a BEGIN opened it
pub record Transaction : Type 0 where
  pub snap : ℕ
  pub pending : List Change
  pub lasting : Bool

-- where a statement's commit is: in no queue, in the queue, or made
pub data Commit : Type 0 where
  unqueued : Commit
  queued : Commit
  settled : Commit

-- a statement that is not answered: what its text was read as, the reply that is due, its own changes, where its
-- commit is, and whether it was stopped, so that the due reply is forced
pub record Statement : Type 0 where
  pub read : Result Stmt ℕ
  pub due : Option SqlReply
  pub changes : List Change
  pub commit : Commit
  pub stopped : Bool

-- its node, whether it lost a transaction and was not told, and what it has open
pub record Session : Type 0 where
  pub node : ℕ
  pub lost : Bool
  pub transaction : Option Transaction
  pub statement : Option Statement

-- Commits are numbered. `base` is the database at the number `first`; the commits after it have the numbers up
-- to `count`, and the queue has the `waiting` numbers after that. `changes` gives a number's changes and `owner`
-- the session that waits for it. Sessions are numbered from 0, and `joined` is how many there are. `forgot` says
-- that the entry before was a Forget.
pub record Machine : Type 0 where
  pub up : ℕ → Bool
  pub writer : Option ℕ
  pub base : Database
  pub first : ℕ
  pub count : ℕ
  pub waiting : ℕ
  pub changes : ℕ → List Change
  pub owner : ℕ → Option ℕ
  pub joined : ℕ
  pub sessions : ℕ → Session
  pub forgot : Bool

abbrev pub idle : ℕ → Session
idle n = record { node = n; lost = false; transaction = None; statement = None }

-- all nodes are up, the first is open, and there is nothing but a database
abbrev pub start : ℕ → Database → ℕ → Machine
start nodes base first = record {
  up = λ n. nat_lt n nodes;
  writer = Some 0;
  base = base;
  first = first;
  count = first;
  waiting = 0;
  changes = λ n. [];
  owner = λ n. None;
  joined = 0;
  sessions = λ s. idle 0;
  forgot = false;
}

-- a database after the first so many commits
unfoldable pub after_commits : Database → (ℕ → List Change) → ℕ → ℕ → Database
after_commits d changes first zero = d
after_commits d changes first (suc n) = applied (after_commits d changes first n) (changes (first + suc n))

-- the database with the commits up to a number
abbrev pub committed : Machine → ℕ → Database
committed m n = after_commits m.base m.changes m.first (n - m.first)

-- what a transaction sees: its snapshot with its own changes
abbrev pub view : Machine → Transaction → Database
view m t = applied (committed m t.snap) t.pending

-- the number of the last in the queue
abbrev pub last : Machine → ℕ
last m = m.count + m.waiting

abbrev pub is_some_of : Option ℕ → ℕ → Bool
is_some_of o n = option_map_or (λ k. nat_eq k n) o false

-- whether a node is the one that takes writes
abbrev pub is_open : Machine → ℕ → Bool
is_open m n = is_some_of m.writer n

abbrev pub pending_of : Session → List Change
pending_of x = option_map_or (λ t. t.pending) x.transaction []

abbrev pub is_lasting : Session → Bool
is_lasting x = option_map_or (λ t. t.lasting) x.transaction false

-- whether a reply is forced
abbrev pub is_stopped : Session → Bool
is_stopped x = option_map_or (λ a. a.stopped) x.statement false

abbrev pub due_of : Session → Option SqlReply
due_of x = option_and_then (λ a. a.due) x.statement

abbrev pub wrote : Session → List Change
wrote x = option_map_or (λ a. a.changes) x.statement []

abbrev pub commit_of : Session → Commit
commit_of x = option_map_or (λ a. a.commit) x.statement unqueued

-- the session's statement, where it has one that is not stopped and whose text is a statement
abbrev pub running : Session → Option Stmt
running x = option_and_then (λ a. if a.stopped then None else result_ok a.read) x.statement

-- no reply is forced
abbrev pub NoneForced : Machine → Type 0
NoneForced m = (t : ℕ) → t < m.joined → is_stopped (m.sessions t) ≡ false
