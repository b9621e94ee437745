-- Stated: which reply a session may get.
use Rattle.std.specs.Prelude.{◌≡◌, ◌≢◌, ◌<◌, ◌⊎◌, ℕ, true, false, [], Some, None, Err}
use Rattle.sql_statements.specs.declared.statements.Stmt.{Stmt}
use Rattle.sql_statements.specs.declared.statements.Stmt.TheVariants as stmt
use Rattle.sql_database.specs.declared.replies.SqlReply.{SqlReply}
use Rattle.sql_database.specs.declared.replies.SqlReply.TheVariants as reply
use Rattle.table_machine.specs.Machine.{Machine, Session, Statement, unqueued, settled, commit_of, due_of, is_lasting, is_open, is_stopped, NoneForced, pending_of, running, wrote}
use Rattle.sql_database.specs.Replies.{is_done}
use Rattle.sql_database.specs.Statements.{is_ending, is_select, is_write}

-- forced: the statement is stopped, and the reply is the one due; forced replies may stand in any order
pub record IsForced (m : Machine) (s : ℕ) (r : SqlReply) : Type 0 where
  pub stopped : is_stopped (m.sessions s) ≡ true
  pub due : due_of (m.sessions s) ≡ Some r

-- a text that is no statement is told where it is wrong
pub record IsSyntax (x : Session) (r : SqlReply) : Type 0 where
  pub asked : Statement
  pub at : ℕ
  pub has : x.statement ≡ Some asked
  pub going : asked.stopped ≡ false
  pub refused : asked.read ≡ Err at
  pub is : r ≡ reply.Syntax at

-- a write on a node that does not take writes
abbrev pub IsReadOnly : Machine → Session → Stmt → SqlReply → Type 0
IsReadOnly m x st r = (is_write st ≡ true) × (is_open m x.node ≡ false) × (r ≡ reply.ReadOnly)

-- BEGIN where a BEGIN is open
abbrev pub IsSecondBegin : Session → Stmt → SqlReply → Type 0
IsSecondBegin x st r = (st ≡ stmt.Begin) × (is_lasting x ≡ true) × (r ≡ reply.InTransaction)

-- COMMIT or ROLLBACK where none is
abbrev pub IsStrayEnd : Session → Stmt → SqlReply → Type 0
IsStrayEnd x st r = (is_ending st ≡ true) × (is_lasting x ≡ false) × (commit_of x ≡ unqueued) × (r ≡ reply.NoTransaction)

-- BEGIN after its snapshot
abbrev pub IsBegun : Session → Stmt → SqlReply → Type 0
IsBegun x st r = (st ≡ stmt.Begin) × (x.transaction ≢ None) × (is_lasting x ≡ false) × (r ≡ reply.Ok 0)

-- ROLLBACK, or COMMIT with nothing to commit
abbrev pub IsPlainEnd : Session → Stmt → SqlReply → Type 0
IsPlainEnd x st r = ((st ≡ stmt.Rollback) ⊎ ((st ≡ stmt.Commit) × (pending_of x ≡ []))) × (is_lasting x ≡ true) × (r ≡ reply.Ok 0)

-- rows, or what the evaluation refused
abbrev pub IsEvaluatedReply : Session → SqlReply → Type 0
IsEvaluatedReply x r = (due_of x ≡ Some r) × (is_done r ≡ false)

-- changes that are not to be committed now, or whose commit is made
abbrev pub IsDone : Session → Stmt → SqlReply → Type 0
IsDone x st r =
    (due_of x ≡ Some r) × (is_done r ≡ true)
    × ((is_lasting x ≡ true) ⊎ (((is_write st ≡ true) × (wrote x ≡ [])) ⊎ (commit_of x ≡ settled)))

-- a statement that needs pages
abbrev pub NeedsPages : Machine → Session → Stmt → Type 0
NeedsPages m x st =
    (is_select st ≡ true)
    ⊎ (((is_write st ≡ true) × (is_open m x.node ≡ true)) ⊎ ((st ≡ stmt.Commit) × (pending_of x ≢ [])))

abbrev pub IsPoolFull : Machine → Session → Stmt → SqlReply → Type 0
IsPoolFull m x st r = NeedsPages m x st × (commit_of x ≡ unqueued) × (k : ℕ) × (r ≡ reply.PoolFull k)

-- changes for which there is no room
abbrev pub IsFull : Session → SqlReply → Type 0
IsFull x r =
    (n : ℕ) × (due_of x ≡ Some (reply.Ok n)) × (wrote x ≢ []) × (commit_of x ≡ unqueued)
    × ((r ≡ reply.SpaceFull) ⊎ (r ≡ reply.TrxFull))

-- the reply to a text that is a statement and is not stopped
pub data IsReplied (m : Machine) (x : Session) (st : Stmt) (r : SqlReply) : Type 0 where
  read_only : IsReadOnly m x st r → IsReplied m x st r
  second_begin : IsSecondBegin x st r → IsReplied m x st r
  stray_end : IsStrayEnd x st r → IsReplied m x st r
  begun : IsBegun x st r → IsReplied m x st r
  plain_end : IsPlainEnd x st r → IsReplied m x st r
  evaluated : IsEvaluatedReply x r → IsReplied m x st r
  done : IsDone x st r → IsReplied m x st r
  pool_full : IsPoolFull m x st r → IsReplied m x st r
  full : IsFull x r → IsReplied m x st r

-- a forced reply comes before all else; any other needs that none is forced
abbrev pub MayReply : Machine → ℕ → SqlReply → Type 0
MayReply m s r =
    IsForced m s r
    ⊎ (NoneForced m
    × (IsSyntax (m.sessions s) r
    ⊎ ((st : Stmt) × (running (m.sessions s) ≡ Some st) × IsReplied m (m.sessions s) st r)))
