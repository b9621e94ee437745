-- Stated: an account that tells of a table machine, and what becomes of it with each entry.
use Rattle.std.specs.Prelude.{◌≡◌, ◌≢◌, ℕ, Bool, true, List, [], Result, Some, slice_get}
use Rattle.std.specs.Result.{result_ok}
use Rattle.sql_statements.specs.declared.statements.Stmt.{Stmt}
use Rattle.sql_database.specs.declared.replies.SqlReply.{SqlReply}
use Rattle.sql_database.specs.Database.{Database}
use Rattle.table_machine.specs.declared.entries.Entry.TheVariants as entry
use Rattle.table_machine.specs.Language.{Language}
use Rattle.table_machine.specs.Machine.{Machine, start}
use Rattle.table_machine.specs.Moves as move
use Rattle.table_machine.specs.Steps.{MaySnap, Step}
use Rattle.session_state.specs.declared.places.Place.TheVariants.{Lost}
use Rattle.session_state.specs.declared.places.SessionRow.{SessionRow}
use Rattle.session_state.specs.declared.places.SessionTable.{SessionTable}
use Rattle.session_state.specs.Laws.{Submitting}
use Rattle.session_state.specs.Rows.{class_of}
use Rattle.session_state.specs.Telling.{Tells}
use Rattle.cluster_core.specs.Ledgers.{Account, IsStarted, executed, joined, queued, replied, settles, snapped, submitted, used}
use Rattle.cluster_model.specs.declared.traces.Origin.{Origin}

-- the account's sessions and the commits that wait
abbrev pub table_of : Account → SessionTable
table_of a = record { sessions = a.sessions; undoing = a.undoing; queue = record { items = a.queue; spare = 0 } }

-- the account tells where the sessions of a machine stand, and how many commits there are
pub record IsTold (language : Language) (m : Machine) (a : Account) : Type 0 where
  pub table : Tells language m (table_of a)
  pub published : a.published ≡ m.count

-- the start
abbrev pub StartIsTold : Language → Type 0
StartIsTold language =
    (nodes first : ℕ) (base : Database) (a : Account) → IsStarted first a → IsTold language (start nodes base first) a

-- each entry is a step of the machine, and the account tells of the machine after it
abbrev pub JoinIsTold : Language → Type 0
JoinIsTold language =
    (m : Machine) (a : Account) (name : List ℕ) (n : ℕ) → IsTold language m a
    → Step language m (entry.Join m.joined name n) (move.joined m m.joined n)
    × IsTold language (move.joined m m.joined n) (joined name n a)

abbrev pub SubmitIsTold : Language → Type 0
SubmitIsTold language =
    (m : Machine) (a : Account) (s : ℕ) (row : SessionRow) (text : List ℕ) (read : Result Stmt ℕ) → IsTold language m a
    → Submitting language m (table_of a) s row text read → m.up row.node ≡ true → row.place ≢ Lost
    → Step language m (entry.Submit s text) (move.submitted m s read)
    × IsTold language (move.submitted m s read) (submitted s text (class_of (result_ok read)) a)

-- the stamp of a snapshot is the number of commits that are published
abbrev pub SnapIsTold : Language → Type 0
SnapIsTold language =
    (m : Machine) (a : Account) (s : ℕ) → IsTold language m a → MaySnap m s
    → Step language m (entry.Snap s) (move.snapped m s) × IsTold language (move.snapped m s) (snapped s a.published a)

abbrev pub ExecIsTold : Language → Type 0
ExecIsTold language =
    (m new : Machine) (a : Account) (s : ℕ) → IsTold language m a → Step language m (entry.Exec s) new
    → IsTold language new (executed s a)

abbrev pub EnqueueIsTold : Language → Type 0
EnqueueIsTold language =
    (m new : Machine) (a : Account) (s end : ℕ) → IsTold language m a → Step language m (entry.Enqueue s) new
    → IsTold language new (queued s end a)

abbrev pub SettleIsTold : Language → Type 0
SettleIsTold language =
    (m new : Machine) (a : Account) → IsTold language m a → Step language m entry.Settle new → IsTold language new (settles a)

abbrev pub ReplyIsTold : Language → Type 0
ReplyIsTold language =
    (m new : Machine) (a : Account) (s : ℕ) (r : SqlReply) → IsTold language m a → Step language m (entry.Reply s r) new
    → IsTold language new (replied s r a)

-- a use is no entry, and leaves what is told
abbrev pub UseIsTold : Language → Type 0
UseIsTold language =
    (m : Machine) (a : Account) (s page lsn : ℕ) (origin : Origin) → IsTold language m a → IsTold language m (used s page lsn origin a)
