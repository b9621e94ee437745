-- Stated: lines of one session: what each is told and makes of the tables, and entries that answer each before the next.
use Rattle.std.specs.Prelude.{◌≡◌, ◌≢◌, ◌≤◌, ◌⊎◌, ℕ, true, false, List, [], ◌∷◌, ◌++◌, Option, Some, None, Result, Ok, Err, option_map, unwrap_or, flat_map}
use Rattle.std.specs.List.{AllByRecursion}
use Rattle.std.specs.Option.{option_map_or}
use Rattle.sql_statements.specs.declared.statements.Stmt.{Stmt}
use Rattle.sql_statements.specs.declared.statements.Stmt.TheVariants as stmt
use Rattle.sql_database.specs.declared.changes.Change.{Change}
use Rattle.sql_database.specs.declared.replies.SqlReply.{SqlReply}
use Rattle.sql_database.specs.declared.replies.SqlReply.TheVariants as reply
use Rattle.sql_database.specs.Answers.{Answer, changes_of, reply_to}
use Rattle.sql_database.specs.Database.{Database}
use Rattle.sql_database.specs.Applied.{applied}
use Rattle.table_machine.specs.declared.entries.Entry.{Entry}
use Rattle.table_machine.specs.declared.entries.Entry.TheVariants as entry
use Rattle.table_machine.specs.Language.{Language}
use Rattle.table_machine.specs.Machine.{Machine, Session, Transaction, committed, start}
use Rattle.table_machine.specs.Runs.{AnswersLine, IsSerial, Leads}
use Rattle.table_machine.specs.Steps.{Step}

-- the tables with all commits, and the changes of the transaction that a BEGIN opened
pub record TableState : Type 0 where
  pub kept : Database
  pub own : Option (List Change)

-- tables, and no transaction
abbrev pub at_rest : Database → TableState
at_rest d = record { kept = d; own = None }

-- what a statement sees
abbrev pub seen : TableState → Database
seen t = applied t.kept (unwrap_or t.own [])

-- a statement's changes join those of the open transaction, or are kept at once
abbrev pub with_changes : TableState → List Change → TableState
with_changes t cs = option_map_or (λ own. record t { own = Some (own ++ cs) }) t.own (at_rest (applied t.kept cs))

-- BEGIN opens a transaction, where none is open
abbrev pub Opens : TableState → SqlReply → TableState → Type 0
Opens old r new =
    ((old.own ≡ None) × (r ≡ reply.Ok 0) × (new ≡ record old { own = Some [] }))
    ⊎ ((old.own ≢ None) × (r ≡ reply.InTransaction) × (new ≡ old))

-- COMMIT keeps the open transaction's changes
abbrev pub Keeps : TableState → SqlReply → TableState → Type 0
Keeps old r new =
    ((cs : List Change) × (old.own ≡ Some cs) × (r ≡ reply.Ok 0) × (new ≡ at_rest (applied old.kept cs)))
    ⊎ ((old.own ≡ None) × (r ≡ reply.NoTransaction) × (new ≡ old))

-- ROLLBACK gives the open transaction's changes back
abbrev pub GivesBack : TableState → SqlReply → TableState → Type 0
GivesBack old r new =
    ((old.own ≢ None) × (r ≡ reply.Ok 0) × (new ≡ at_rest old.kept))
    ⊎ ((old.own ≡ None) × (r ≡ reply.NoTransaction) × (new ≡ old))

-- Any other statement has an answer over what it sees. It is told the answer and its changes are made; or there is
-- no room for them in a store that is full, and the open transaction goes with them.
abbrev pub Evaluates : Language → Stmt → TableState → SqlReply → TableState → Type 0
Evaluates language st old r new =
    (a : Answer) × language.answers (seen old) st a
    × (((r ≡ reply_to a) × (new ≡ with_changes old (changes_of a)))
    ⊎ ((r ≡ reply.SpaceFull) × (changes_of a ≢ []) × language.full old.kept × (new ≡ at_rest old.kept)))

-- what a line that is read so is told, and what it makes of the tables
abbrev pub Turn : Language → Result Stmt ℕ → TableState → SqlReply → TableState → Type 0
Turn language (Err at) old r new = (r ≡ reply.Syntax at) × (new ≡ old)
Turn language (Ok stmt.Begin) old r new = Opens old r new
Turn language (Ok stmt.Commit) old r new = Keeps old r new
Turn language (Ok stmt.Rollback) old r new = GivesBack old r new
Turn language (Ok (stmt.Create s)) old r new = Evaluates language (stmt.Create s) old r new
Turn language (Ok (stmt.Insert t names rows)) old r new = Evaluates language (stmt.Insert t names rows) old r new
Turn language (Ok (stmt.Update t sets test)) old r new = Evaluates language (stmt.Update t sets test) old r new
Turn language (Ok (stmt.Delete t test)) old r new = Evaluates language (stmt.Delete t test) old r new
Turn language (Ok (stmt.Select q)) old r new = Evaluates language (stmt.Select q) old r new

-- one line after the other, and what each is told
abbrev pub Turns : Language → TableState → List (List ℕ) → List SqlReply → TableState → Type 0
Turns language old [] rs new = (rs ≡ []) × (new ≡ old)
Turns language old (line ∷ lines) rs new =
    (read : Result Stmt ℕ) × (r : SqlReply) × (between : TableState) × (more : List SqlReply)
    × language.parses line read × Turn language read old r between × Turns language between lines more new × (rs ≡ r ∷ more)

-- the transaction that a BEGIN opened, which sees the commits up to a number
abbrev pub begun_at : ℕ → List Change → Transaction
begun_at n cs = record { snap = n; pending = cs; lasting = true }

-- a session between two lines
abbrev pub between_lines : ℕ → Option (List Change) → Session
between_lines n own = record { node = 0; lost = false; transaction = option_map (begun_at n) own; statement = None }

-- Between two lines of one session, which is alone, on a node that is up and takes the writes: no commit waits, the
-- commits make these tables, and a transaction that is open sees them all.
pub record IsServing (m : Machine) (t : TableState) : Type 0 where
  pub up : m.up 0 ≡ true
  pub writer : m.writer ≡ Some 0
  pub alone : m.joined ≡ 1
  pub none_waits : m.waiting ≡ 0
  pub first : m.first ≤ m.count
  pub tables : committed m m.count ≡ t.kept
  pub session : m.sessions 0 ≡ between_lines m.count t.own

-- by these entries a session's statement goes on
abbrev pub IsWork : ℕ → Entry → Type 0
IsWork s (entry.Snap t) = t ≡ s
IsWork s (entry.Exec t) = t ≡ s
IsWork s (entry.Enqueue t) = t ≡ s
IsWork s entry.Settle = Unit {0}
IsWork s e = ⊥

-- one line of a session: its Submit, entries by which its statement goes on, and its reply
pub record AnswersInTurn (language : Language) (s : ℕ) (m : Machine) (line : List ℕ) (es : List Entry) (r : SqlReply) (new : Machine) : Type 0 where
  pub asked : Machine
  pub submits : Step language m (entry.Submit s line) asked
  pub made : Machine
  pub work : List Entry
  pub goes_on : AllByRecursion (IsWork s) work
  pub leads : Leads language asked work made
  pub replies : Step language made (entry.Reply s r) new
  pub all : es ≡ entry.Submit s line ∷ (work ++ entry.Reply s r ∷ [])

-- the lines of one session, each answered before the next
abbrev pub ServesInTurn : Language → ℕ → Machine → List (List ℕ) → List Entry → Machine → Type 0
ServesInTurn language s m [] es new = (es ≡ []) × (new ≡ m)
ServesInTurn language s m (line ∷ lines) es new =
    (between : Machine) × (front : List Entry) × (r : SqlReply) × (rest : List Entry)
    × AnswersInTurn language s m line front r between × ServesInTurn language s between lines rest new × (es ≡ front ++ rest)

-- the lines of one session, which joins first, each answered before the next
abbrev pub IsInTurn : Language → ℕ → Database → ℕ → List ℕ → List (List ℕ) → List Entry → Type 0
IsInTurn language nodes base first name lines es =
    (ready : Machine) × (new : Machine) × (rest : List Entry)
    × Step language (start nodes base first) (entry.Join 0 name 0) ready × ServesInTurn language 0 ready lines rest new
    × (es ≡ entry.Join 0 name 0 ∷ rest)

abbrev pub reply_in : Entry → List SqlReply
reply_in (entry.Reply s r) = r ∷ []
reply_in e = []

-- the replies among entries
abbrev pub replies_in : List Entry → List SqlReply
replies_in es = flat_map reply_in es

-- no reply says that there is no room
abbrev pub HaveRoom : List SqlReply → Type 0
HaveRoom rs = AllByRecursion (λ r. r ≢ reply.SpaceFull) rs

-- The lines are answered in turn with these replies; where each has room, by every entry that may stand.
pub record AreAnswered (language : Language) (nodes : ℕ) (base : Database) (first : ℕ) (name : List ℕ) (lines : List (List ℕ)) (rs : List SqlReply) (es : List Entry) : Type 0 where
  pub in_turn : IsInTurn language nodes base first name lines es
  pub told : replies_in es ≡ rs
  pub serial : HaveRoom rs → IsSerial language nodes base first name lines es

-- the line is answered in turn, and after it these tables are served
pub record IsAnswered (language : Language) (m : Machine) (line : List ℕ) (r : SqlReply) (t : TableState) : Type 0 where
  pub entries : List Entry
  pub next : Machine
  pub in_turn : AnswersInTurn language 0 m line entries r next
  pub serves : IsServing next t
  pub exact : r ≢ reply.SpaceFull → AnswersLine language 0 m line entries next
