-- For the proofs: what holds of every state of the table machine, whatever stands below it.
use Rattle.std.specs.Prelude.{◌≡◌, ◌≢◌, ℕ, ◌≤◌, true, Option, Some, None, Ok, List, []}
use Rattle.sql_statements.specs.declared.statements.Stmt.{Stmt}
use Rattle.sql_database.specs.Database.{Database}
use Rattle.sql_database.specs.Fitting.{IsProper}
use Rattle.sql_database.specs.declared.changes.Change.{Change}
use Rattle.table_machine.specs.Machine.{Machine, Session, Statement, Transaction, is_some_of, last, pending_of}
use Rattle.version_store.specs.Contents.{Content}
use Rattle.history.specs.Databases.{StandsFor}
use Rattle.history.specs.Fitting.{FitsAll, FitsTimeline}
use Rattle.history.specs.Places.{is_said, says}
use Rattle.history.specs.Timelines.{content_at, latest, timeline_of}

-- a statement that was read makes no table under the catalog's name
abbrev pub ReadsProper : Session → Type 0
ReadsProper x = (a : Statement) (st : Stmt) → x.statement ≡ Some a → a.read ≡ Ok st → IsProper st

-- by the machine's parts
pub record FairParts (was : Content) (base : Database) (first count end : ℕ) (changes : ℕ → List Change)
    (joined : ℕ) (writer : Option ℕ) (sessions : ℕ → Session) : Type 0 where
  pub base_is : StandsFor was base
  pub low : first ≤ count
  pub high : count ≤ end
  pub snaps : (s : ℕ) (t : Transaction) → (sessions s).transaction ≡ Some t
      → (first ≤ t.snap) × (t.snap ≤ count)
  pub outside : (s : ℕ) → joined ≤ s → ((sessions s).transaction ≡ None) × ((sessions s).statement ≡ None)
  -- two open transactions share no place
  pub alone : (s u : ℕ) (a k : List ℕ) → is_said (says (pending_of (sessions s)) a k) ≡ true
      → is_said (says (pending_of (sessions u)) a k) ≡ true → s ≡ u
  -- no commit past its snapshot has a place of an open transaction
  pub late : (s : ℕ) (t : Transaction) (a k : List ℕ) → (sessions s).transaction ≡ Some t
      → is_said (says t.pending a k) ≡ true → latest (timeline_of was first changes) end a k ≤ t.snap
  pub line : FitsTimeline (timeline_of was first changes) end
  pub own : (s : ℕ) (t : Transaction) → (sessions s).transaction ≡ Some t
      → FitsAll (content_at (timeline_of was first changes) t.snap) t.pending
  pub proper : (s : ℕ) → ReadsProper (sessions s)
  pub writes : (s : ℕ) → pending_of (sessions s) ≢ [] → is_some_of writer (sessions s).node ≡ true

abbrev pub IsFair : Content → Machine → Type 0
IsFair was m = FairParts was m.base m.first m.count (last m) m.changes m.joined m.writer m.sessions
