-- Stated: laws of the table machine.
use Rattle.std.specs.Prelude.{◌≡◌, ◌≢◌, ◌≤◌, ◌<◌, ◌+◌, ◌⊎◌, ℕ, nat_lt, true, false, List, [], ◌∷◌, ◌++◌, Some, Ok, Result}
use Rattle.std.specs.List.{AllByRecursion}
use Rattle.sql_values.specs.declared.schemas.Schema.{Schema}
use Rattle.sql_statements.specs.declared.statements.Stmt.{Stmt}
use Rattle.sql_statements.specs.declared.statements.Stmt.TheVariants as stmt
use Rattle.sql_database.specs.declared.changes.Change.{Change}
use Rattle.sql_database.specs.declared.replies.SqlReply.{SqlReply}
use Rattle.sql_database.specs.declared.replies.SqlReply.TheVariants as reply
use Rattle.sql_database.specs.Answers.{Answer, reply_to}
use Rattle.sql_database.specs.Database.{Database}
use Rattle.sql_database.specs.Applied.{applied}
use Rattle.sql_database.specs.Catalog.{schema_of, schema_row}
use Rattle.table_machine.specs.declared.entries.Entry.{Entry}
use Rattle.table_machine.specs.declared.entries.Entry.TheVariants as entry
use Rattle.table_machine.specs.Conflicts.{has_key, is_conflict}
use Rattle.table_machine.specs.Language.{Language}
use Rattle.table_machine.specs.Machine.{Machine, Session, Transaction, commit_of, committed, due_of, is_lasting, is_stopped, last, pending_of, running, settled, start, wrote}
use Rattle.sql_database.specs.Replies.{is_giving_up}
use Rattle.table_machine.specs.Runs.{IsRun, IsSerial, Leads, MakesDatabase, Serves}
use Rattle.table_machine.specs.Serving.{AreAnswered, IsAnswered, IsInTurn, IsServing, TableState, Turn, Turns, at_rest}
use Rattle.sql_database.specs.Statements.{is_commit, is_write}
use Rattle.table_machine.specs.Steps.{Step}

-- the front of a run is a run
abbrev pub FrontsAreRuns : Language → Type 0
FrontsAreRuns language =
    (nodes : ℕ) (base : Database) (first : ℕ) (es fs : List Entry)
    → IsRun language nodes base first (es ++ fs) → IsRun language nodes base first es

-- entries that lead on from where others lead to stand behind them
abbrev pub RunsGoOn : Language → Type 0
RunsGoOn language =
    (es fs : List Entry) (old between new : Machine)
    → Leads language old es between → Leads language between fs new → Leads language old (es ++ fs) new

-- Each commit that stood stands: no number is taken back, its changes are the same, and so is the database with
-- the commits up to it.
pub record KeepsCommits (old new : Machine) : Type 0 where
  pub base : new.base ≡ old.base
  pub first : new.first ≡ old.first
  pub count : old.count ≤ new.count
  pub changes : (n : ℕ) → n ≤ old.count → new.changes n ≡ old.changes n
  pub databases : (n : ℕ) → n ≤ old.count → committed new n ≡ committed old n

abbrev pub CommitsStay : Language → Type 0
CommitsStay language = (es : List Entry) (old new : Machine) → Leads language old es new → KeepsCommits old new

-- a session's Enqueue gives the next number in the queue its transaction's changes
abbrev pub QueuesOwnChanges : Language → Type 0
QueuesOwnChanges language =
    (s : ℕ) (old new : Machine)
    → Step language old (entry.Enqueue s) new → (last new ≡ last old + 1) × (new.changes (last new) ≡ pending_of (old.sessions s))

-- no entry changes the changes of what waits
abbrev pub WaitingStays : Language → Type 0
WaitingStays language =
    (e : Entry) (old new : Machine) → Step language old e new → (n : ℕ) → n ≤ last old → new.changes n ≡ old.changes n

-- a Settle makes the changes of the first in the queue the last commit
abbrev pub SettlesChanges : Language → Type 0
SettlesChanges language =
    (old new : Machine) → old.first ≤ old.count
    → Step language old entry.Settle new → committed new new.count ≡ applied (committed old old.count) (old.changes (old.count + 1))

-- an entry leads from a state to one state
abbrev pub StepsAreDetermined : Language → Type 0
StepsAreDetermined language =
    (e : Entry) (old a b : Machine) → Step language old e a → Step language old e b → a ≡ b

-- entries lead from a state to one state
abbrev pub RunsAreDetermined : Language → Type 0
RunsAreDetermined language =
    (es : List Entry) (old a b : Machine) → Leads language old es a → Leads language old es b → a ≡ b

-- lines that are answered one after the other are a run
abbrev pub ServingIsARun : Language → Type 0
ServingIsARun language =
    (s : ℕ) (lines : List (List ℕ)) (es : List Entry) (old new : Machine)
    → Serves language s old lines es new → Leads language old es new

-- more lines go on where the first lines led to
abbrev pub ServingGoesOn : Language → Type 0
ServingGoesOn language =
    (s : ℕ) (lines more : List (List ℕ)) (es fs : List Entry) (old between new : Machine)
    → Serves language s old lines es between → Serves language s between more fs new → Serves language s old (lines ++ more) (es ++ fs) new

-- COMMIT, or a write of its own that changed something
abbrev pub EndsInCommit : Session → Stmt → Type 0
EndsInCommit x st = (is_commit st ≡ true) ⊎ ((is_write st ≡ true) × (wrote x ≢ []))

-- Outside of what a BEGIN opened, such a statement is told Ok only where its commit is made.
abbrev pub OkIsCommitted : Language → Type 0
OkIsCommitted language =
    (s n : ℕ) (st : Stmt) (old new : Machine)
    → Step language old (entry.Reply s (reply.Ok n)) new → running (old.sessions s) ≡ Some st
    → is_lasting (old.sessions s) ≡ false → EndsInCommit (old.sessions s) st → commit_of (old.sessions s) ≡ settled

-- a session that joins may begin a transaction
abbrev pub BeginIsARun : Language → Type 0
BeginIsARun language =
    (base : Database) (first : ℕ) (name text : List ℕ) → language.parses text (Ok stmt.Begin)
    → IsRun language 2 base first (entry.Join 0 name 0 ∷ (entry.Submit 0 text ∷ (entry.Snap 0 ∷ (entry.Reply 0 (reply.Ok 0) ∷ []))))

-- the first session is served the base once it has joined
abbrev pub JoinServes : Language → Type 0
JoinServes language =
    (nodes : ℕ) (base : Database) (first : ℕ) (name : List ℕ) → 0 < nodes
    → (ready : Machine) × Step language (start nodes base first) (entry.Join 0 name 0) ready × IsServing ready (at_rest base)

-- a line that makes a turn is answered in turn with the turn's reply alone, and the turn's tables are served after it
abbrev pub TurnsAreAnswered : Language → Type 0
TurnsAreAnswered language =
    (m : Machine) (old new : TableState) (line : List ℕ) (read : Result Stmt ℕ) (r : SqlReply)
    → IsServing m old → language.parses line read → Turn language read old r new → IsAnswered language m line r new

-- lines that make turns one after the other are answered in turn, and the commits make the tables that the turns keep
abbrev pub LinesAreAnswered : Language → Type 0
LinesAreAnswered language =
    (nodes : ℕ) (base : Database) (first : ℕ) (name : List ℕ) (lines : List (List ℕ)) (rs : List SqlReply) (new : TableState)
    → 0 < nodes → Turns language (at_rest base) lines rs new
    → (es : List Entry) × AreAnswered language nodes base first name lines rs es × MakesDatabase language nodes base first es new.kept

-- lines that are answered in turn are a run
abbrev pub InTurnIsARun : Language → Type 0
InTurnIsARun language =
    (nodes : ℕ) (base : Database) (first : ℕ) (name : List ℕ) (lines : List (List ℕ)) (es : List Entry)
    → IsInTurn language nodes base first name lines es → IsRun language nodes base first es

-- more turns go on where the first led to
abbrev pub TurnsGoOn : Language → Type 0
TurnsGoOn language =
    (lines more : List (List ℕ)) (rs ss : List SqlReply) (old between new : TableState)
    → Turns language old lines rs between → Turns language between more ss new → Turns language old (lines ++ more) (rs ++ ss) new

-- one session that is alone and sees all commits has no conflicts
abbrev pub AloneHasNoConflict : Type 0
AloneHasNoConflict = (m : Machine) (t : Transaction) (c : Change) → m.joined ≡ 1 → t.snap ≡ last m → is_conflict m 0 t c ≡ false

-- no answer over a database takes a transaction along, so none says that there is a conflict or no room
abbrev pub AnswersGoOn : Language → Type 0
AnswersGoOn language = (d : Database) (st : Stmt) (a : Answer) → language.answers d st a → is_giving_up (reply_to a) ≡ false

-- the entry is no reply that there is no room, or no number
abbrev pub IsNotFull : Entry → Type 0
IsNotFull (entry.Reply s r) = (r ≢ reply.SpaceFull) × (r ≢ reply.TrxFull)
IsNotFull e = Unit {0}

abbrev pub HasNoFull : List Entry → Type 0
HasNoFull es = AllByRecursion IsNotFull es

-- the lines of one session have one serial run, where no reply says that there is no room
abbrev pub OneSerial : Language → Type 0
OneSerial language =
    (nodes : ℕ) (base : Database) (first : ℕ) (name : List ℕ) (lines : List (List ℕ)) (es fs : List Entry)
    → nat_lt 0 nodes ≡ true → HasNoFull es → HasNoFull fs
    → IsSerial language nodes base first name lines es → IsSerial language nodes base first name lines fs → es ≡ fs

-- COMMIT is told Ok only where its transaction's commit is made, or had no changes
abbrev pub CommitIsMade : Language → Type 0
CommitIsMade language =
    (nodes : ℕ) (base : Database) (first : ℕ) (es : List Entry) (s n : ℕ) (old new : Machine)
    → Leads language (start nodes base first) es old → Step language old (entry.Reply s (reply.Ok n)) new
    → running (old.sessions s) ≡ Some stmt.Commit
    → (commit_of (old.sessions s) ≡ settled) ⊎ (pending_of (old.sessions s) ≡ [])

-- no change of the first has a key of the second
abbrev pub ShareNoKey : List Change → List Change → Type 0
ShareNoKey cs ds = AllByRecursion (λ c. has_key c ds ≡ false) cs

-- Two commits whose spans overlap share no key: what a transaction puts into the queue has no key of a commit, made
-- or in the queue, after its snapshot.
abbrev pub OverlapsShareNoKey : Language → Type 0
OverlapsShareNoKey language =
    (nodes : ℕ) (base : Database) (first : ℕ) (es : List Entry) (s : ℕ) (t : Transaction) (old new : Machine)
    → Leads language (start nodes base first) es old → Step language old (entry.Enqueue s) new
    → (old.sessions s).transaction ≡ Some t
    → (n : ℕ) → t.snap < n → n ≤ last old → ShareNoKey t.pending (old.changes n)

-- a forced reply may stand at any time
abbrev pub ForcedMayStand : Language → Type 0
ForcedMayStand language =
    (s : ℕ) (r : SqlReply) (old : Machine)
    → is_stopped (old.sessions s) ≡ true → due_of (old.sessions s) ≡ Some r
    → (new : Machine) × Step language old (entry.Reply s r) new
