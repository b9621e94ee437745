-- Stated: what becomes of a table that tells of a machine, entry by entry, and what may be read off it.
use Rattle.std.specs.Prelude.{◌≡◌, ◌≢◌, ◌+◌, ℕ, Bool, true, false, ◌&&◌, nat_eq, is_some, List, [], ◌∷◌, ◌++◌, filter, fold, map, slice_get, Some, None, Result}
use Rattle.std.specs.Option.{option_map_or}
use Rattle.std.specs.Result.{result_ok}
use Rattle.sql_statements.specs.declared.statements.Stmt.{Stmt}
use Rattle.sql_database.specs.declared.replies.SqlReply.{SqlReply}
use Rattle.sql_database.specs.declared.replies.SqlReply.TheVariants as reply
use Rattle.sql_database.specs.Database.{Database}
use Rattle.table_machine.specs.declared.entries.Entry.{Entry}
use Rattle.table_machine.specs.declared.entries.Entry.TheVariants as entry
use Rattle.table_machine.specs.Language.{Language}
use Rattle.table_machine.specs.Machine.{Machine, NoneForced, last, start}
use Rattle.table_machine.specs.Moves as move
use Rattle.table_machine.specs.Runs.{Leads}
use Rattle.table_machine.specs.Steps.{MaySnap, Step, is_busy_on, sessions_with}
use Rattle.session_state.specs.declared.places.Place.TheVariants.{Lost}
use Rattle.session_state.specs.declared.places.SessionRow.{SessionRow}
use Rattle.session_state.specs.declared.places.SessionTable.{SessionTable}
use Rattle.session_state.specs.declared.queue.Queued.{Queued}
use Rattle.session_state.specs.Rows.{class_of, counted, enqueued, fallen, given_up, idle_on, is_asking, is_busy, places_from, replied, snapped, submitted, told_lost, updated}
use Rattle.session_state.specs.Telling.{Tells}
use Rattle.session_state.specs.Waiting.{disowned, moved}

abbrev pub with_rows : SessionTable → List SessionRow → SessionTable
with_rows table rows = record table { sessions = rows }

-- one row moves
abbrev pub with_row : SessionTable → ℕ → (SessionRow → SessionRow) → SessionTable
with_row table s f = with_rows table (updated table.sessions s f)

abbrev pub with_queue : SessionTable → List Queued → SessionTable
with_queue table items = record table { queue = record (table.queue) { items = items } }

-- what the queue is after its first item
abbrev pub rest : List Queued → List Queued
rest [] = []
rest (item ∷ items) = items

-- ---- what is read off

-- the start, before a session joins
abbrev pub StartTells : Language → Type 0
StartTells language =
    (nodes first : ℕ) (base : Database) (table : SessionTable)
    → table.sessions ≡ [] → table.queue.items ≡ [] → Tells language (start nodes base first) table

-- no reply is forced
abbrev pub TellsNoneForced : Language → Type 0
TellsNoneForced language = (m : Machine) (table : SessionTable) → Tells language m table → NoneForced m

-- which sessions a node's fall stops, and which are unanswered at the end
abbrev pub TellsBusy : Language → Type 0
TellsBusy language =
    (m : Machine) (table : SessionTable) (n : ℕ) → Tells language m table
    → places_from (λ row. nat_eq row.node n && is_busy row) 0 table.sessions ≡ sessions_with (is_busy_on n) m

abbrev pub TellsAsking : Language → Type 0
TellsAsking language =
    (m : Machine) (table : SessionTable) → Tells language m table
    → places_from is_asking 0 table.sessions ≡ sessions_with (λ x. is_some x.statement) m

-- ---- what entries make of it

abbrev pub JoinTells : Language → Type 0
JoinTells language =
    (m : Machine) (table : SessionTable) (name : List ℕ) (n : ℕ) → Tells language m table
    → Step language m (entry.Join m.joined name n) (move.joined m m.joined n)
    × Tells language (move.joined m m.joined n) (with_rows table (table.sessions ++ idle_on n ∷ []))

-- a statement that a session hands in, which has none and lost no transaction, on a node that is up
pub record Submitting (language : Language) (m : Machine) (table : SessionTable) (s : ℕ) (row : SessionRow)
    (text : List ℕ) (read : Result Stmt ℕ) : Type 0 where
  pub tells : Tells language m table
  pub there : slice_get table.sessions s ≡ Some row
  pub free : row.asked ≡ None
  pub parses : language.parses text read

abbrev pub SubmitTells : Language → Type 0
SubmitTells language =
    (m : Machine) (table : SessionTable) (s : ℕ) (row : SessionRow) (text : List ℕ) (read : Result Stmt ℕ) (turn uses : ℕ)
    → Submitting language m table s row text read → m.up row.node ≡ true → row.place ≢ Lost
    → Step language m (entry.Submit s text) (move.submitted m s read)
    × Tells language (move.submitted m s read) (with_row table s (submitted text (class_of (result_ok read)) turn uses))

-- the same where its node is down
abbrev pub RefusalTells : Language → Type 0
RefusalTells language =
    (m : Machine) (table : SessionTable) (s : ℕ) (row : SessionRow) (text : List ℕ) (read : Result Stmt ℕ)
    → Submitting language m table s row text read → m.up row.node ≡ false
    → (new : Machine) × Leads language m (entry.Submit s text ∷ (entry.Reply s reply.Unavailable ∷ [])) new
    × Tells language new (with_row table s counted)

-- the same where it lost a transaction
abbrev pub LostTells : Language → Type 0
LostTells language =
    (m : Machine) (table : SessionTable) (s : ℕ) (row : SessionRow) (text : List ℕ) (read : Result Stmt ℕ)
    → Submitting language m table s row text read → m.up row.node ≡ true → row.place ≡ Lost
    → (new : Machine) × Leads language m (entry.Submit s text ∷ (entry.Reply s reply.Lost ∷ [])) new
    × Tells language new (with_row table s told_lost)

-- a snapshot, of all commits that there are
abbrev pub SnapTells : Language → Type 0
SnapTells language =
    (m : Machine) (table : SessionTable) (s : ℕ) → Tells language m table → MaySnap m s
    → Step language m (entry.Snap s) (move.snapped m s)
    × Tells language (move.snapped m s) (with_row table s (snapped m.count))

-- an evaluation moves nothing that the table tells
abbrev pub ExecTells : Language → Type 0
ExecTells language =
    (m new : Machine) (table : SessionTable) (s : ℕ) → Tells language m table → Step language m (entry.Exec s) new
    → Tells language new table

abbrev pub EnqueueTells : Language → Type 0
EnqueueTells language =
    (m new : Machine) (table : SessionTable) (s end : ℕ) → Tells language m table → Step language m (entry.Enqueue s) new
    → Tells language new
    (with_queue (with_row table s enqueued) (table.queue.items ++ (record { owner = Some s; stamp = last m + 1; end = end }) ∷ []))

abbrev pub SettleTells : Language → Type 0
SettleTells language =
    (m new : Machine) (table : SessionTable) → Tells language m table → Step language m entry.Settle new
    → Tells language new (with_queue table (rest table.queue.items))

-- a reply that is not forced
abbrev pub ReplyTells : Language → Type 0
ReplyTells language =
    (m new : Machine) (table : SessionTable) (s : ℕ) (r : SqlReply) → Tells language m table → Step language m (entry.Reply s r) new
    → Tells language new (moved table s (replied r))

-- a statement that is given up is answered at once
abbrev pub TimerTells : Language → Type 0
TimerTells language =
    (m : Machine) (table : SessionTable) (s : ℕ) (row : SessionRow) → Tells language m table
    → slice_get table.sessions s ≡ Some row → is_asking row ≡ true → m.up row.node ≡ true
    → (new : Machine) × Leads language m (entry.Timer s ∷ (entry.Reply s reply.Unavailable ∷ [])) new
    × Tells language new (with_queue (moved table s given_up) (disowned s table.queue.items))

-- entries of nodes and of the script alone
abbrev pub IsOfNodes : Entry → Type 0
IsOfNodes (entry.Up n) = Unit {0}
IsOfNodes (entry.Opened n) = Unit {0}
IsOfNodes (entry.Ignored line) = Unit {0}
IsOfNodes (entry.Missed line) = Unit {0}
IsOfNodes (entry.End ss) = Unit {0}
IsOfNodes _ = ⊥

abbrev pub NodesTell : Language → Type 0
NodesTell language =
    (m new : Machine) (table : SessionTable) (e : Entry) → Tells language m table → IsOfNodes e → Step language m e new
    → Tells language new table

abbrev pub ForgetTells : Language → Type 0
ForgetTells language =
    (m new : Machine) (table : SessionTable) (k : ℕ) → Tells language m table → Step language m (entry.Forget k) new
    → Tells language new (with_queue table [])

-- a session's node falls
abbrev pub fell : SessionTable → ℕ → SessionTable
fell table s = with_queue (with_row table s fallen) (disowned s table.queue.items)

abbrev pub all_fell : SessionTable → List ℕ → SessionTable
all_fell table ss = fold fell table ss

-- whether the session at a place has a statement
abbrev pub is_asking_at : List SessionRow → ℕ → Bool
is_asking_at rows s = option_map_or is_asking (slice_get rows s) false

-- those that have a statement are told at once that it is given up
abbrev pub refusals : List SessionRow → List ℕ → List Entry
refusals rows ss = map (λ s. entry.Reply s reply.Unavailable) (filter (is_asking_at rows) ss)

-- a node that falls stops the sessions that have a statement or a transaction there
abbrev pub FallTells : Language → Type 0
FallTells language =
    (m : Machine) (table : SessionTable) (n : ℕ) (ss : List ℕ) → Tells language m table → m.up n ≡ true
    → ss ≡ places_from (λ row. nat_eq row.node n && is_busy row) 0 table.sessions
    → (new : Machine) × Leads language m (entry.Down n ss ∷ refusals table.sessions ss) new × Tells language new (all_fell table ss)
