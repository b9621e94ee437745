-- Stated: the events of a cluster, when each may happen, what it does, and which entries it writes.
use Rattle.std.specs.Prelude.{◌≡◌, ◌≢◌, ◌⊎◌, ℕ, ◌-◌, ◌<◌, ◌≤◌, true, false, Some, None, List, [], ◌∷◌, ◌++◌, bytes_eq, is_some}
use Rattle.sql_statements.specs.declared.statements.Stmt.{Stmt}
use Rattle.sql_database.specs.Answers.{Answer}
use Rattle.sql_database.specs.Database.{Database}
use Rattle.sql_database.specs.Statements.{is_write}
use Rattle.sql_database.specs.declared.changes.Change.{Change}
use Rattle.table_machine.specs.declared.entries.Entry.{Entry}
use Rattle.table_machine.specs.declared.entries.Entry.TheVariants as entry
use Rattle.table_machine.specs.Conflicts.{Evaluated}
use Rattle.table_machine.specs.Language.{Language}
use Rattle.table_machine.specs.Machine.{Machine, NoneForced, Transaction, due_of, is_open, running}
use Rattle.table_machine.specs.Moves.{enqueued, executed, forgotten, opened, settles}
use Rattle.table_machine.specs.Steps.{MayEnqueue, Step}
use Rattle.version_store.specs.Contents.{catalog_name}
use Rattle.version_store.specs.Stores.{UndoEntry, begun, catalog, changed, created, freed, put, split, stamped, undone}
use Rattle.version_store.specs.Versions.{seen_root}
use Rattle.history.specs.Clusters.{Cluster, Dead, Open, Taken, Work, ended, evaluated_by, grown, is_lost, is_taken, now, own, reads, works}
use Rattle.history.specs.Databases.{StandsFor}

-- Those with a number of their own are of that session, but for `appends`, which has an LSN, and the last four,
-- which have a node. The count of pages beside `writes`, `creates` and `splits` is the one up to which the same
-- group makes pages: for a change the undo page that it needs, if any.
pub data Event : Type 0 where
  table : Entry → Event  -- of the session table alone
  takes_up : ℕ → Event  -- a write is taken up
  judges : ℕ → Event  -- and its answer and its conflicts are found, some turns later
  begins : ℕ → Event
  writes : ℕ → ℕ → Event
  creates : ℕ → ℕ → Event
  splits : ℕ → ℕ → Event
  commits : ℕ → Event
  appends : ℕ → Event
  settle : Event
  undoes : ℕ → Event
  frees : ℕ → Event
  writer_falls : ℕ → List ℕ → Event  -- the open node, or one that takes over
  reader_falls : ℕ → List ℕ → Event
  tails : Event
  opens : ℕ → Event

-- how many of the queue a takeover commits: the numbers past the count up to the last stamp
abbrev pub kept_count : Cluster → ℕ
kept_count c = (now c).last - c.machine.count

abbrev pub entries : Event → Cluster → List Entry
entries (table e) c = e ∷ []
entries (takes_up s) c = entry.Exec s ∷ []
entries (commits s) c = entry.Enqueue s ∷ []
entries settle c = entry.Settle ∷ []
entries (writer_falls n ss) c = entry.Down n ss ∷ []
entries (reader_falls n ss) c = entry.Down n ss ∷ []
entries (opens n) c = entry.Forget (kept_count c) ∷ (entry.Opened n ∷ [])
entries _ c = []

-- ---- conditions

-- an entry that moves neither the commits nor what is pending, but for what is lost
abbrev pub MovesNoCommit : Machine → Entry → Type 0
MovesNoCommit m (entry.Join s name n) = Unit {0}
MovesNoCommit m (entry.Submit s text) = Unit {0}
MovesNoCommit m (entry.Snap s) = Unit {0}
MovesNoCommit m (entry.Exec s) = (st : Stmt) × (running (m.sessions s) ≡ Some st) × (is_write st ≡ false)
MovesNoCommit m (entry.Enqueue s) = ⊥
MovesNoCommit m entry.Settle = ⊥
MovesNoCommit m (entry.Forget k) = ⊥
MovesNoCommit m (entry.Reply s r) = Unit {0}
MovesNoCommit m (entry.Timer s) = Unit {0}
MovesNoCommit m (entry.Down n ss) = ⊥
MovesNoCommit m (entry.Up n) = Unit {0}
MovesNoCommit m (entry.Opened n) = ⊥
MovesNoCommit m (entry.Ignored line) = Unit {0}
MovesNoCommit m (entry.Missed line) = Unit {0}
MovesNoCommit m (entry.End ss) = Unit {0}

-- no write waits for its verdict
abbrev pub NoJob : Cluster → Type 0
NoJob c = (u : ℕ) → (c.work u).job ≡ false

-- a session whose write is not judged yet is left alone, or loses its transaction
abbrev pub LeavesJobs : Cluster → Machine → Type 0
LeavesJobs c m =
    (u : ℕ) → (c.work u).job ≡ true
    → (m.sessions u ≡ c.machine.sessions u) ⊎ (is_lost (c.machine.sessions u) (m.sessions u) ≡ true)

-- no statement's changes are under way, and none are to be undone
pub record IsReady (c : Cluster) : Type 0 where
  pub no_job : NoJob c
  pub open_mode : c.mode ≡ Open
  pub no_todo : (u : ℕ) → (c.work u).todo ≡ []
  pub no_undo : (u t : ℕ) → (now c).slot u ≡ Some t → (c.work u).ending ≡ false

-- a write on the open node, with the answer over a database that the session's reading stands for
pub record Evaluates (language : Language) (c : Cluster) (s : ℕ) (t : Transaction) (d : Database)
    (a : Answer) : Type 0 where
  pub statement : Stmt
  pub runs : running (c.machine.sessions s) ≡ Some statement
  pub kind : is_write statement ≡ true
  pub writer : is_open c.machine (c.machine.sessions s).node ≡ true
  pub has : (c.machine.sessions s).transaction ≡ Some t
  pub due : due_of (c.machine.sessions s) ≡ None
  pub reading : StandsFor (reads c s t.snap) d
  pub answers : language.answers d statement a

-- a change at the head of what is to be installed, in a transaction with a slot
pub record MayInstall (c : Cluster) (s : ℕ) (t : Transaction) (n : ℕ) (h : Change)
    (hs : List Change) : Type 0 where
  pub no_job : NoJob c
  pub others : (u : ℕ) → u ≢ s → (c.work u).todo ≡ []
  pub open_mode : c.mode ≡ Open
  pub has : (c.machine.sessions s).transaction ≡ Some t
  pub slot : (now c).slot s ≡ Some n
  pub stays : (c.work s).ending ≡ false
  pub todo : (c.work s).todo ≡ h ∷ hs

-- a transaction whose changes are all installed
pub record MayCommit (c : Cluster) (s n : ℕ) : Type 0 where
  pub no_job : NoJob c
  pub free : NoneForced c.machine
  pub may : MayEnqueue c.machine s
  pub open_mode : c.mode ≡ Open
  pub slot : (now c).slot s ≡ Some n
  pub stays : (c.work s).ending ≡ false
  pub todo : (c.work s).todo ≡ []

-- a slot that is to be undone, by the open node or one that takes over
pub record MayUndo (c : Cluster) (s n : ℕ) : Type 0 where
  pub quiet : NoJob c
  pub alive : c.mode ≢ Dead
  pub ending : (c.work s).ending ≡ true
  pub slot : (now c).slot s ≡ Some n

-- a node that takes over may open where the whole log is durable and every slot is free
pub record MayOpen (c : Cluster) (n : ℕ) : Type 0 where
  pub free : NoneForced c.machine
  pub taken : c.mode ≡ Taken
  pub whole : c.durable ≡ c.lsn
  pub undone : (u : ℕ) → (now c).slot u ≡ None
  pub up : c.machine.up n ≡ true

-- ---- what an event does

-- what comes of an answer at a session, by its own reading and test
abbrev pub verdict : Cluster → ℕ → Transaction → Database → Answer → Evaluated
verdict c s t d a = evaluated_by (is_taken (now c) t.snap (own c s)) d a

abbrev pub taken_up : Cluster → ℕ → Evaluated → Cluster
taken_up c s v = record c {
  machine = executed c.machine s v;
  work = put c.work s (record (c.work s) { todo = v.changes; job = true });
}

-- the change at the head of what is to be installed is installed
abbrev pub installs : Work → Change → List Change → Work
installs w h hs = record w { todo = hs; installed = w.installed ++ h ∷ [] }

abbrev pub crashed : Cluster → Machine → Cluster
crashed c m = record c { machine = m; mode = Dead; work = λ u. ended }

-- the log is cut where it is durable
abbrev pub cut : Cluster → Cluster
cut c = record c { lsn = c.durable; mode = Taken }

-- the numbers up to the last stamp are the commits, whether their sessions were told or not
abbrev pub opening : Cluster → ℕ → Cluster
opening c n = record c { machine = opened (forgotten c.machine (kept_count c)) n; mode = Open }

abbrev pub Happens : Language → Event → Cluster → Cluster → Type 0
Happens language (table e) c d =
    (m : Machine) × MovesNoCommit c.machine e × Step language c.machine e m × LeavesJobs c m
    × (d ≡ record c { machine = m; work = works c.machine.sessions m.sessions c.work })
Happens language (takes_up s) c d =
    (t : Transaction) × (db : Database) × (a : Answer)
    × NoneForced c.machine × IsReady c × Evaluates language c s t db a × (d ≡ taken_up c s (verdict c s t db a))
Happens language (judges s) c d = d ≡ record c { work = put c.work s (record (c.work s) { job = false }) }
Happens language (begins s) c d =
    NoJob c × (c.mode ≡ Open) × ((now c).slot s ≡ None) × (is_some (c.machine.sessions s).transaction ≡ true)
    × (d ≡ grown c (begun (now c) s) s (record (c.work s) { ending = false }) c.machine)
Happens language (writes s p) c d =
    (t : Transaction) × (n : ℕ) × (h : Change) × (hs : List Change)
    × MayInstall c s t n h hs × (bytes_eq h.table catalog_name ≡ false) × ((now c).pages ≤ p)
    × ((r : ℕ) × (seen_root ((now c).rows catalog h.table) (now c).stamp t.snap (own c s) ≡ Some r)
    × (d ≡ grown c (changed (split (now c) p) s n r h.key h.row) s (installs (c.work s) h hs) c.machine))
Happens language (creates s p) c d =
    (t : Transaction) × (n : ℕ) × (h : Change) × (hs : List Change)
    × MayInstall c s t n h hs × (bytes_eq h.table catalog_name ≡ true) × ((now c).pages ≤ p)
    × (d ≡ grown c (created (split (now c) p) s n h.key h.row) s (installs (c.work s) h hs) c.machine)
Happens language (splits s p) c d =
    NoJob c × (c.mode ≢ Dead) × ((now c).pages ≤ p) × (d ≡ grown c (split (now c) p) s (c.work s) c.machine)
Happens language (commits s) c d =
    (n : ℕ) × MayCommit c s n
    × (d ≡ grown c (stamped (now c) s n) s (record (c.work s) { installed = [] }) (enqueued c.machine s))
Happens language (appends e) c d = (c.durable ≤ e) × (e ≤ c.lsn) × (d ≡ record c { durable = e })
Happens language settle c d =
    NoneForced c.machine × (c.mode ≡ Open) × (c.machine.count < (c.at c.durable).last)
    × (d ≡ record c { machine = settles c.machine })
Happens language (undoes s) c d =
    (n : ℕ) × (u : UndoEntry) × (us : List UndoEntry) × MayUndo c s n × ((now c).undo s ≡ u ∷ us)
    × (d ≡ grown c (undone (now c) s u.root u.key us) s (c.work s) c.machine)
Happens language (frees s) c d =
    (n : ℕ) × MayUndo c s n × ((now c).undo s ≡ []) × (d ≡ grown c (freed (now c) s) s (c.work s) c.machine)
Happens language (writer_falls n ss) c d =
    (m : Machine) × Step language c.machine (entry.Down n ss) m
    × ((is_open c.machine n ≡ true) ⊎ (c.mode ≢ Open)) × (d ≡ crashed c m)
Happens language (reader_falls n ss) c d =
    (m : Machine) × Step language c.machine (entry.Down n ss) m × (is_open c.machine n ≡ false) × LeavesJobs c m
    × (d ≡ record c { machine = m; work = works c.machine.sessions m.sessions c.work })
Happens language tails c d = (c.mode ≢ Open) × (d ≡ cut c)
Happens language (opens n) c d = MayOpen c n × (d ≡ opening c n)

-- the events happen one after the other, and these are the entries that they write
abbrev pub AllHappen : Language → Cluster → List Event → List Entry → Cluster → Type 0
AllHappen language c [] es d = (es ≡ []) × (d ≡ c)
AllHappen language c (e ∷ more) es d =
    (mid : Cluster) × (rest : List Entry)
    × Happens language e c mid × (es ≡ entries e c ++ rest) × AllHappen language mid more rest d
