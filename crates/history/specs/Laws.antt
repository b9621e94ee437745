-- Stated: what the log stands for, after every list of events, crashes and takeovers included.
use Rattle.std.specs.Prelude.{◌≡◌, ◌≢◌, ◌↔◌, ℕ, suc, ◌+◌, ◌<◌, ◌≤◌, true, false, Some, None, Ok, List, [], ◌∷◌, if◌then◌else◌, bytes_eq, option_map}
use Rattle.sql_statements.specs.declared.statements.Stmt.{Stmt}
use Rattle.sql_database.specs.Answers.{Answer}
use Rattle.sql_database.specs.Database.{Database}
use Rattle.sql_database.specs.declared.changes.Change.{Change}
use Rattle.table_machine.specs.declared.entries.Entry.{Entry}
use Rattle.table_machine.specs.Conflicts.{is_conflict}
use Rattle.table_machine.specs.Language.{Language}
use Rattle.table_machine.specs.Machine as machine
use Rattle.table_machine.specs.Machine.{Machine, Transaction, committed, due_of, last, view}
use Rattle.table_machine.specs.Runs.{Leads}
use Rattle.version_store.specs.Contents.{Content, at_root, catalog_name, content}
use Rattle.version_store.specs.Stores.{Store, catalog}
use Rattle.version_store.specs.Versions.{Version, seen, seen_root}
use Rattle.history.specs.Clusters.{Cluster, Open, is_taken, now, own, reads, start}
use Rattle.history.specs.Databases.{StandsFor}
use Rattle.history.specs.Events.{AllHappen, Event, IsReady, MayOpen, kept_count, verdict}
use Rattle.history.specs.Invariant.{Refines}
use Rattle.history.specs.Machines.{IsFair}
use Rattle.history.specs.Sound.{Sound}
use Rattle.history.specs.Timelines.{timeline_of}

-- the log's content at the start stands for the base, at its last stamp, and nothing is open
pub record BootsFrom (was : Content) (base : Database) (first : ℕ) (S : Store) : Type 0 where
  pub base_is : StandsFor was base
  pub sound : Sound (timeline_of was first (λ n. [])) S
  pub last : S.last ≡ first
  pub free : (s : ℕ) → S.slot s ≡ None

-- ---- the log and the commits

-- the store after each group of the log has the content of each commit up to its last stamp, and what is
-- published is durable
pub record StandsForCommits (c : Cluster) : Type 0 where
  pub published : c.machine.count ≤ (c.at c.durable).last
  pub contents : (j i : ℕ) → j ≤ c.lsn → c.machine.first ≤ i → i ≤ (c.at j).last
      → StandsFor (content (c.at j) i None) (committed c.machine i)
  pub queue : (j : ℕ) → c.durable ≤ j → j ≤ c.lsn → (c.at j).last ≤ last c.machine
  pub whole : c.mode ≡ Open → (now c).last ≡ last c.machine

-- the group behind the first j of the log is the one that commits a number
abbrev pub CommitsAt : Cluster → ℕ → ℕ → Type 0
CommitsAt c i j = (suc (c.at j).last ≡ i) × ((c.at (suc j)).last ≡ i)

-- a number's group is among the first j of the log
abbrev pub IsWithin : Cluster → ℕ → ℕ → Type 0
IsWithin c i j = (g : ℕ) × (g < j) × CommitsAt c i g

-- each number past the first has its group, one alone, and they stand in the order of their numbers
pub record CommitsInOrder (c : Cluster) : Type 0 where
  pub has : (i j : ℕ) → c.machine.first < i → j ≤ c.lsn → i ≤ (c.at j).last → IsWithin c i j
  pub within : (i j : ℕ) → j ≤ c.lsn → IsWithin c i j → (c.machine.first < i) × (i ≤ (c.at j).last)
  pub one : (i j k : ℕ) → j < c.lsn → k < c.lsn → CommitsAt c i j → CommitsAt c i k → j ≡ k
  pub rises : (i j k l : ℕ) → j < c.lsn → l < c.lsn → CommitsAt c i j → CommitsAt c k l → i < k → j < l

-- a node that opens commits exactly those of the queue whose group is durable
abbrev pub ForgetKeepsDurable : Cluster → Type 0
ForgetKeepsDurable c =
    (n i : ℕ) → MayOpen c n → c.machine.count < i → i ≤ last c.machine
    → IsWithin c i c.durable ↔ (i ≤ c.machine.count + kept_count c)

-- ---- what is read

-- a session's reading of the store is its view of the table machine, while none of its changes wait to be
-- installed
abbrev pub ReadsAreViews : Cluster → Type 0
ReadsAreViews c =
    (s : ℕ) (t : Transaction) → (c.machine.sessions s).transaction ≡ Some t → (c.work s).todo ≡ []
    → StandsFor (reads c s t.snap) (view c.machine t)

-- A change's key is in the way of a write, by the newest version of its place, exactly where the machine says
-- that it is in conflict: of a table that is there, while nothing else is under way.
abbrev pub ConflictsAgree : Cluster → Type 0
ConflictsAgree c =
    (s : ℕ) (t : Transaction) (h : Change)
    → IsReady c → (c.machine.sessions s).transaction ≡ Some t
    → (bytes_eq h.table catalog_name ≡ false → reads c s t.snap catalog_name h.table ≢ None)
    → is_taken (now c) t.snap (own c s) h ≡ is_conflict c.machine s t h

-- A write's Exec stands in the journal when it is taken up; its answer and its conflicts are found some turns
-- later, and are then the same.
abbrev pub VerdictsStand : Language → Cluster → Type 0
VerdictsStand language c =
    (s : ℕ) (t : Transaction) (st : Stmt) (d : Database) (a : Answer)
    → (c.work s).job ≡ true → (c.machine.sessions s).transaction ≡ Some t
    → option_map (λ b. b.read) (c.machine.sessions s).statement ≡ Some (Ok st)
    → StandsFor (reads c s t.snap) d → language.answers d st a
    → ((c.work s).todo ≡ (verdict c s t d a).changes)
    × (due_of (c.machine.sessions s) ≡ Some (verdict c s t d a).reply)

abbrev pub AllStamped : (ℕ → ℕ) → List Version → Type 0
AllStamped stamp [] = Unit {0}
AllStamped stamp (v ∷ vs) = (stamp v.trx ≢ 0) × AllStamped stamp vs

-- where no session holds a slot, as when a node opens, each version has a stamp
abbrev pub AtRestAllStamped : Cluster → Type 0
AtRestAllStamped c =
    ((u : ℕ) → (now c).slot u ≡ None) → (r : ℕ) (k : List ℕ) → AllStamped (now c).stamp ((now c).rows r k)

-- ---- slow readers

-- what is read of the catalog in one store and of a table in another, with stamps that were looked up by and by
abbrev pub late_content : Store → Store → (ℕ → ℕ) → (ℕ → ℕ) → ℕ → Content
late_content S R given more n a k =
    if bytes_eq a catalog_name then seen (S.rows catalog k) given n None
    else seen (at_root R.rows (seen_root (S.rows catalog a) given n None) k) more n None

-- each stamp is that of this store or of a later one
abbrev pub AreLookedUp : Cluster → ℕ → (ℕ → ℕ) → Type 0
AreLookedUp c i given = (t : ℕ) → (j : ℕ) × (i ≤ j) × (j ≤ c.lsn) × (given t ≡ (c.at j).stamp t)

-- A reader that holds the catalog's items of one store and a table's of another, in either order, and looks
-- each stamp up later, sees what was committed.
abbrev pub SlowReadersAgree : Cluster → Type 0
SlowReadersAgree c =
    (i j n : ℕ) (given more : ℕ → ℕ)
    → i ≤ c.lsn → j ≤ c.lsn → c.machine.first ≤ n → n ≤ (c.at i).last → n ≤ (c.at j).last
    → AreLookedUp c i given → AreLookedUp c j more
    → StandsFor (late_content (c.at i) (c.at j) given more n) (committed c.machine n)

-- ---- the laws

-- Every journal that a cluster's events write is a run of the table machine, and the log stands for its
-- commits. The invariant itself is handed out beside.
pub record IsHistory (language : Language) (was : Content) (begin : Machine) (journal : List Entry)
    (c : Cluster) : Type 0 where
  pub leads : Leads language begin journal c.machine
  pub refines : Refines language was c
  pub commits : StandsForCommits c
  pub in_order : CommitsInOrder c
  pub forget : ForgetKeepsDurable c
  pub views : ReadsAreViews c
  pub conflicts : ConflictsAgree c
  pub verdicts : VerdictsStand language c
  pub at_rest : AtRestAllStamped c
  pub slow : SlowReadersAgree c

abbrev pub EventsMakeHistory : Language → Type 0
EventsMakeHistory language =
    (was : Content) (nodes first : ℕ) (base : Database) (S : Store) → BootsFrom was base first S
    → (events : List Event) (journal : List Entry) (c : Cluster)
    → AllHappen language (start nodes base first S) events journal c
    → IsHistory language was (machine.start nodes base first) journal c

-- in every run of the table machine two open transactions share no key, snapshots lie between the first number
-- and the last commit, and the changes of each commit fit what stood before it
abbrev pub RunsAreFair : Language → Type 0
RunsAreFair language =
    (was : Content) (nodes first : ℕ) (base : Database) (journal : List Entry) (m : Machine)
    → StandsFor was base → Leads language (machine.start nodes base first) journal m → IsFair was m

-- what is answered over a transaction's view stays the answer, however much is committed in between
abbrev pub AnswersStay : Language → Type 0
AnswersStay language =
    (old new : Machine) (journal : List Entry) (t : Transaction) (st : Stmt) (a b : Answer)
    → Leads language old journal new → t.snap ≤ old.count
    → language.answers (view old t) st a → language.answers (view new t) st b → b ≡ a
