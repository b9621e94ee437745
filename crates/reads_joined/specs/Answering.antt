-- Stated: what a statement answers over the pages that it read is the table machine's answer at its
-- snapshot.
use Rattle.std.specs.Prelude.{◌≡◌, ◌≢◌, ℕ, true, List, [], map, Option, Some, None}
use Rattle.sql_values.specs.declared.schemas.Schema.{Schema}
use Rattle.sql_statements.specs.declared.statements.Stmt.{Stmt}
use Rattle.sql_database.specs.Database.{Database}
use Rattle.sql_exec.specs.declared.outcomes.Outcome.{Outcome}
use Rattle.sql_exec.specs.declared.rows.RangeRows.{RangeRows}
use Rattle.sql_exec.specs.Answer.{Answers, ComesFrom}
use Rattle.sql_exec.specs.Whole.{AnswersOver}
use Rattle.table_machine.specs.declared.entries.Entry.{Entry}
use Rattle.table_machine.specs.Language.{Language}
use Rattle.table_machine.specs.Machine.{Transaction, is_some_of, view}
use Rattle.tree_timeline.specs.Types.{Items, PagesAt}
use Rattle.tree_timeline.specs.Walks.{Visit}
use Rattle.version_store.specs.Contents.{Content}
use Rattle.version_store.specs.Stores.{Store}
use Rattle.history.specs.Clusters.{Cluster, own, start}
use Rattle.history.specs.Databases.{StandsFor}
use Rattle.history.specs.Events.{AllHappen, Event}
use Rattle.history.specs.Invariant.{Refines}
use Rattle.history.specs.Laws.{BootsFrom}
use Rattle.snapshot_reads.specs.Keeping.{Keeps}
use Rattle.snapshot_reads.specs.Laws.{Reads, UsesWithin}
use Rattle.snapshot_reads.specs.Pasts.{Past}
use Rattle.snapshot_reads.specs.Times.{image_at, itself}
use Rattle.reads_joined.specs.Statements.{StatementFound}

-- what comes of the rows that are found comes of the whole tables
abbrev pub AnswersAs : List Schema → RangeRows → Database → Stmt → Type 0
AnswersAs schemas rows d st =
    (o : Outcome) → ComesFrom (Answers schemas rows st) o → ComesFrom (AnswersOver d st) o

-- A statement's outcome over what it found in the images that it was handed out, while the log
-- grew, is that over the database that its content stands for.
abbrev pub FoundIsAnswered : Type 0
FoundIsAnswered =
    (at : PagesAt) (items : ℕ → ℕ → Items) (S : ℕ → Store) (base end n : ℕ) (own : Option ℕ)
    (f : Content) (d : Database) → Reads at items S base end n own f → StandsFor f d
    → (from : ℕ) (us : List Visit) → UsesWithin at S base n from end us
    → (st : Stmt) (schemas : List Schema) (rows : RangeRows)
    → StatementFound itself n own st (map (image_at at) us) schemas rows
    → AnswersAs schemas rows d st

-- So it is for each session without changes of its own: its outcome is the one over its
-- transaction's view, the table machine's.
abbrev pub ReadersAnswer : Cluster → Type 0
ReadersAnswer c =
    (s : ℕ) (t : Transaction) → (c.machine.sessions s).transaction ≡ Some t → t.pending ≡ []
    → (at : PagesAt) (items : ℕ → ℕ → Items) (from : ℕ) → Keeps at items c.at from c.lsn
    → (us : List Visit) → UsesWithin at c.at from t.snap from c.lsn us
    → (st : Stmt) (schemas : List Schema) (rows : RangeRows)
    → StatementFound itself t.snap None st (map (image_at at) us) schemas rows
    → AnswersAs schemas rows (view c.machine t) st

-- as each session has none whose node is not the one that takes the writes
abbrev pub ReadersHaveNone : Cluster → Type 0
ReadersHaveNone c =
    (s : ℕ) (t : Transaction) → (c.machine.sessions s).transaction ≡ Some t
    → is_some_of c.machine.writer (c.machine.sessions s).node ≢ true → t.pending ≡ []

-- in each state of a cluster that the history's law speaks of
abbrev pub ReadersAnswerAlways : Language → Type 0
ReadersAnswerAlways language =
    (was : Content) (c : Cluster) → Refines language was c → ReadersAnswer c × ReadersHaveNone c

-- and so after every list of events, crashes and takeovers of nodes included
abbrev pub RunsAnswer : Language → Type 0
RunsAnswer language =
    (was : Content) (nodes first : ℕ) (base : Database) (S : Store) → BootsFrom was base first S
    → (events : List Event) (journal : List Entry) (c : Cluster)
    → AllHappen language (start nodes base first S) events journal c
    → ReadersAnswer c × ReadersHaveNone c

-- A writer's session, none of whose changes wait to be installed, has a past at the LSN at which
-- its statement begins: a content with its own changes, which stands for its transaction's view.
abbrev pub WritersBegin : Language → Type 0
WritersBegin language =
    (was : Content) (c : Cluster) → Refines language was c
    → (s : ℕ) (t : Transaction) → (c.machine.sessions s).transaction ≡ Some t
    → (c.work s).todo ≡ []
    → (f : Content) × Past c.at c.lsn c.lsn t.snap (own c s) f × StandsFor f (view c.machine t)
