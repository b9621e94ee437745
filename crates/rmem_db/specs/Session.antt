-- Stated: the one session, and what a line makes of its tables.
use Rattle.std.specs.Prelude.{◌≡◌, ℕ, is_some, List, Result, Ok}
use Rattle.sql_statements.specs.declared.statements.Stmt.{Stmt}
use Rattle.sql_front.specs.Sentences.{Reads}
use Rattle.sql_database.specs.declared.replies.SqlReply.{SqlReply}
use Rattle.sql_database.specs.declared.replies.SqlReply.TheVariants as reply
use Rattle.sql_database.specs.Database.{Database}
use Rattle.sql_database.specs.Fitting.{IsProper}
use Rattle.sql_exec.specs.Whole.{AnswersOver}
use Rattle.page_store.specs.Stored.{Stored}
use Rattle.paged_tables.specs.Content.{HoldsKept, IsFullNow}
use Rattle.table_machine.specs.Language.{Language}
use Rattle.table_machine.specs.Serving.{TableState, Turn, seen}
use Rattle.rmem_db.specs.declared.session.OneSession.{OneSession}

-- a store of tables on pages that keeps a database is full
abbrev pub CanBeFull : Database → Type 0
CanBeFull d = (tables : Stored) × HoldsKept tables d × IsFullNow tables

-- the language: texts read so, the answers over whole tables, and no room where the pages are full
abbrev pub sql : Language
sql = record { parses = Reads; answers = AnswersOver; full = CanBeFull }

-- no text makes a table under the catalog's word
abbrev pub MakesProperTables : Type 0
MakesProperTables = (text : List ℕ) (st : Stmt) → sql.parses text (Ok st) → IsProper st

-- what a session that is alone can be told: nothing of other writers, of nodes that fail, or of a full pool
abbrev pub IsOfOneSession : SqlReply → Type 0
IsOfOneSession reply.ReadOnly = ⊥
IsOfOneSession (reply.Conflict key) = ⊥
IsOfOneSession reply.Lost = ⊥
IsOfOneSession reply.Unavailable = ⊥
IsOfOneSession (reply.PoolFull n) = ⊥
IsOfOneSession reply.TrxFull = ⊥
IsOfOneSession r = Unit {0}

-- The session's tables keep a state's tables and show what its statements see, and `in_transaction` tells
-- whether a BEGIN opened one that is not over.
pub record Stands {W : Type 0} (Kept Shown : W → Database → Type 0) (session : OneSession W) (t : TableState) : Type 0 where
  pub kept : Kept session.tables t.kept
  pub shown : Shown session.tables (seen t)
  pub flag : session.in_transaction ≡ is_some t.own

-- a reply is told as the step says, and the session stands at what the step makes
pub record Takes {W : Type 0} (Kept Shown : W → Database → Type 0) (Step : SqlReply → TableState → Type 0) (session : OneSession W) (r : SqlReply) : Type 0 where
  pub new : TableState
  pub step : Step r new
  pub stands : Stands Kept Shown session new

-- the line is read in some way, and takes its turn
pub record TakesTurn {W : Type 0} (Kept Shown : W → Database → Type 0) (line : List ℕ) (old : TableState) (session : OneSession W) (r : SqlReply) : Type 0 where
  pub read : Result Stmt ℕ
  pub reads : Reads line read
  pub takes : Takes Kept Shown (Turn sql read old) session r
