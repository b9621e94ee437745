-- Stated: what a statement makes of a store of tables.
use Rattle.std.specs.Prelude.{◌≡◌, ◌≢◌, ◌⊎◌, []}
use Rattle.sql_statements.specs.declared.statements.Stmt.{Stmt}
use Rattle.sql_statements.specs.declared.statements.Stmt.TheVariants as stmt
use Rattle.sql_database.specs.declared.replies.SqlReply.{SqlReply}
use Rattle.sql_database.specs.declared.replies.SqlReply.TheVariants as reply
use Rattle.sql_database.specs.Answers.{Answer, changes_of, reply_to}
use Rattle.sql_database.specs.Database.{Database}
use Rattle.sql_exec.specs.Whole.{AnswersOver}
use Rattle.sql_database.specs.Applied.{applied}
use Rattle.sql_engine.specs.Sound.{IsNewTable}

-- a CREATE has a schema that a table can have
abbrev pub MakesTable : Stmt → Type 0
MakesTable (stmt.Create s) = IsNewTable s
MakesTable (stmt.Insert t names tuples) = Unit {0}
MakesTable (stmt.Update t sets test) = Unit {0}
MakesTable (stmt.Delete t test) = Unit {0}
MakesTable (stmt.Select q) = Unit {0}
MakesTable stmt.Begin = Unit {0}
MakesTable stmt.Commit = Unit {0}
MakesTable stmt.Rollback = Unit {0}

-- A statement over a database, of which the database afterwards is known by a fact: the reply tells an answer over
-- all rows, and the changes of the answer are made; or it tells that they found no room
-- in the store, which is full.
pub record Executes (d : Database) (st : Stmt) (IsAfter : Database → Type 0) (IsFull : Type 0) (r : SqlReply) : Type 0 where
  pub answer : Answer
  pub is : AnswersOver d st answer
  pub ends :
      ((r ≡ reply_to answer) × IsAfter (applied d (changes_of answer)))
      ⊎ ((r ≡ reply.SpaceFull) × (changes_of answer ≢ []) × IsFull)
