-- Stated: the tables that statements make.
use Rattle.std.specs.Prelude.{◌≢◌, ℕ, List}
use Rattle.sql_values.specs.declared.schemas.Schema.{Schema}
use Rattle.sql_values.specs.Tables.{IsTable}
use Rattle.sql_words.specs.declared.reserved.Word.{Word}
use Rattle.sql_words.specs.Reserved.{lowered, spelling}
use Rattle.sql_statements.specs.declared.statements.Stmt.{Stmt}
use Rattle.sql_statements.specs.declared.statements.Stmt.TheVariants as stmt
use Rattle.sql_front.specs.Sentences.{IsSql}

-- a schema that a table can have, under a name that is no reserved word
pub record IsProper (s : Schema) : Type 0 where
  pub table : IsTable s
  pub free : (w : Word) → s.table ≢ lowered (spelling w)

-- a CREATE makes a proper table; other statements make none
abbrev pub MakesTable : Stmt → Type 0
MakesTable (stmt.Create s) = IsProper s
MakesTable (stmt.Insert t names tuples) = Unit {0}
MakesTable (stmt.Update t sets test) = Unit {0}
MakesTable (stmt.Delete t test) = Unit {0}
MakesTable (stmt.Select q) = Unit {0}
MakesTable stmt.Begin = Unit {0}
MakesTable stmt.Commit = Unit {0}
MakesTable stmt.Rollback = Unit {0}

-- what a text says makes proper tables alone
abbrev pub MakeTables : Type 0
MakeTables = (sql : List ℕ) (s : Stmt) → IsSql sql s → MakesTable s
