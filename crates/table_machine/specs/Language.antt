-- Stated: the language of a table machine.
use Rattle.std.specs.Prelude.{◌≡◌, ℕ, List, Result}
use Rattle.sql_statements.specs.declared.statements.Stmt.{Stmt}
use Rattle.sql_database.specs.Answers.{Answering}
use Rattle.sql_database.specs.Database.{Database}

-- which texts are read as which statements, or are wrong at which offset; which answers a statement has over a
-- database; and whether a store that keeps a database can be full
pub record Language : Type 1 where
  pub parses : List ℕ → Result Stmt ℕ → Type 0
  pub answers : Answering
  pub full : Database → Type 0

-- a text is read in one way
abbrev pub ReadsOneWay : Language → Type 0
ReadsOneWay language = (text : List ℕ) (a b : Result Stmt ℕ) → language.parses text a → language.parses text b → a ≡ b
