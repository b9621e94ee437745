-- For the proofs: the work that is left to a reader that keeps its statement.
use Rattle.std.specs.Prelude.{Option, Some, None}
use Rattle.sql_statements.specs.declared.statements.Stmt.{Stmt}
use Rattle.question_tree.specs.Questions.{stops}
use Rattle.statement_reader.specs.declared.asking.Read.{Read}
use Rattle.statement_reader.specs.declared.reader.StatementReader.{StatementReader}
use Rattle.statement_reader.specs.declared.tables.Found.{Found}
use Rattle.statement_reader.specs.Machine.{IsReady, reading_of}
use Rattle.statement_reader.specs.Question.{Reading}
use Rattle.statement_reader.specs.Reads.{told_for}
use Rattle.statement_reader.specs.Spelling.{decoder}

-- the statement, and its reader unless it was given up
pub record Kept : Type 0 where
  pub statement : Stmt
  pub reader : Option StatementReader

abbrev pub reading_in : Stmt → Option StatementReader → Reading Found
reading_in st None = stops
reading_in st (Some r) = reading_of decoder st r

-- what is left of the statement
unfoldable pub asking_of : Kept → Reading Read
asking_of k = told_for k.statement (reading_in k.statement k.reader)

abbrev pub ReadyIn : Option StatementReader → Type 0
ReadyIn None = Unit {0}
ReadyIn (Some r) = IsReady r
