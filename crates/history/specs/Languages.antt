-- Stated: what the history asks of a language's grammar.
use Rattle.std.specs.Prelude.{ℕ, List, Ok}
use Rattle.sql_statements.specs.declared.statements.Stmt.{Stmt}
use Rattle.sql_database.specs.Fitting.{IsProper}
use Rattle.table_machine.specs.Language.{Language}

-- no text is read as a statement that makes a table under the catalog's name
abbrev pub KeepsCatalogName : Language → Type 0
KeepsCatalogName language = (text : List ℕ) (st : Stmt) → language.parses text (Ok st) → IsProper st
