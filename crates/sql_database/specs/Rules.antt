-- Stated: what holds of the answers of every statement.
use Rattle.std.specs.Prelude.{◌≡◌, ℕ, true, false, List, Option}
use Rattle.sql_values.specs.declared.values.Value.{Value}
use Rattle.sql_statements.specs.declared.statements.Stmt.{Stmt}
use Rattle.sql_database.specs.declared.changes.Change.{Change}
use Rattle.sql_database.specs.Answers.{Answer, Answering, rows, refused, wants}
use Rattle.sql_database.specs.Database.{Database, SameContent}
use Rattle.sql_database.specs.Fitting.{AreKnown, FitsAll, IsProper, NamesNoCatalog}
use Rattle.sql_database.specs.Replies.{is_done, is_giving_up}
use Rattle.sql_database.specs.Statements.{IsEvaluated, is_write}

-- a refusal neither is done nor takes the transaction along, and only writes want changes
abbrev pub IsFair : Stmt → Answer → Type 0
IsFair st (rows rs) = Unit {0}
IsFair st (refused r) = (is_done r ≡ false) × (is_giving_up r ≡ false)
IsFair st (wants cs n dup) = is_write st ≡ true

-- a statement has one answer over a database
abbrev pub OneAnswer : Answering → Type 0
OneAnswer answers = (d : Database) (st : Stmt) (a b : Answer) → answers d st a → answers d st b → a ≡ b

-- a statement that is evaluated has an answer over each database
abbrev pub SomeAnswer : Answering → Type 0
SomeAnswer answers = (d : Database) (st : Stmt) → IsEvaluated st → (a : Answer) × answers d st a

abbrev pub FairAnswers : Answering → Type 0
FairAnswers answers = (d : Database) (st : Stmt) (a : Answer) → answers d st a → IsFair st a

-- databases with the same content answer the same
abbrev pub AnswersByContent : Answering → Type 0
AnswersByContent answers =
    (d e : Database) (st : Stmt) (a : Answer) → SameContent d e → answers d st a → answers e st a

-- the changes that are wanted fit the database
abbrev pub WantsFit : Answering → Type 0
WantsFit answers =
    (d : Database) (st : Stmt) (cs : List Change) (n : ℕ) (dup : Option Value)
    → NamesNoCatalog d → IsProper st → answers d st (wants cs n dup) → FitsAll d cs × AreKnown d cs

-- what the laws of commits and of stores need of the answers
pub record AnswerRules (answers : Answering) : Type 0 where
  pub one : OneAnswer answers
  pub some : SomeAnswer answers
  pub fair : FairAnswers answers
  pub by_content : AnswersByContent answers
  pub fits : WantsFit answers
