-- Stated: what a statement asks for, and tells with the statement that it was read for.
use Rattle.std.specs.Prelude.{◌≡◌, Bool, List}
use Rattle.page_image.specs.Image.{Image}
use Rattle.sql_statements.specs.declared.statements.Stmt.{Stmt}
use Rattle.sql_exec.specs.declared.outcomes.Outcome.{Outcome}
use Rattle.sql_exec.specs.Answer.{Answers, ComesFrom}
use Rattle.question_tree.specs.Questions.{Gives, tells, then_on}
use Rattle.range_reader.specs.declared.fetch.Snapshot.{Snapshot}
use Rattle.range_reader.specs.Finding.{Fits}
use Rattle.range_reader.specs.Laws.{IsOrderly}
use Rattle.statement_reader.specs.declared.asking.Read.{Read}
use Rattle.statement_reader.specs.declared.tables.Found.{Found}
use Rattle.statement_reader.specs.Answered.{StatementFound}
use Rattle.statement_reader.specs.Question.{Reading, question}
use Rattle.statement_reader.specs.Spelling.{decoder}

abbrev pub read_of : Stmt → Found → Read
read_of st a = record { statement = st; found = a }

-- what is found, told with the statement
abbrev pub told_for : Stmt → Reading Found → Reading Read
told_for st m = then_on m (λ a. tells (read_of st a))

-- the whole statement, where items spell what their bytes do
unfoldable pub reads : Snapshot → Stmt → Reading Read
reads s st = told_for st (question decoder s st)

-- what was read is for this statement, and found over these uses
pub record IsReadOver (s : Snapshot) (st : Stmt) (us : List Image) (r : Read) : Type 0 where
  pub statement : r.statement ≡ st
  pub found : StatementFound decoder s st us r.found

-- an outcome over what was read
abbrev pub IsOutcomeOf : Read → Outcome → Type 0
IsOutcomeOf r o = ComesFrom (Answers r.found.schemas r.found.rows r.statement) o

-- an outcome over what a statement finds over these uses
abbrev pub IsOutcomeOver : Snapshot → Stmt → List Image → Outcome → Type 0
IsOutcomeOver s st us o =
    (a : Found) × StatementFound decoder s st us a × ComesFrom (Answers a.schemas a.rows st) o

-- what is told is read over what was given
abbrev pub TellsRead : Type 0
TellsRead =
    (s : Snapshot) (st : Stmt) (us : List Image) (r : Read)
    → Gives Fits (reads s st) us r → IsReadOver s st us r

-- and each outcome of it is one over what was given
abbrev pub TellsOutcome : Type 0
TellsOutcome =
    (s : Snapshot) (st : Stmt) (us : List Image) (r : Read) (o : Outcome)
    → Gives Fits (reads s st) us r → IsOutcomeOf r o → IsOutcomeOver s st us o

-- a child is asked for only right after the page above it
abbrev pub ReadsOrderly : Type 0
ReadsOrderly = (s : Snapshot) (st : Stmt) (down : Bool) → IsOrderly down (reads s st)
