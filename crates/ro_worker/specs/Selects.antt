-- For the proofs: that what a reader tells is of a SELECT.
use Rattle.std.specs.Prelude.{◌≡◌, true, List}
use Rattle.page_image.specs.Image.{Image}
use Rattle.sql_database.specs.Statements.{is_select}
use Rattle.question_tree.specs.Questions.{Gives}
use Rattle.range_reader.specs.Finding.{Fits}
use Rattle.statement_reader.specs.declared.asking.Read.{Read}
use Rattle.statement_reader.specs.Question.{Reading}

abbrev pub TellsSelects : Reading Read → Type 0
TellsSelects m = (us : List Image) (r : Read) → Gives Fits m us r → is_select r.statement ≡ true
