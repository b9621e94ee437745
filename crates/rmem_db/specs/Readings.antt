-- For the proofs: a text is read in one way.
use Rattle.std.proofs.Common.{◌≡◌, ℕ, List, Result}
use Rattle.sql_words.proofs.ReadingLaws as words
use Rattle.sql_front.proofs.Verdicts as front
use Rattle.table_machine.specs.Language.{ReadsOneWay}
use Rattle.rmem_db.specs.Session.{sql}

pub one_reading : ReadsOneWay sql
one_reading text = front.one_reading words.one_reading text
