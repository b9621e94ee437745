use Rattle.sql_words.proofs.ReadingLaws.{one_reading}
use Rattle.sql_words.proofs.scanning.one_reading.Goals as goal

pub returns : goal.returns
returns c = one_reading
