use Rattle.reads_joined.proofs.Reader.{reader_is_answered}
use Rattle.reads_joined.proofs.laws.reader_laws.Goals as goal

pub returns : goal.returns
returns c = record { answered = reader_is_answered }
