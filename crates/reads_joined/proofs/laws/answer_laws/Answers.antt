use Rattle.reads_joined.proofs.laws.answer_laws.Goals as goal
use Rattle.reads_joined.proofs.Answering.{found_is_answered, readers_answer, runs_answer, writers_begin}

pub returns : goal.returns
returns g c = record {
  found = found_is_answered;
  readers = readers_answer g.L.Language.language;
  runs = λ names. runs_answer g.L.Language.language g.L.Language.answer_rules names;
  writers = writers_begin g.L.Language.language;
}
