use Rattle.history.proofs.Outcomes.{events_make_history}
use Rattle.history.proofs.laws.history_laws.Goals as goal

pub returns : goal.returns
returns g c = record {
  history = λ names. events_make_history g.L.Language.language g.L.Language.answer_rules names;
}
