use Rattle.history.proofs.Outcomes.{answers_stay, runs_are_fair}
use Rattle.history.proofs.laws.fair_laws.Goals as goal

pub returns-clause-fair : goal.returns-clause-fair
returns-clause-fair g c = λ names. runs_are_fair g.L.Language.language g.L.Language.answer_rules names

pub returns-clause-stays : goal.returns-clause-stays
returns-clause-stays g c = answers_stay g.L.Language.language g.L.Language.answer_rules
