use Rattle.history.proofs.Incidents.{losses_keep, takeovers_begin_again}
use Rattle.history.proofs.Takeovers.{takeovers_keep}
use Rattle.history.proofs.laws.incident_laws.Goals as goal

pub returns-clause-durable : goal.returns-clause-durable
returns-clause-durable g c = λ names. takeovers_keep g.L.Language.language g.L.Language.answer_rules names

pub returns-clause-again : goal.returns-clause-again
returns-clause-again g c = λ names. takeovers_begin_again g.L.Language.language g.L.Language.answer_rules names

pub returns-clause-losses : goal.returns-clause-losses
returns-clause-losses g c = losses_keep g.L.Language.language
