use Rattle.held_versions.proofs.Opening.{opening_is_blank}
use Rattle.held_versions.proofs.OpeningMeans.{opening_means}
use Rattle.held_versions.proofs.laws.opening_laws.Goals as goal

pub returns-clause-blank : goal.returns-clause-blank
returns-clause-blank c = opening_is_blank

pub returns-clause-meaning : goal.returns-clause-meaning
returns-clause-meaning c = opening_means
