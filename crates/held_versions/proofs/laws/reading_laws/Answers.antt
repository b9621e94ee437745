use Rattle.held_versions.proofs.Meaning.{meaningful_holds}
use Rattle.held_versions.proofs.Ones.{one_store}
use Rattle.held_versions.proofs.laws.reading_laws.Goals as goal

pub returns-clause-reads : goal.returns-clause-reads
returns-clause-reads c = meaningful_holds

pub returns-clause-one : goal.returns-clause-one
returns-clause-one c = one_store
