use Rattle.version_store.proofs.Example.{example_reads}
use Rattle.version_store.proofs.laws.example_laws.Goals as goal

pub returns : goal.returns
returns c = record { reads = example_reads }
