use Rattle.snapshot_reads.proofs.laws.example_laws.Goals as goal
use Rattle.snapshot_reads.proofs.Example.{example_reads}

pub returns : goal.returns
returns c = record { reads = example_reads }
