use Rattle.held_versions.proofs.ReadOff.{example_reads}
use Rattle.held_versions.proofs.Running.{run_holds}
use Rattle.held_versions.proofs.laws.example_laws.Goals as goal

pub returns-clause-holds : goal.returns-clause-holds
returns-clause-holds c = example_reads

pub returns-clause-run : goal.returns-clause-run
returns-clause-run c = run_holds
