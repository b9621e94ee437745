use Rattle.edit_events.proofs.Example.{example_begins, example_says}
use Rattle.edit_events.proofs.laws.example_laws.Goals as goal

pub returns : goal.returns
returns c = record { begins = example_begins; says = example_says }
