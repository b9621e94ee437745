use Rattle.message_network.proofs.Cases.{repeated_is_handled_once, late_is_refused}
use Rattle.message_network.proofs.laws.service_samples.Goals as goal

pub returns-clause-repeated : goal.returns-clause-repeated
returns-clause-repeated c = repeated_is_handled_once

pub returns-clause-late : goal.returns-clause-late
returns-clause-late c = late_is_refused
