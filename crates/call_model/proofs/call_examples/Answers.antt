use Rattle.call_model.proofs.Examples.{repeated_is_handled_once, orphaned_is_handled_once, refused_is_not_handled}
use Rattle.call_model.proofs.call_examples.Goals as goal

pub returns-clause-repeated : goal.returns-clause-repeated
returns-clause-repeated c = repeated_is_handled_once

pub returns-clause-orphaned : goal.returns-clause-orphaned
returns-clause-orphaned c = orphaned_is_handled_once

pub returns-clause-refused : goal.returns-clause-refused
returns-clause-refused c = refused_is_not_handled
