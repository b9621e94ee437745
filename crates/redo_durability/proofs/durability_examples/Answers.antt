use Rattle.redo_durability.proofs.Examples.{taken_over_is_durable, too_late_is_lost}
use Rattle.redo_durability.proofs.durability_examples.Goals as goal

pub returns-clause-taken_over : goal.returns-clause-taken_over
returns-clause-taken_over c = taken_over_is_durable

pub returns-clause-too_late : goal.returns-clause-too_late
returns-clause-too_late c = too_late_is_lost
