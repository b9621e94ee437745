use Rattle.held_conflicts.proofs.EndLaws.{tests_end}
use Rattle.held_conflicts.proofs.laws.ending_laws.Goals as goal

pub returns : goal.returns
returns c = tests_end
