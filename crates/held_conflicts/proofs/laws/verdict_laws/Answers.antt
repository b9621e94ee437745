use Rattle.held_conflicts.proofs.VerdictLaws.{changes_are_taken, tests_tell_verdicts}
use Rattle.held_conflicts.proofs.laws.verdict_laws.Goals as goal

pub returns-clause-tested : goal.returns-clause-tested
returns-clause-tested c = tests_tell_verdicts

pub returns-clause-taken : goal.returns-clause-taken
returns-clause-taken c = changes_are_taken
