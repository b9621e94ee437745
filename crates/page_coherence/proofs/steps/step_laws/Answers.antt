use Rattle.page_coherence.proofs.EveryEvent.{reached_holds, reached_on}
use Rattle.page_coherence.proofs.steps.step_laws.Goals as goal

pub returns-clause-reached : goal.returns-clause-reached
returns-clause-reached c = reached_holds

pub returns-clause-on : goal.returns-clause-on
returns-clause-on c = reached_on
