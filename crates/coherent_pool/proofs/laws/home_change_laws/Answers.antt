use Rattle.coherent_pool.proofs.Entries.{home_changes}
use Rattle.coherent_pool.proofs.laws.home_change_laws.Goals as goal

pub returns-clause-changes : goal.returns-clause-changes
returns-clause-changes c = home_changes
