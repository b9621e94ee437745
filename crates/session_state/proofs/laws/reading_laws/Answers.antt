use Rattle.session_state.proofs.Entries.{none_forced}
use Rattle.session_state.proofs.Falls.{tells_asking, tells_busy}
use Rattle.session_state.proofs.laws.reading_laws.Goals as goal

pub returns-clause-free : goal.returns-clause-free
returns-clause-free g c = none_forced g.L.Language.language

pub returns-clause-busy : goal.returns-clause-busy
returns-clause-busy g c = tells_busy g.L.Language.language

pub returns-clause-asking : goal.returns-clause-asking
returns-clause-asking g c = tells_asking g.L.Language.language
