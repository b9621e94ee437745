use Rattle.script_text.proofs.FitLaws.{is_fit}
use Rattle.script_text.proofs.WholeLaws.{script_exactly, refused_exactly}
use Rattle.script_text.proofs.laws.script_laws.Goals as goal

pub returns-clause-accepted : goal.returns-clause-accepted
returns-clause-accepted c = script_exactly

pub returns-clause-refused : goal.returns-clause-refused
returns-clause-refused c = refused_exactly

pub returns-clause-fits : goal.returns-clause-fits
returns-clause-fits c = is_fit
