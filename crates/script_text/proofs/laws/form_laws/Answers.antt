use Rattle.script_text.proofs.FormLaws.{form_exactly}
use Rattle.script_text.proofs.laws.form_laws.Goals as goal

pub returns : goal.returns
returns c = form_exactly
