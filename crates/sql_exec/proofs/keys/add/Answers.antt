use Rattle.std.proofs.Common.{ap, ◌∙◌, not}
use Rattle.sql_exec.proofs.keys.add.Goals as goal

pub returns-clause-new : goal.returns-clause-new
returns-clause-new c = λ keys has. c.in_ok-insert.ensures.added ∙ ap not (has (record { 0 = c.args.key }))
