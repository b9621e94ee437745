use Rattle.std.proofs.Common.{rules, ap}
use Rattle.sql_exec.specs.declared.outcomes.Outcome.TheVariants as outcome
use Rattle.sql_exec.proofs.ActLaws.{refuses}
use Rattle.sql_exec.proofs.evaluating.eval.Goals as goal

pub returns-in-Err : goal.returns-in-Err
returns-in-Err c = refuses c.args.schemas.now c.args.rows.now c.args.statement.now c.in-Err.refusal _ (search rules) (ap outcome.Refused c.reply_of.ensures)
