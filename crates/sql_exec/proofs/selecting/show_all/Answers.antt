use Rattle.std.proofs.Common.{rules, refl, ap}
use Rattle.sql_exec.specs.declared.outcomes.Outcome.TheVariants as outcome
use Rattle.sql_database.specs.Answers.{rows}
use Rattle.sql_exec.specs.Order.{limited}
use Rattle.sql_exec.proofs.selecting.show_all.Goals as goal

pub returns : goal.returns
returns c = record {
  answer = rows (limited c.args.limit c.in_ok-rows.rows);
  is = (c.in_ok-rows.rows, search rules, refl);
  gives = ap outcome.Rows c.cut.ensures;
}
