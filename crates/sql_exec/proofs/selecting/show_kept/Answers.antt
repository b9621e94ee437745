use Rattle.std.proofs.Common.{Result, List, refl, sym, subst}
use Rattle.sql_values.specs.declared.arithmetic.Overflow.{Overflow}
use Rattle.sql_values.specs.declared.values.Value.{Value}
use Rattle.sql_database.specs.declared.replies.SqlReply.TheVariants as reply
use Rattle.sql_exec.specs.Answer.{GivesKept}
use Rattle.sql_database.specs.Answers.{refused}
use Rattle.sql_exec.proofs.selecting.show_kept.Goals as goal

pub returns-in-Err : goal.returns-in-Err
returns-in-Err c = record {
  answer = refused reply.Overflow;
  is = subst (λ (kept : Result (List (List Value)) Overflow). GivesKept c.args.output.now c.args.order.now c.args.limit kept (refused reply.Overflow)) (sym c.in-Err.is) refl;
  gives = refl;
}
