use Rattle.std.proofs.Common.{rules, ◌≡◌, List, Result, Ok, Err, refl, ap, sym, ◌∙◌}
use Rattle.sql_values.specs.declared.arithmetic.Overflow.{Overflow}
use Rattle.sql_values.specs.declared.values.Value.{Value}
use Rattle.sql_exec.specs.declared.outcomes.Outcome.TheVariants as outcome
use Rattle.sql_exec.specs.Answer.{rows_or_overflow, outcome_of}
use Rattle.sql_exec.specs.Kept.{each, values_in}
use Rattle.sql_exec.proofs.selecting.show_items.Goals as goal

pub returns-in-Ok : goal.returns-in-Ok
returns-in-Ok c =
    let items : Result (List (List Value)) Overflow = each (λ r. values_in r c.args.exprs.now) c.in_ok-rows.rows in
    let ok : items ≡ Ok c.in-Ok.rows = search rules in
    record {
      answer = rows_or_overflow c.args.limit items;
      is = (c.in_ok-rows.rows, search rules, refl);
      gives = ap outcome.Rows c.cut.ensures ∙ ap (λ r. outcome_of (rows_or_overflow c.args.limit r)) (sym ok);
    }

pub returns : goal.returns
returns c =
    let items : Result (List (List Value)) Overflow = each (λ r. values_in r c.args.exprs.now) c.in_ok-rows.rows in
    let bad : items ≡ Err c.in-Err.field-0 = search rules in
    record {
      answer = rows_or_overflow c.args.limit items;
      is = (c.in_ok-rows.rows, search rules, refl);
      gives = ap (λ r. outcome_of (rows_or_overflow c.args.limit r)) (sym bad);
    }
