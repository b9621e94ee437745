-- From a statement's parts to its answer.
use Rattle.std.proofs.Common.{◌≡◌, List, Option, Some, None, refl, subst, MatchOption}
use Rattle.sql_values.specs.declared.schemas.Schema.{Schema}
use Rattle.sql_statements.specs.declared.statements.Stmt.{Stmt}
use Rattle.sql_statements.specs.declared.statements.Stmt.TheVariants as stmt
use Rattle.sql_meaning.specs.declared.fields.Field.{Field}
use Rattle.sql_meaning.specs.declared.actions.Action.{Action}
use Rattle.sql_meaning.specs.declared.refusals.Refusal.{Refusal}
use Rattle.sql_meaning.specs.Names.{scope}
use Rattle.sql_meaning.specs.Places.{placed_action}
use Rattle.sql_meaning.specs.Refusals.{refusal}
use Rattle.sql_exec.specs.declared.outcomes.Outcome.{Outcome}
use Rattle.sql_exec.specs.declared.outcomes.Outcome.TheVariants as outcome
use Rattle.sql_exec.specs.declared.rows.RangeRows.{RangeRows}
use Rattle.sql_exec.specs.Answer.{Answers, ComesFrom, Does, IsAct, reply_of, source, target}
use Rattle.sql_database.specs.Statements.{IsEvaluated}
use Rattle.sql_database.specs.Answers.{refused}

pub acts : (fields : List Field) (s : Stmt) → IsEvaluated s → IsAct (placed_action fields s)
acts fields (stmt.Create s) h = tt
acts fields (stmt.Insert t names tuples) h = tt
acts fields (stmt.Update t sets test) h = tt
acts fields (stmt.Delete t test) h = tt
acts fields (stmt.Select q) h = tt
acts fields stmt.Begin h = h
acts fields stmt.Commit h = h
acts fields stmt.Rollback h = h

pub refuses : (schemas : List Schema) (given : RangeRows) (s : Stmt) (r : Refusal) (o : Outcome) → Some r ≡ refusal schemas s → o ≡ outcome.Refused (reply_of r) → ComesFrom (Answers schemas given s) o
refuses schemas given s r o e h = record {
  answer = refused (reply_of r);
  is = subst (λ (k : Option Refusal). MatchOption k (Does (target schemas s) (source s given) (placed_action (scope schemas s) s) (refused (reply_of r))) (λ q. refused (reply_of r) ≡ refused (reply_of q))) e refl;
  gives = h;
}

pub does : (schemas : List Schema) (given : RangeRows) (s : Stmt) (a : Action) (o : Outcome) → None ≡ refusal schemas s → a ≡ placed_action (scope schemas s) s → ComesFrom (Does (target schemas s) (source s given) a) o → ComesFrom (Answers schemas given s) o
does schemas given s a o e h from = record {
  answer = from.answer;
  is = subst (λ (k : Option Refusal). MatchOption k (Does (target schemas s) (source s given) (placed_action (scope schemas s) s) from.answer) (λ q. from.answer ≡ refused (reply_of q))) e (subst (λ (b : Action). Does (target schemas s) (source s given) b from.answer) h from.is);
  gives = from.gives;
}
