-- The order in which a database lists its schemas tells no answer.
use Rattle.std.proofs.Common.{◌≡◌, ℕ, Option, Some, None, List, [], find, is_some, is_none, option_map, MatchOption, ◌&&◌, if◌then◌else◌, refl, subst, ap, ◌∙◌}
use Rattle.std.proofs.Math.Path.{fun_ext}
use Rattle.std.specs.Prelude.{flat_map}
use Rattle.std.specs.Option.{option_map_or, option_or}
use Rattle.sql_values.specs.Tables.{table_named}
use Rattle.sql_values.specs.declared.schemas.Schema.{Schema}
use Rattle.sql_statements.specs.declared.statements.Stmt.{Stmt}
use Rattle.sql_statements.specs.declared.statements.Stmt.TheVariants as stmt
use Rattle.sql_meaning.specs.declared.refusals.Refusal.TheVariants.{NoTable, NoColumn, TableExists, WrongType}
use Rattle.sql_meaning.specs.Names.{scope, tables, table_fields, table_mentions, tuple_mentions, first_unknown}
use Rattle.sql_meaning.specs.Places.{placed_action}
use Rattle.sql_meaning.specs.Refusals.{refusal, table_refusal, unknown_column, has_right_types, exists, first_missing, set_key, counts_match, is_right}
use Rattle.sql_database.specs.Answers.{refused}
use Rattle.sql_database.specs.Rules.{AnswersByContent}
use Rattle.sql_exec.specs.Answer.{Does, reply_of, source, target}
use Rattle.sql_exec.specs.Whole.{AnswersOver, whole}

abbrev looks : List Schema → List ℕ → Option Schema
looks ss = λ a. table_named ss a

module _ (d e : List Schema) (t : looks d ≡ looks e) where
  same_scope : (st : Stmt) → scope d st ≡ scope e st
  same_scope st = ap (λ f. flat_map (λ a. option_map_or table_fields (f a) []) (tables st)) t

  same_target : (st : Stmt) → target d st ≡ target e st
  same_target (stmt.Create s) = refl
  same_target (stmt.Insert n names tuples) = ap (λ f. f n) t
  same_target (stmt.Update n sets test) = ap (λ f. f n) t
  same_target (stmt.Delete n test) = ap (λ f. f n) t
  same_target (stmt.Select q) = refl
  same_target stmt.Begin = refl
  same_target stmt.Commit = refl
  same_target stmt.Rollback = refl

  same_exists : (st : Stmt) → exists d st ≡ exists e st
  same_exists (stmt.Create s) = ap (λ f. if is_some (f s.table) then Some (TableExists s.table) else None) t
  same_exists (stmt.Insert n names tuples) = refl
  same_exists (stmt.Update n sets test) = refl
  same_exists (stmt.Delete n test) = refl
  same_exists (stmt.Select q) = refl
  same_exists stmt.Begin = refl
  same_exists stmt.Commit = refl
  same_exists stmt.Rollback = refl

  same_set_key : (st : Stmt) → set_key d st ≡ set_key e st
  same_set_key (stmt.Create s) = refl
  same_set_key (stmt.Insert n names tuples) = refl
  same_set_key (stmt.Update n sets test) = ap (λ f. option_map_or (λ s. s.key) (f n) 0) t
  same_set_key (stmt.Delete n test) = refl
  same_set_key (stmt.Select q) = refl
  same_set_key stmt.Begin = refl
  same_set_key stmt.Commit = refl
  same_set_key stmt.Rollback = refl

  same_missing : (names : List (List ℕ)) → first_missing d names ≡ first_missing e names
  same_missing names = ap (λ f. option_map NoTable (find (λ a. is_none (f a)) names)) t

  same_table_refusal : (st : Stmt) → table_refusal d st ≡ table_refusal e st
  unfolding table_refusal
  same_table_refusal st = ap (λ o. option_or o (first_missing d (tables st))) (same_exists st) ∙ ap (λ o. option_or (exists e st) o) (same_missing (tables st))

  same_unknown : (st : Stmt) → unknown_column d st ≡ unknown_column e st
  unfolding unknown_column
  same_unknown st = ap (λ fs. option_or (first_unknown fs (table_mentions st)) (first_unknown [] (tuple_mentions st))) (same_scope st)

  same_types : (st : Stmt) → has_right_types d st ≡ has_right_types e st
  unfolding has_right_types
  same_types st = ap (λ fs. counts_match fs st && is_right fs (set_key d st) (placed_action fs st)) (same_scope st) ∙ ap (λ k. counts_match (scope e st) st && is_right (scope e st) k (placed_action (scope e st) st)) (same_set_key st)

  same_refusal : (st : Stmt) → refusal d st ≡ refusal e st
  same_refusal st =
      ap (λ o. option_or o (option_or (option_map NoColumn (unknown_column d st)) (if has_right_types d st then None else Some WrongType))) (same_table_refusal st)
      ∙ (ap (λ o. option_or (table_refusal e st) (option_or (option_map NoColumn o) (if has_right_types d st then None else Some WrongType))) (same_unknown st)
      ∙ ap (λ b. option_or (table_refusal e st) (option_or (option_map NoColumn (unknown_column e st)) (if b then None else Some WrongType))) (same_types st))

pub by_content : AnswersByContent AnswersOver
by_content d e st a h an =
    let t : looks d.schemas ≡ looks e.schemas = fun_ext h.schemas in
    let w : d.tables ≡ e.tables = fun_ext h.rows in
    let a1 : MatchOption (refusal d.schemas st) (Does (target d.schemas st) (source st (whole e.tables st)) (placed_action (scope d.schemas st) st) a) (λ r. a ≡ refused (reply_of r)) =
    subst (λ x. MatchOption (refusal d.schemas st) (Does (target d.schemas st) (source st (whole x st)) (placed_action (scope d.schemas st) st) a) (λ r. a ≡ refused (reply_of r))) w an in
    let a2 : MatchOption (refusal d.schemas st) (Does (target e.schemas st) (source st (whole e.tables st)) (placed_action (scope d.schemas st) st) a) (λ r. a ≡ refused (reply_of r)) =
    subst (λ x. MatchOption (refusal d.schemas st) (Does x (source st (whole e.tables st)) (placed_action (scope d.schemas st) st) a) (λ r. a ≡ refused (reply_of r))) (same_target d.schemas e.schemas t st) a1 in
    let a3 : MatchOption (refusal d.schemas st) (Does (target e.schemas st) (source st (whole e.tables st)) (placed_action (scope e.schemas st) st) a) (λ r. a ≡ refused (reply_of r)) =
    subst (λ x. MatchOption (refusal d.schemas st) (Does (target e.schemas st) (source st (whole e.tables st)) (placed_action x st) a) (λ r. a ≡ refused (reply_of r))) (same_scope d.schemas e.schemas t st) a2 in
    subst (λ x. MatchOption x (Does (target e.schemas st) (source st (whole e.tables st)) (placed_action (scope e.schemas st) st) a) (λ r. a ≡ refused (reply_of r))) (same_refusal d.schemas e.schemas t st) a3
