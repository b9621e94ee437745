-- What sort of answer each statement has.
use Rattle.std.proofs.Common.{◌≡◌, ℕ, ℤ, Bool, true, false, cond, List, length, Option, Some, None, Result, Ok, Err, MatchOption, option_map, refl, sym, subst}
use Rattle.std.specs.List.{list_any}
use Rattle.sql_values.specs.declared.arithmetic.Overflow.{Overflow}
use Rattle.sql_values.specs.declared.schemas.Schema.{Schema}
use Rattle.sql_values.specs.declared.values.Value.{Value}
use Rattle.row_codec.specs.declared.TooLarge.{TooLarge}
use Rattle.row_codec.specs.Records.{key_cell}
use Rattle.sql_statements.specs.declared.statements.Stmt.{Stmt}
use Rattle.sql_statements.specs.declared.statements.Stmt.TheVariants as stmt
use Rattle.sql_meaning.specs.declared.actions.Action.{Action}
use Rattle.sql_meaning.specs.declared.actions.Action.TheVariants as action
use Rattle.sql_meaning.specs.declared.actions.OrderPlace.{OrderPlace}
use Rattle.sql_meaning.specs.declared.actions.Output.{Output}
use Rattle.sql_meaning.specs.declared.actions.Output.TheVariants.{Star, Plain, Totals}
use Rattle.sql_meaning.specs.declared.refusals.Refusal.{Refusal}
use Rattle.sql_meaning.specs.declared.refusals.Refusal.TheVariants as refusals
use Rattle.sql_meaning.specs.Names.{scope}
use Rattle.sql_meaning.specs.Places.{placed_action}
use Rattle.sql_meaning.specs.Refusals.{refusal}
use Rattle.sql_meaning.specs.Terms.{term}
use Rattle.sql_database.specs.declared.changes.Change.{Change}
use Rattle.sql_database.specs.declared.replies.SqlReply.TheVariants as reply
use Rattle.sql_database.specs.Answers.{Answer, refused}
use Rattle.sql_exec.specs.Answer.{Does, Gives, GivesKept, inserted, of_rows, on_target, placed_rows, removed_rows, reply_of, row_or_overflow, rows_or_overflow, source, target, wanted}
use Rattle.sql_database.specs.Statements.{is_write}
use Rattle.sql_exec.specs.Whole.{AnswersOver, whole}
use Rattle.sql_database.specs.Database.{Database}
use Rattle.sql_exec.specs.Changes.{first_repeat, keys_of, placing}
use Rattle.sql_exec.specs.Kept.{each, kept, set_all}
use Rattle.sql_exec.specs.Totals.{is_null}
use Rattle.sql_database.specs.Rules.{FairAnswers, IsFair}

fair_refusal : (st : Stmt) (r : Refusal) → IsFair st (refused (reply_of r))
fair_refusal st (refusals.TableExists t) = (refl, refl)
fair_refusal st (refusals.NoTable t) = (refl, refl)
fair_refusal st (refusals.NoColumn c) = (refl, refl)
fair_refusal st refusals.WrongType = (refl, refl)

module _ (st : Stmt) where
  -- ---- writes

  module _ (writes : is_write st ≡ true) where
    fair_wanted : (n : ℕ) (dup : Option Value) (r : Result (List Change) TooLarge) → IsFair st (wanted n dup r)
    fair_wanted n dup (Ok cs) = writes
    fair_wanted n dup (Err e) = (refl, refl)

    fair_either : (b : Bool) (x y : Answer) → IsFair st x → IsFair st y → IsFair st (cond b x y)
    fair_either true x y p q = p
    fair_either false x y p q = q

    fair_inserted : (s : Schema) (there rs : List (List Value)) → IsFair st (inserted s there rs)
    fair_inserted s there rs =
        fair_either (list_any (λ r. is_null (key_cell s.key r)) rs) (refused reply.NullKey)
        (wanted (length rs) (first_repeat (keys_of s.key there) (keys_of s.key rs)) (each (placing s) rs)) (refl, refl)
        (fair_wanted (length rs) (first_repeat (keys_of s.key there) (keys_of s.key rs)) (each (placing s) rs))

    fair_rows : (f : List (List Value) → Answer) → ((rs : List (List Value)) → IsFair st (f rs)) → (r : Result (List (List Value)) Overflow) → IsFair st (of_rows f r)
    fair_rows f h (Ok rs) = h rs
    fair_rows f h (Err e) = (refl, refl)

    fair_target : (o : Option Schema) (f : Schema → Answer) → ((s : Schema) → IsFair st (f s)) → IsFair st (on_target o f)
    fair_target None f h = tt
    fair_target (Some s) f h = h s

    pub does_write : (o : Option Schema) (there : List (List Value)) (a : Answer) → Does o there action.Create a → IsFair st a
    does_write o there a e = subst (IsFair st) (sym e) (fair_target o _ (λ s. writes))

    pub does_insert : (o : Option Schema) (there : List (List Value)) (tuples : List (List _)) (a : Answer) → Does o there (action.Insert tuples) a → IsFair st a
    does_insert o there tuples a e = subst (IsFair st) (sym e) (fair_target o _ (λ s. fair_rows (inserted s there) (fair_inserted s there) _))

    pub does_update : (o : Option Schema) (there : List (List Value)) (sets : List _) (test : Option _) (a : Answer) → Does o there (action.Update sets test) a → IsFair st a
    does_update o there sets test a e =
        subst (IsFair st) (sym e) (fair_target o _ (λ s. fair_rows (λ olds. of_rows (placed_rows s) (each (λ r. set_all r r sets) olds))
        (λ olds. fair_rows (placed_rows s) (λ rs. fair_wanted (length rs) None (each (placing s) rs)) (each (λ r. set_all r r sets) olds)) (kept (option_map term test) there)))

    pub does_delete : (o : Option Schema) (there : List (List Value)) (test : Option _) (a : Answer) → Does o there (action.Delete test) a → IsFair st a
    does_delete o there test a e =
        subst (IsFair st) (sym e) (fair_target o _ (λ s. fair_rows (removed_rows s) (λ rs. fair_wanted (length rs) None _) _))

  -- ---- rows

  fair_limited : (limit : Option ℤ) (r : Result (List (List Value)) Overflow) → IsFair st (rows_or_overflow limit r)
  fair_limited limit (Ok rs) = tt
  fair_limited limit (Err e) = (refl, refl)

  fair_row : (r : Result (List Value) Overflow) → IsFair st (row_or_overflow r)
  fair_row (Ok v) = tt
  fair_row (Err e) = (refl, refl)

  fair_gives : (output : Output) (order : List OrderPlace) (limit : Option ℤ) (rs : List (List Value)) (a : Answer) → Gives output order limit rs a → IsFair st a
  fair_gives Star order limit rs a g = subst (IsFair st) (sym g.2) tt
  fair_gives (Plain es) order limit rs a g = subst (IsFair st) (sym g.2) (fair_limited limit _)
  fair_gives (Totals ts) order limit rs a g = subst (IsFair st) (sym g) (fair_row _)

  pub fair_kept : (output : Output) (order : List OrderPlace) (limit : Option ℤ) (r : Result (List (List Value)) Overflow) (a : Answer) → GivesKept output order limit r a → IsFair st a
  fair_kept output order limit (Ok rs) a g = fair_gives output order limit rs a g
  fair_kept output order limit (Err e) a g = subst (IsFair st) (sym g) (refl, refl)

  pub unless : (o : Option Refusal) (Is : Type 0) (a : Answer) → (Is → IsFair st a) → MatchOption o Is (λ r. a ≡ refused (reply_of r)) → IsFair st a
  unless None Is a f p = f p
  unless (Some r) Is a f p = subst (IsFair st) (sym p) (fair_refusal st r)

abbrev IsWriting : Action → Type 0
IsWriting action.Create = Unit {0}
IsWriting (action.Insert tuples) = Unit {0}
IsWriting (action.Update sets test) = Unit {0}
IsWriting (action.Delete test) = Unit {0}
IsWriting (action.Select output test order limit) = ⊥
IsWriting action.Control = ⊥

does : (st : Stmt) (o : Option Schema) (there : List (List Value)) (act : Action) (a : Answer) → (IsWriting act → is_write st ≡ true) → Does o there act a → IsFair st a
does st o there action.Create a w e = does_write st (w tt) o there a e
does st o there (action.Insert tuples) a w e = does_insert st (w tt) o there tuples a e
does st o there (action.Update sets test) a w e = does_update st (w tt) o there sets test a e
does st o there (action.Delete test) a w e = does_delete st (w tt) o there test a e
does st o there (action.Select output test order limit) a w e = fair_kept st output order limit _ a e
does st o there action.Control a w e = absurd e

writing : (d : Database) (st : Stmt) → IsWriting (placed_action (scope d.schemas st) st) → is_write st ≡ true
writing d (stmt.Create s) w = refl
writing d (stmt.Insert t names tuples) w = refl
writing d (stmt.Update t sets test) w = refl
writing d (stmt.Delete t test) w = refl
writing d (stmt.Select q) w = absurd w
writing d stmt.Begin w = absurd w
writing d stmt.Commit w = absurd w
writing d stmt.Rollback w = absurd w

-- each answer over a database is fair
pub fair : FairAnswers AnswersOver
fair d st a p =
    let schema : Option Schema = target d.schemas st in
    let there : List (List Value) = source st (whole d.tables st) in
    let act : Action = placed_action (scope d.schemas st) st in
    unless st (refusal d.schemas st) (Does schema there act a) a (does st schema there act a (writing d st)) p
