-- A SELECT wants no changes.
use Rattle.std.proofs.Common.{◌≡◌, ℤ, Bool, true, false, List, Option, Some, None, sym, subst}
use Rattle.std.specs.Prelude.{Result, Ok, Err, MatchOption}
use Rattle.sql_values.specs.declared.arithmetic.Overflow.{Overflow}
use Rattle.sql_values.specs.declared.schemas.Schema.{Schema}
use Rattle.sql_values.specs.declared.values.Value.{Value}
use Rattle.sql_statements.specs.declared.statements.Stmt.{Stmt}
use Rattle.sql_statements.specs.declared.statements.Stmt.TheVariants as stmt
use Rattle.sql_meaning.specs.declared.actions.OrderPlace.{OrderPlace}
use Rattle.sql_meaning.specs.declared.actions.Output.{Output}
use Rattle.sql_meaning.specs.declared.actions.Output.TheVariants.{Star, Plain, Totals}
use Rattle.sql_meaning.specs.declared.refusals.Refusal.{Refusal}
use Rattle.sql_meaning.specs.Refusals.{refusal}
use Rattle.sql_database.specs.Answers.{Answer, rows, refused, wants}
use Rattle.sql_database.specs.Statements.{is_select}
use Rattle.sql_exec.specs.declared.outcomes.Outcome.{Outcome}
use Rattle.sql_exec.specs.declared.rows.RangeRows.{RangeRows}
use Rattle.sql_exec.specs.Answer.{Answers, ComesFrom, Gives, GivesKept, outcome_of, reply_of, row_or_overflow, rows_or_overflow}
use Rattle.ro_worker.specs.Laws.{ChangesNothing}

false_true : {A : Type 0} → false ≡ true → A
false_true e = absurd (apart e)
  where
    apart : false ≡ true → ⊥
    apart q = cc

abbrev WantsNone : Answer → Type 0
WantsNone (rows rs) = Unit {0}
WantsNone (refused r) = Unit {0}
WantsNone (wants cs n key) = ⊥

none_of : (a b : Answer) → a ≡ b → WantsNone b → WantsNone a
none_of a b e h = subst WantsNone (sym e) h

rows_none : (limit : Option ℤ) (r : Result (List (List Value)) Overflow) → WantsNone (rows_or_overflow limit r)
rows_none limit (Ok rs) = tt
rows_none limit (Err e) = tt

row_none : (r : Result (List Value) Overflow) → WantsNone (row_or_overflow r)
row_none (Ok r) = tt
row_none (Err e) = tt

gives_none : (output : Output) (order : List OrderPlace) (limit : Option ℤ) (rs : List (List Value)) (a : Answer) → Gives output order limit rs a → WantsNone a
gives_none Star order limit rs a (sorted, o, e) = none_of a _ e tt
gives_none (Plain es) order limit rs a (sorted, o, e) = none_of a _ e (rows_none limit _)
gives_none (Totals ts) order limit rs a e = none_of a _ e (row_none _)

kept_none : (output : Output) (order : List OrderPlace) (limit : Option ℤ) (r : Result (List (List Value)) Overflow) (a : Answer)
    → GivesKept output order limit r a → WantsNone a
kept_none output order limit (Ok rs) a h = gives_none output order limit rs a h
kept_none output order limit (Err e) a h = none_of a _ h tt

judged_none : (o : Option Refusal) (D : Type 0) (a : Answer) → (D → WantsNone a) → MatchOption o D (λ r. a ≡ refused (reply_of r)) → WantsNone a
judged_none None D a f h = f h
judged_none (Some r) D a f h = none_of a _ h tt

select_none : (st : Stmt) (schemas : List Schema) (given : RangeRows) (a : Answer) → is_select st ≡ true → Answers schemas given st a → WantsNone a
select_none (stmt.Select q) schemas given a e h = judged_none (refusal schemas (stmt.Select q)) _ a (λ d. kept_none _ _ _ _ a d) h
select_none (stmt.Create s) schemas given a e h = false_true e
select_none (stmt.Insert t names tuples) schemas given a e h = false_true e
select_none (stmt.Update t sets test) schemas given a e h = false_true e
select_none (stmt.Delete t test) schemas given a e h = false_true e
select_none stmt.Begin schemas given a e h = false_true e
select_none stmt.Commit schemas given a e h = false_true e
select_none stmt.Rollback schemas given a e h = false_true e

changes_none : (a : Answer) → WantsNone a → ChangesNothing (outcome_of a)
changes_none (rows rs) h = tt
changes_none (refused r) h = tt
changes_none (wants cs n key) h = absurd h

pub select_changes_nothing : (st : Stmt) (schemas : List Schema) (given : RangeRows) (o : Outcome) → is_select st ≡ true
    → ComesFrom (Answers schemas given st) o → ChangesNothing o
select_changes_nothing st schemas given o e c = subst ChangesNothing (sym c.gives) (changes_none c.answer (select_none st schemas given c.answer e c.is))
