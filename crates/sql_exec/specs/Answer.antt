-- Stated: what a statement answers over given rows.
use Rattle.std.specs.Prelude.{◌≡◌, ℕ, ℤ, Bool, false, is_some, if◌then◌else◌, List, [], ◌∷◌, length, Option, Some, None, Result, Ok, Err, option_map, MatchOption}
use Rattle.std.specs.List.{list_any}
use Rattle.std.specs.Option.{option_map_or}
use Rattle.sql_values.specs.Tables.{table_named}
use Rattle.sql_values.specs.declared.arithmetic.Overflow.{Overflow}
use Rattle.sql_values.specs.declared.schemas.Schema.{Schema}
use Rattle.sql_values.specs.declared.values.Value.{Value}
use Rattle.row_codec.specs.declared.TooLarge.{TooLarge}
use Rattle.row_codec.specs.Records.{key_cell}
use Rattle.sql_statements.specs.declared.statements.Stmt.{Stmt}
use Rattle.sql_statements.specs.declared.statements.Stmt.TheVariants as stmt
use Rattle.sql_meaning.specs.declared.resolved.Resolved.{Resolved}
use Rattle.sql_meaning.specs.declared.actions.OrderPlace.{OrderPlace}
use Rattle.sql_meaning.specs.declared.actions.Output.{Output}
use Rattle.sql_meaning.specs.declared.actions.Output.TheVariants.{Star, Plain, Totals}
use Rattle.sql_meaning.specs.declared.actions.SetPlace.{SetPlace}
use Rattle.sql_meaning.specs.declared.actions.Action.{Action}
use Rattle.sql_meaning.specs.declared.actions.Action.TheVariants as action
use Rattle.sql_meaning.specs.declared.refusals.Refusal.{Refusal}
use Rattle.sql_meaning.specs.declared.refusals.Refusal.TheVariants as refusals
use Rattle.sql_meaning.specs.Names.{scope}
use Rattle.sql_meaning.specs.Places.{placed_action}
use Rattle.sql_meaning.specs.Refusals.{refusal}
use Rattle.sql_meaning.specs.Terms.{term}
use Rattle.sql_database.specs.declared.changes.Change.{Change}
use Rattle.sql_database.specs.declared.replies.SqlReply.{SqlReply}
use Rattle.sql_database.specs.declared.replies.SqlReply.TheVariants as reply
use Rattle.sql_exec.specs.declared.outcomes.Outcome.{Outcome}
use Rattle.sql_exec.specs.declared.outcomes.Outcome.TheVariants as outcome
use Rattle.sql_exec.specs.declared.rows.RangeRows.{RangeRows}
use Rattle.sql_database.specs.Answers.{Answer, rows, refused, wants}
use Rattle.sql_database.specs.Catalog.{creation}
use Rattle.sql_exec.specs.Changes.{placing, removal, first_repeat, keys_of}
use Rattle.sql_exec.specs.Kept.{each, kept, values_in, set_all, pairs}
use Rattle.sql_exec.specs.Order.{IsOrdered, limited}
use Rattle.sql_exec.specs.Totals.{is_null, total_of}

abbrev pub reply_of : Refusal → SqlReply
reply_of (refusals.TableExists t) = reply.TableExists t
reply_of (refusals.NoTable t) = reply.NoTable t
reply_of (refusals.NoColumn c) = reply.NoColumn c
reply_of refusals.WrongType = reply.WrongType

-- the rows that a statement's test sees: of its table, or the pairs of both
abbrev pub source : Stmt → RangeRows → List (List Value)
source (stmt.Select q) given = option_map_or (λ j. pairs given.left given.right) q.join given.left
source (stmt.Insert t names tuples) given = given.left
source (stmt.Update t sets test) given = given.left
source (stmt.Delete t test) given = given.left
source (stmt.Create s) given = given.left
source stmt.Begin given = given.left
source stmt.Commit given = given.left
source stmt.Rollback given = given.left

abbrev pub rows_or_overflow : Option ℤ → Result (List (List Value)) Overflow → Answer
rows_or_overflow limit (Ok rs) = rows (limited limit rs)
rows_or_overflow limit (Err e) = refused reply.Overflow

abbrev pub row_or_overflow : Result (List Value) Overflow → Answer
row_or_overflow (Ok r) = rows (r ∷ [])
row_or_overflow (Err e) = refused reply.Overflow

-- the rows that were kept, put in order, with the items of each, and cut
abbrev pub Gives : Output → List OrderPlace → Option ℤ → List (List Value) → Answer → Type 0
Gives Star order limit rs a = (sorted : List (List Value)) × IsOrdered order rs sorted × (a ≡ rows (limited limit sorted))
Gives (Plain es) order limit rs a =
    (sorted : List (List Value)) × IsOrdered order rs sorted × (a ≡ rows_or_overflow limit (each (λ r. values_in r es) sorted))
Gives (Totals ts) order limit rs a = a ≡ row_or_overflow (each (total_of rs) ts)

abbrev pub GivesKept : Output → List OrderPlace → Option ℤ → Result (List (List Value)) Overflow → Answer → Type 0
GivesKept output order limit (Ok rs) a = Gives output order limit rs a
GivesKept output order limit (Err e) a = a ≡ refused reply.Overflow

abbrev pub of_rows : (List (List Value) → Answer) → Result (List (List Value)) Overflow → Answer
of_rows f (Ok rs) = f rs
of_rows f (Err e) = refused reply.Overflow

abbrev pub wanted : ℕ → Option Value → Result (List Change) TooLarge → Answer
wanted n dup (Ok cs) = wants cs n dup
wanted n dup (Err e) = refused reply.TooLarge

-- new rows: no key is NULL, then none is too large, then the first key that is there or in an earlier tuple
abbrev pub inserted : Schema → List (List Value) → List (List Value) → Answer
inserted schema there rs =
    if list_any (λ r. is_null (key_cell schema.key r)) rs then refused reply.NullKey
    else wanted (length rs) (first_repeat (keys_of schema.key there) (keys_of schema.key rs)) (each (placing schema) rs)

abbrev pub placed_rows : Schema → List (List Value) → Answer
placed_rows schema rs = wanted (length rs) None (each (placing schema) rs)

abbrev pub removed_rows : Schema → List (List Value) → Answer
removed_rows schema rs = wanted (length rs) None (each (removal schema) rs)

abbrev pub inserts : Schema → List (List Value) → List (List Resolved) → Answer
inserts schema there tuples = of_rows (inserted schema there) (each (λ t. values_in [] t) tuples)

abbrev pub updates : Schema → List (List Value) → List SetPlace → Option Resolved → Answer
updates schema there sets test =
    of_rows (λ olds. of_rows (placed_rows schema) (each (λ r. set_all r r sets) olds)) (kept (option_map term test) there)

abbrev pub deletes : Schema → List (List Value) → Option Resolved → Answer
deletes schema there test = of_rows (removed_rows schema) (kept (option_map term test) there)

-- the schema of the table that a statement changes; one that is not refused has it
abbrev pub target : List Schema → Stmt → Option Schema
target schemas (stmt.Create s) = Some s
target schemas (stmt.Insert t names tuples) = table_named schemas t
target schemas (stmt.Update t sets test) = table_named schemas t
target schemas (stmt.Delete t test) = table_named schemas t
target schemas (stmt.Select q) = None
target schemas stmt.Begin = None
target schemas stmt.Commit = None
target schemas stmt.Rollback = None

abbrev pub on_target : Option Schema → (Schema → Answer) → Answer
on_target None f = rows []
on_target (Some s) f = f s

-- what a statement that is not refused before answers
abbrev pub Does : Option Schema → List (List Value) → Action → Answer → Type 0
Does schema there action.Create a = a ≡ on_target schema (λ s. wants (creation s ∷ []) 0 None)
Does schema there (action.Insert tuples) a = a ≡ on_target schema (λ s. inserts s there tuples)
Does schema there (action.Update sets test) a = a ≡ on_target schema (λ s. updates s there sets test)
Does schema there (action.Delete test) a = a ≡ on_target schema (λ s. deletes s there test)
Does schema there (action.Select output test order limit) a = GivesKept output order limit (kept (option_map term test) there) a
Does schema there action.Control a = ⊥

-- the answer over these rows
abbrev pub Answers : List Schema → RangeRows → Stmt → Answer → Type 0
Answers schemas given s a =
    MatchOption (refusal schemas s)
    (Does (target schemas s) (source s given) (placed_action (scope schemas s) s) a)
    (λ r. a ≡ refused (reply_of r))

-- an answer as an outcome: the count of rows is not handed on
abbrev pub outcome_of : Answer → Outcome
outcome_of (rows rs) = outcome.Rows rs
outcome_of (refused r) = outcome.Refused r
outcome_of (wants cs n None) = outcome.Changes cs
outcome_of (wants cs n (Some k)) = outcome.Duplicate (record { changes = cs; key = k })

-- an outcome that comes from an answer of the kind that is asked
pub record ComesFrom (Is : Answer → Type 0) (o : Outcome) : Type 0 where
  pub answer : Answer
  pub is : Is answer
  pub gives : o ≡ outcome_of answer

abbrev pub is_join : Stmt → Bool
is_join (stmt.Select q) = is_some q.join
is_join (stmt.Create s) = false
is_join (stmt.Insert t names tuples) = false
is_join (stmt.Update t sets test) = false
is_join (stmt.Delete t test) = false
is_join stmt.Begin = false
is_join stmt.Commit = false
is_join stmt.Rollback = false

abbrev pub IsAct : Action → Type 0
IsAct action.Create = Unit {0}
IsAct (action.Insert tuples) = Unit {0}
IsAct (action.Update sets test) = Unit {0}
IsAct (action.Delete test) = Unit {0}
IsAct (action.Select output test order limit) = Unit {0}
IsAct action.Control = ⊥
