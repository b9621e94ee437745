-- What a session that is alone can be told.
use Rattle.std.proofs.Common.{◌≡◌, ℕ, ℤ, Bool, true, false, List, [], ◌∷◌, Option, Some, None, Result, Ok, Err, inl, inr, sym, subst}
use Rattle.std.specs.Prelude.{if◌then◌else◌, MatchOption, length, option_map}
use Rattle.std.specs.List.{AllByRecursion, list_any}
use Rattle.sql_values.specs.declared.arithmetic.Overflow.{Overflow}
use Rattle.sql_values.specs.declared.schemas.Schema.{Schema}
use Rattle.sql_values.specs.declared.values.Value.{Value}
use Rattle.row_codec.specs.declared.TooLarge.{TooLarge}
use Rattle.row_codec.specs.Records.{key_cell}
use Rattle.sql_statements.specs.declared.statements.Stmt.{Stmt}
use Rattle.sql_statements.specs.declared.statements.Stmt.TheVariants as stmt
use Rattle.sql_meaning.specs.declared.actions.Action.{Action}
use Rattle.sql_meaning.specs.declared.actions.Action.TheVariants as action
use Rattle.sql_meaning.specs.declared.actions.OrderPlace.{OrderPlace}
use Rattle.sql_meaning.specs.declared.actions.Output.{Output}
use Rattle.sql_meaning.specs.declared.actions.Output.TheVariants.{Star, Plain, Totals}
use Rattle.sql_meaning.specs.declared.actions.SetPlace.{SetPlace}
use Rattle.sql_meaning.specs.declared.refusals.Refusal.{Refusal}
use Rattle.sql_meaning.specs.declared.refusals.Refusal.TheVariants as refusals
use Rattle.sql_meaning.specs.declared.resolved.Resolved.{Resolved}
use Rattle.sql_meaning.specs.Names.{scope}
use Rattle.sql_meaning.specs.Places.{placed_action}
use Rattle.sql_meaning.specs.Refusals.{refusal}
use Rattle.sql_meaning.specs.Terms.{term}
use Rattle.sql_database.specs.declared.changes.Change.{Change}
use Rattle.sql_database.specs.declared.replies.SqlReply.{SqlReply}
use Rattle.sql_database.specs.declared.replies.SqlReply.TheVariants as reply
use Rattle.sql_database.specs.Answers.{Answer, reply_to}
use Rattle.sql_exec.specs.Answer.{Does, Gives, GivesKept, of_rows, on_target, inserted, inserts, updates, deletes, placed_rows, removed_rows, reply_of, row_or_overflow, rows_or_overflow, source, target, wanted}
use Rattle.sql_exec.specs.Whole.{whole}
use Rattle.sql_database.specs.Catalog.{creation}
use Rattle.sql_exec.specs.Changes.{first_repeat, keys_of, placing, removal}
use Rattle.sql_exec.specs.Kept.{each, kept, set_all, values_in}
use Rattle.sql_exec.specs.Totals.{is_null}
use Rattle.sql_database.specs.Database.{Database}
use Rattle.table_machine.specs.Serving.{Evaluates, TableState, Turn, Turns, seen}
use Rattle.rmem_db.specs.Session.{IsOfOneSession, sql}

-- an answer that can be told
abbrev IsTold : Answer → Type 0
IsTold a = IsOfOneSession (reply_to a)

told_is : (a b : Answer) → a ≡ b → IsTold b → IsTold a
told_is a b e h = subst (λ (x : Answer). IsTold x) (sym e) h

refusal_told : (r : Refusal) → IsOfOneSession (reply_of r)
refusal_told (refusals.TableExists t) = tt
refusal_told (refusals.NoTable t) = tt
refusal_told (refusals.NoColumn c) = tt
refusal_told refusals.WrongType = tt

on_target_told : (s : Option Schema) (f : Schema → Answer) → ((x : Schema) → IsTold (f x)) → IsTold (on_target s f)
on_target_told None f h = tt
on_target_told (Some x) f h = h x

of_rows_told : (f : List (List Value) → Answer) (r : Result (List (List Value)) Overflow) → ((rs : List (List Value)) → IsTold (f rs)) → IsTold (of_rows f r)
of_rows_told f (Ok rs) h = h rs
of_rows_told f (Err e) h = tt

wanted_told : (n : ℕ) (dup : Option Value) (r : Result (List Change) TooLarge) → IsTold (wanted n dup r)
wanted_told n None (Ok cs) = tt
wanted_told n (Some k) (Ok cs) = tt
wanted_told n dup (Err e) = tt

unless_null : (b : Bool) (a c : Answer) → IsTold a → IsTold c → IsTold (if b then a else c)
unless_null true a c h k = h
unless_null false a c h k = k

rows_told : (limit : Option ℤ) (r : Result (List (List Value)) Overflow) → IsTold (rows_or_overflow limit r)
rows_told limit (Ok rs) = tt
rows_told limit (Err e) = tt

row_told : (r : Result (List Value) Overflow) → IsTold (row_or_overflow r)
row_told (Ok row) = tt
row_told (Err e) = tt

gives_told : (output : Output) (order : List OrderPlace) (limit : Option ℤ) (rs : List (List Value)) (a : Answer) → Gives output order limit rs a → IsTold a
gives_told Star order limit rs a h = told_is a _ h.2 tt
gives_told (Plain es) order limit rs a h = told_is a _ h.2 (rows_told limit _)
gives_told (Totals ts) order limit rs a h = told_is a _ h (row_told _)

kept_told : (output : Output) (order : List OrderPlace) (limit : Option ℤ) (r : Result (List (List Value)) Overflow) (a : Answer) → GivesKept output order limit r a → IsTold a
kept_told output order limit (Ok rs) a h = gives_told output order limit rs a h
kept_told output order limit (Err e) a h = told_is a _ h tt

inserted_told : (s : Schema) (there rs : List (List Value)) → IsTold (inserted s there rs)
inserted_told s there rs =
    let dup : Option Value = first_repeat (keys_of s.key there) (keys_of s.key rs) in
    let placed : Result (List Change) TooLarge = each (placing s) rs in
    unless_null (list_any (λ r. is_null (key_cell s.key r)) rs) (Answer.refused reply.NullKey) (wanted (length rs) dup placed) tt (wanted_told (length rs) dup placed)

placed_told : (s : Schema) (rs : List (List Value)) → IsTold (placed_rows s rs)
placed_told s rs = wanted_told (length rs) None (each (placing s) rs)

removed_told : (s : Schema) (rs : List (List Value)) → IsTold (removed_rows s rs)
removed_told s rs = wanted_told (length rs) None (each (removal s) rs)

inserts_told : (there : List (List Value)) (tuples : List (List Resolved)) (s : Schema) → IsTold (inserts s there tuples)
inserts_told there tuples s = of_rows_told (inserted s there) (each (λ t. values_in [] t) tuples) (inserted_told s there)

updates_told : (there : List (List Value)) (sets : List SetPlace) (test : Option Resolved) (s : Schema) → IsTold (updates s there sets test)
updates_told there sets test s =
    of_rows_told (λ olds. of_rows (placed_rows s) (each (λ r. set_all r r sets) olds)) (kept (option_map term test) there)
    (λ olds. of_rows_told (placed_rows s) (each (λ r. set_all r r sets) olds) (placed_told s))

deletes_told : (there : List (List Value)) (test : Option Resolved) (s : Schema) → IsTold (deletes s there test)
deletes_told there test s = of_rows_told (removed_rows s) (kept (option_map term test) there) (removed_told s)

-- what a statement does
does_told : (s : Option Schema) (there : List (List Value)) (act : Action) (a : Answer) → Does s there act a → IsTold a
does_told s there action.Create a h = told_is a (on_target s (λ x. Answer.wants (creation x ∷ []) 0 None)) h (on_target_told s (λ x. Answer.wants (creation x ∷ []) 0 None) (λ x. tt))
does_told s there (action.Insert tuples) a h =
    told_is a (on_target s (λ x. inserts x there tuples)) h (on_target_told s (λ x. inserts x there tuples) (inserts_told there tuples))
does_told s there (action.Update sets test) a h =
    told_is a (on_target s (λ x. updates x there sets test)) h (on_target_told s (λ x. updates x there sets test) (updates_told there sets test))
does_told s there (action.Delete test) a h =
    told_is a (on_target s (λ x. deletes x there test)) h (on_target_told s (λ x. deletes x there test) (deletes_told there test))
does_told s there (action.Select output test order limit) a h = kept_told output order limit (kept (option_map term test) there) a h
does_told s there action.Control a h = absurd h

answer_told : (o : Option Refusal) (s : Option Schema) (there : List (List Value)) (act : Action) (a : Answer)
    → MatchOption o (Does s there act a) (λ r. a ≡ Answer.refused (reply_of r)) → IsTold a
answer_told None s there act a h = does_told s there act a h
answer_told (Some r) s there act a h = told_is a _ h (refusal_told r)

reply_is : (r q : SqlReply) → r ≡ q → IsOfOneSession q → IsOfOneSession r
reply_is r q e h = subst IsOfOneSession (sym e) h

-- a statement that is evaluated
evaluates_told : (st : Stmt) (old : TableState) (r : SqlReply) (new : TableState) → Evaluates sql st old r new → IsOfOneSession r
evaluates_told st old r new (a, over, inl done) =
    let d : Database = seen old in
    reply_is r (reply_to a) done.0 (answer_told (refusal d.schemas st) (target d.schemas st) (source st (whole d.tables st)) (placed_action (scope d.schemas st) st) a over)
evaluates_told st old r new (a, over, inr full) = reply_is r reply.SpaceFull full.0 tt

-- a line
turn_told : (read : Result Stmt ℕ) (old : TableState) (r : SqlReply) (new : TableState) → Turn sql read old r new → IsOfOneSession r
turn_told (Err at) old r new h = reply_is r _ h.0 tt
turn_told (Ok stmt.Begin) old r new (inl h) = reply_is r _ h.1 tt
turn_told (Ok stmt.Begin) old r new (inr h) = reply_is r _ h.1 tt
turn_told (Ok stmt.Commit) old r new (inl h) = reply_is r _ h.2 tt
turn_told (Ok stmt.Commit) old r new (inr h) = reply_is r _ h.1 tt
turn_told (Ok stmt.Rollback) old r new (inl h) = reply_is r _ h.1 tt
turn_told (Ok stmt.Rollback) old r new (inr h) = reply_is r _ h.1 tt
turn_told (Ok (stmt.Create s)) old r new h = evaluates_told (stmt.Create s) old r new h
turn_told (Ok (stmt.Insert t names rows)) old r new h = evaluates_told (stmt.Insert t names rows) old r new h
turn_told (Ok (stmt.Update t sets test)) old r new h = evaluates_told (stmt.Update t sets test) old r new h
turn_told (Ok (stmt.Delete t test)) old r new h = evaluates_told (stmt.Delete t test) old r new h
turn_told (Ok (stmt.Select q)) old r new h = evaluates_told (stmt.Select q) old r new h

-- lines in turn are told nothing else
pub turns_told : (old : TableState) (lines : List (List ℕ)) (rs : List SqlReply) (new : TableState) → Turns sql old lines rs new → AllByRecursion IsOfOneSession rs
turns_told old [] rs new h = subst (AllByRecursion IsOfOneSession) (sym h.0) tt
turns_told old (line ∷ lines) rs new (read, r, between, more, reads, turn, rest, all) =
    subst (AllByRecursion IsOfOneSession) (sym all) (turn_told read old r between turn, turns_told between lines more new rest)
