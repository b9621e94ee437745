-- The changes that a statement wants can be made.
use Rattle.std.proofs.Common.{◌≡◌, ℕ, ℤ, Bool, true, false, ◌&&◌, if◌then◌else◌, List, [], ◌∷◌, ◌++◌, length, map, Option, Some, None, is_some, option_map, Result, Ok, Err, MatchOption, refl, sym, ap, subst, ◌∙◌}
use Rattle.std.specs.List.{AllByRecursion, list_all, list_any}
use Rattle.std.specs.Option.{option_map_or, option_or}
use Rattle.std.proofs.lemmas.Bool.{leb-true}
use Rattle.sql_values.specs.Tables.{table_named}
use Rattle.sql_values.specs.declared.arithmetic.Overflow.{Overflow}
use Rattle.sql_values.specs.declared.schemas.Schema.{Schema}
use Rattle.sql_values.specs.declared.values.Value.{Value}
use Rattle.row_codec.specs.declared.TooLarge.{TooLarge}
use Rattle.row_codec.specs.Keys.{key_bytes}
use Rattle.row_codec.specs.Records.{FitsSchema, fits_record, key_cell, record_length, value_bytes}
use Rattle.sql_statements.specs.declared.statements.Stmt.{Stmt}
use Rattle.sql_statements.specs.declared.statements.Stmt.TheVariants as stmt
use Rattle.sql_meaning.specs.declared.actions.OrderPlace.{OrderPlace}
use Rattle.sql_meaning.specs.declared.actions.Output.{Output}
use Rattle.sql_meaning.specs.declared.actions.Output.TheVariants.{Star, Plain, Totals}
use Rattle.sql_meaning.specs.declared.actions.SetPlace.{SetPlace}
use Rattle.sql_meaning.specs.declared.refusals.Refusal.{Refusal}
use Rattle.sql_meaning.specs.declared.refusals.Refusal.TheVariants.{NoColumn, TableExists, WrongType}
use Rattle.sql_meaning.specs.declared.resolved.Resolved.{Resolved}
use Rattle.sql_meaning.specs.Names.{scope, table_fields}
use Rattle.sql_meaning.specs.Places.{both_tests, placed_action, placed_on, placed_order, placed_output, placed_set, placed_test, placed_tuple}
use Rattle.sql_meaning.specs.Refusals.{counts_match, fits_fields, has_right_types, is_condition, is_right, refusal, set_key, sets_right, table_refusal, unknown_column}
use Rattle.sql_meaning.specs.Terms.{Term, term}
use Rattle.sql_plan.proofs.NeededTests.{and_both}
use Rattle.sql_database.specs.declared.changes.Change.{Change}
use Rattle.sql_database.specs.declared.replies.SqlReply.TheVariants as reply
use Rattle.sql_database.specs.Answers.{Answer, refused, rows, wants}
use Rattle.sql_exec.specs.Answer.{Does, Gives, GivesKept, deletes, inserted, inserts, of_rows, on_target, placed_rows, removed_rows, reply_of, row_or_overflow, rows_or_overflow, source, target, updates, wanted}
use Rattle.sql_exec.specs.Whole.{AnswersOver, whole}
use Rattle.sql_database.specs.Database.{Database}
use Rattle.sql_database.specs.Catalog.{creation}
use Rattle.sql_exec.specs.Changes.{first_repeat, fits_key, keys_of, placing, removal}
use Rattle.sql_exec.specs.Kept.{each, kept, set_all, values_in}
use Rattle.sql_exec.specs.Order.{limited}
use Rattle.sql_exec.specs.Totals.{is_null, total_of}
use Rattle.sql_engine.specs.Made.{Suits}
use Rattle.sql_engine.specs.Sound.{IsRow, IsSound}
use Rattle.sql_engine.proofs.FitLemmas.{each_has, each_length, kept_rows, ok_is, set_rows_fit, tuples_fit}
use Rattle.sql_engine.proofs.ListLemmas.{all_weaker}
use Rattle.sql_engine.proofs.NamedLemmas.{found_named}

-- a change of a row of the table with this schema
abbrev IsOf : List Schema → Schema → Type 0
IsOf schemas v = table_named schemas v.table ≡ Some v

if_ok : (b : Bool) (x y : Change) → (let r : Result Change TooLarge = if b then Ok x else Err (record {}) in r) ≡ Ok y → (b ≡ true) × (x ≡ y)
if_ok true x y h = (refl, ok_is {A = Change} {E = TooLarge} x y h)
if_ok false x y h = absurd cc

placed_suits : (schemas : List Schema) (v : Schema) → IsOf schemas v → (row : List Value) (c : Change) → FitsSchema v row → placing v row ≡ Ok c → Suits schemas c
unfolding placing
placed_suits schemas v named row c fit h =
    let is = if_ok (fits_key (key_bytes (key_cell v.key row)) && fits_record v.key row) (record { table = v.table; key = key_bytes (key_cell v.key row); row = Some row }) c h in
    let short = and_both (fits_key (key_bytes (key_cell v.key row))) (fits_record v.key row) is.0 in
    subst (Suits schemas) is.1 (record {
      schema = v;
      named = named;
      short = leb-true (length (key_bytes (key_cell v.key row))) 64 short.0;
      row = record {
        fits = fit;
        key_is = refl;
        short = leb-true (record_length (key_bytes (key_cell v.key row)) (value_bytes v.key row)) 1000 short.1;
      };
    })

removed_suits : (schemas : List Schema) (v : Schema) → IsOf schemas v → (row : List Value) (c : Change) → removal v row ≡ Ok c → Suits schemas c
unfolding removal
removed_suits schemas v named row c h =
    let is = if_ok (fits_key (key_bytes (key_cell v.key row))) (record { table = v.table; key = key_bytes (key_cell v.key row); row = None }) c h in
    subst (Suits schemas) is.1 (record {
      schema = v;
      named = named;
      short = leb-true (length (key_bytes (key_cell v.key row))) 64 is.0;
      row = tt;
    })

-- changes that can be made, as many as are told
pub record AreWanted (schemas : List Schema) (cs : List Change) (n : ℕ) : Type 0 where
  pub suit : AllByRecursion (Suits schemas) cs
  pub many : n ≡ length cs

record IsWanted (m : ℕ) (r : Result (List Change) TooLarge) (cs : List Change) (n : ℕ) : Type 0 where
  made_is : r ≡ Ok cs
  many : m ≡ n

wanted_is : (m : ℕ) (dup : Option Value) (r : Result (List Change) TooLarge) (cs : List Change) (n : ℕ) → wanted m dup r ≡ wants cs n None → IsWanted m r cs n
wanted_is m dup (Ok bs) cs n h = record { made_is = ap Ok cc; many = cc }
wanted_is m dup (Err x) cs n h = absurd cc

pub placed_wanted : (schemas : List Schema) (v : Schema) → IsOf schemas v → (m : ℕ) (dup : Option Value) (rs : List (List Value)) (cs : List Change) (n : ℕ) → m ≡ length rs → AllByRecursion (FitsSchema v) rs → wanted m dup (each (placing v) rs) ≡ wants cs n None → AreWanted schemas cs n
placed_wanted schemas v named m dup rs cs n long fit h =
    let is = wanted_is m dup (each (placing v) rs) cs n h in record {
      suit = each_has (FitsSchema v) (Suits schemas) (placing v) (placed_suits schemas v named) rs cs fit is.made_is;
      many = sym is.many ∙ long ∙ sym (each_length (placing v) rs cs is.made_is);
    }

pub removed_wanted : (schemas : List Schema) (v : Schema) → IsOf schemas v → (rs : List (List Value)) (cs : List Change) (n : ℕ) → AllByRecursion (FitsSchema v) rs → removed_rows v rs ≡ wants cs n None → AreWanted schemas cs n
removed_wanted schemas v named rs cs n fit h =
    let is = wanted_is (length rs) None (each (removal v) rs) cs n h in record {
      suit = each_has (FitsSchema v) (Suits schemas) (removal v) (λ row c row_fits made_is. removed_suits schemas v named row c made_is) rs cs fit is.made_is;
      many = sym is.many ∙ sym (each_length (removal v) rs cs is.made_is);
    }

unless_null : (b : Bool) (a : Answer) (cs : List Change) (n : ℕ) → (if b then refused reply.NullKey else a) ≡ wants cs n None → (b ≡ false) × (a ≡ wants cs n None)
unless_null true a cs n h = absurd cc
unless_null false a cs n h = (refl, h)

-- what an INSERT wants
insert_wanted : (schemas : List Schema) (v : Schema) → IsOf schemas v → (there : List (List Value)) (tuples : List (List Resolved)) (r : Result (List (List Value)) Overflow) (cs : List Change) (n : ℕ) → list_all (fits_fields (table_fields v ++ [])) tuples ≡ true → each (λ t. values_in [] t) tuples ≡ r → of_rows (inserted v there) r ≡ wants cs n None → AreWanted schemas cs n
insert_wanted schemas v named there tuples (Ok rs) cs n h e g =
    let is = unless_null (list_any (λ r. is_null (key_cell v.key r)) rs) (wanted (length rs) (first_repeat (keys_of v.key there) (keys_of v.key rs)) (each (placing v) rs)) cs n g in
    placed_wanted schemas v named (length rs) (first_repeat (keys_of v.key there) (keys_of v.key rs)) rs cs n refl (tuples_fit v tuples rs h e is.0) is.1
insert_wanted schemas v named there tuples (Err x) cs n h e g = absurd cc

-- what an UPDATE wants
set_wanted : (schemas : List Schema) (v : Schema) → IsOf schemas v → (sets : List SetPlace) (olds : List (List Value)) (r : Result (List (List Value)) Overflow) (cs : List Change) (n : ℕ) → list_all (sets_right (table_fields v ++ []) v.key) sets ≡ true → AllByRecursion (FitsSchema v) olds → each (λ q. set_all q q sets) olds ≡ r → of_rows (placed_rows v) r ≡ wants cs n None → AreWanted schemas cs n
set_wanted schemas v named sets olds (Ok news) cs n h fit e g = placed_wanted schemas v named (length news) None news cs n refl (set_rows_fit v sets olds news h fit e) g
set_wanted schemas v named sets olds (Err x) cs n h fit e g = absurd cc

update_wanted : (schemas : List Schema) (v : Schema) → IsOf schemas v → (there : List (List Value)) (sets : List SetPlace) (test : Option Term) (r : Result (List (List Value)) Overflow) (cs : List Change) (n : ℕ) → list_all (sets_right (table_fields v ++ []) v.key) sets ≡ true → AllByRecursion (FitsSchema v) there → kept test there ≡ r → of_rows (λ olds. of_rows (placed_rows v) (each (λ q. set_all q q sets) olds)) r ≡ wants cs n None → AreWanted schemas cs n
update_wanted schemas v named there sets test (Ok olds) cs n h fit e g = set_wanted schemas v named sets olds (each (λ q. set_all q q sets) olds) cs n h (kept_rows (FitsSchema v) test there olds fit e) refl g
update_wanted schemas v named there sets test (Err x) cs n h fit e g = absurd cc

-- what a DELETE wants
delete_wanted : (schemas : List Schema) (v : Schema) → IsOf schemas v → (there : List (List Value)) (test : Option Term) (r : Result (List (List Value)) Overflow) (cs : List Change) (n : ℕ) → AllByRecursion (FitsSchema v) there → kept test there ≡ r → of_rows (removed_rows v) r ≡ wants cs n None → AreWanted schemas cs n
delete_wanted schemas v named there test (Ok olds) cs n fit e g = removed_wanted schemas v named olds cs n (kept_rows (FitsSchema v) test there olds fit e) g
delete_wanted schemas v named there test (Err x) cs n fit e g = absurd cc

-- a SELECT wants no changes
of_rows_none : (limit : Option ℤ) (r : Result (List (List Value)) Overflow) (cs : List Change) (n : ℕ) → wants cs n None ≡ rows_or_overflow limit r → ⊥
of_rows_none limit (Ok rs) cs n h = cc
of_rows_none limit (Err x) cs n h = cc

of_row_none : (r : Result (List Value) Overflow) (cs : List Change) (n : ℕ) → wants cs n None ≡ row_or_overflow r → ⊥
of_row_none (Ok r) cs n h = cc
of_row_none (Err x) cs n h = cc

gives_none : (output : Output) (order : List OrderPlace) (limit : Option ℤ) (rs : List (List Value)) (cs : List Change) (n : ℕ) → Gives output order limit rs (wants cs n None) → ⊥
gives_none Star order limit rs cs n h = let e : wants cs n None ≡ rows (limited limit h.0) = h.2 in cc
gives_none (Plain es) order limit rs cs n h = of_rows_none limit (each (λ r. values_in r es) h.0) cs n h.2
gives_none (Totals ts) order limit rs cs n h = of_row_none (each (total_of rs) ts) cs n h

select_none : (output : Output) (order : List OrderPlace) (limit : Option ℤ) (r : Result (List (List Value)) Overflow) (cs : List Change) (n : ℕ) → GivesKept output order limit r (wants cs n None) → ⊥
select_none output order limit (Ok rs) cs n h = gives_none output order limit rs cs n h
select_none output order limit (Err x) cs n h = cc

-- the schema of the table that changes are wanted for, and what is wanted there
record ForTarget (o : Option Schema) (f : Schema → Answer) (cs : List Change) (n : ℕ) : Type 0 where
  schema : Schema
  found : o ≡ Some schema
  wanted_is : f schema ≡ wants cs n None

for_target : (o : Option Schema) (f : Schema → Answer) (cs : List Change) (n : ℕ) → wants cs n None ≡ on_target o f → ForTarget o f cs n
for_target None f cs n h = absurd cc
for_target (Some v) f cs n h = record { schema = v; found = refl; wanted_is = sym h }

right_types : (a b : Option Refusal) (c : Bool) → option_or a (option_or b (if c then None else Some WrongType)) ≡ None → c ≡ true
right_types None None true h = refl
right_types None None false h = absurd cc
right_types None (Some b) c h = absurd cc
right_types (Some a) b c h = absurd cc

-- a statement that is not refused has operands of the right sorts
is_right_one : (schemas : List Schema) (s : Stmt) → refusal schemas s ≡ None → is_right (scope schemas s) (set_key schemas s) (placed_action (scope schemas s) s) ≡ true
unfolding has_right_types
is_right_one schemas s h =
    (and_both (counts_match (scope schemas s) s) (is_right (scope schemas s) (set_key schemas s) (placed_action (scope schemas s) s))
    (right_types (table_refusal schemas s) (option_map NoColumn (unknown_column schemas s)) (has_right_types schemas s) h)).1

is_own : (schemas : List Schema) (t : List ℕ) (v : Schema) → table_named schemas t ≡ Some v → IsOf schemas v
is_own schemas t v e = ap (table_named schemas) (found_named schemas t v e) ∙ e

rows_fit : (d : Database) → IsSound d → (t : List ℕ) (v : Schema) → table_named d.schemas t ≡ Some v → AllByRecursion (FitsSchema v) (d.tables t)
rows_fit d sound t v e = all_weaker (IsRow v) (FitsSchema v) (λ r row. row.fits) (d.tables t) (sound.rows t v e)

-- a statement that makes no table
abbrev pub ChangesRows : Stmt → Type 0
ChangesRows (stmt.Create s) = ⊥
ChangesRows (stmt.Insert t names tuples) = Unit {0}
ChangesRows (stmt.Update t sets test) = Unit {0}
ChangesRows (stmt.Delete t test) = Unit {0}
ChangesRows (stmt.Select q) = Unit {0}
ChangesRows stmt.Begin = Unit {0}
ChangesRows stmt.Commit = Unit {0}
ChangesRows stmt.Rollback = Unit {0}

does_want : (d : Database) → IsSound d → (s : Stmt) → ChangesRows s → (cs : List Change) (n : ℕ) → refusal d.schemas s ≡ None → Does (target d.schemas s) (source s (whole d.tables s)) (placed_action (scope d.schemas s) s) (wants cs n None) → AreWanted d.schemas cs n
does_want d sound (stmt.Create s) changes cs n none h = absurd changes
does_want d sound (stmt.Insert t names tuples) changes cs n none h =
    let acts = map (placed_tuple (scope d.schemas (stmt.Insert t names tuples)) names) tuples in
    let there = for_target (table_named d.schemas t) (λ v. inserts v (d.tables t) acts) cs n h in
    insert_wanted d.schemas there.schema (is_own d.schemas t there.schema there.found) (d.tables t) acts (each (λ q. values_in [] q) acts) cs n
    (subst (λ (o : Option Schema). list_all (fits_fields (option_map_or table_fields o [] ++ [])) acts ≡ true) there.found (is_right_one d.schemas (stmt.Insert t names tuples) none)) refl there.wanted_is
does_want d sound (stmt.Update t sets test) changes cs n none h =
    let acts = map (placed_set (scope d.schemas (stmt.Update t sets test))) sets in
    let kept_by = option_map term (placed_test (scope d.schemas (stmt.Update t sets test)) test) in
    let there = for_target (table_named d.schemas t) (λ v. updates v (d.tables t) acts (placed_test (scope d.schemas (stmt.Update t sets test)) test)) cs n h in
    let right = (and_both (list_all (sets_right (scope d.schemas (stmt.Update t sets test)) (set_key d.schemas (stmt.Update t sets test))) acts) (is_condition (scope d.schemas (stmt.Update t sets test)) (placed_test (scope d.schemas (stmt.Update t sets test)) test)) (is_right_one d.schemas (stmt.Update t sets test) none)).0 in
    update_wanted d.schemas there.schema (is_own d.schemas t there.schema there.found) (d.tables t) acts kept_by (kept kept_by (d.tables t)) cs n
    (subst (λ (o : Option Schema). list_all (sets_right (option_map_or table_fields o [] ++ []) (option_map_or (λ (w : Schema). w.key) o 0)) acts ≡ true) there.found right)
    (rows_fit d sound t there.schema there.found) refl there.wanted_is
does_want d sound (stmt.Delete t test) changes cs n none h =
    let kept_by = option_map term (placed_test (scope d.schemas (stmt.Delete t test)) test) in
    let there = for_target (table_named d.schemas t) (λ v. deletes v (d.tables t) (placed_test (scope d.schemas (stmt.Delete t test)) test)) cs n h in
    delete_wanted d.schemas there.schema (is_own d.schemas t there.schema there.found) (d.tables t) kept_by (kept kept_by (d.tables t)) cs n (rows_fit d sound t there.schema there.found) refl there.wanted_is
does_want d sound (stmt.Select q) changes cs n none h =
    let fields = scope d.schemas (stmt.Select q) in
    let test = both_tests (placed_on fields q.join) (placed_test fields q.test) in
    absurd (select_none (placed_output fields q.items) (map (placed_order fields) q.order) q.limit (kept (option_map term test) (source (stmt.Select q) (whole d.tables (stmt.Select q)))) cs n h)
does_want d sound stmt.Begin changes cs n none h = absurd h
does_want d sound stmt.Commit changes cs n none h = absurd h
does_want d sound stmt.Rollback changes cs n none h = absurd h

-- a statement that wants changes is not refused
not_refused : (r : Option Refusal) (P : Type 0) (cs : List Change) (n : ℕ) → MatchOption r P (λ q. wants cs n None ≡ refused (reply_of q)) → (r ≡ None) × P
not_refused None P cs n h = (refl, h)
not_refused (Some q) P cs n h = absurd cc

-- what a statement that makes no table wants
pub rows_wanted : (d : Database) → IsSound d → (s : Stmt) → ChangesRows s → (cs : List Change) (n : ℕ) → AnswersOver d s (wants cs n None) → AreWanted d.schemas cs n
rows_wanted d sound s changes cs n h =
    let is = not_refused (refusal d.schemas s) (Does (target d.schemas s) (source s (whole d.tables s)) (placed_action (scope d.schemas s) s) (wants cs n None)) cs n h in
    does_want d sound s changes cs n is.0 is.1

-- a table that is wanted, which is not there, and the one change that makes it
pub record IsTableWanted (schemas : List Schema) (s : Schema) (cs : List Change) (n : ℕ) : Type 0 where
  pub absent : table_named schemas s.table ≡ None
  pub changes : cs ≡ creation s ∷ []
  pub many : n ≡ 0

no_such : (o : Option Schema) (t : List ℕ) (more : Option Refusal) → option_or (option_or (if is_some o then Some (TableExists t) else None) None) more ≡ None → o ≡ None
no_such None t more h = refl
no_such (Some v) t more h = absurd cc

pub table_wanted : (d : Database) (s : Schema) (cs : List Change) (n : ℕ) → AnswersOver d (stmt.Create s) (wants cs n None) → IsTableWanted d.schemas s cs n
unfolding table_refusal
table_wanted d s cs n h =
    let is = not_refused (refusal d.schemas (stmt.Create s)) (Does (target d.schemas (stmt.Create s)) (source (stmt.Create s) (whole d.tables (stmt.Create s))) (placed_action (scope d.schemas (stmt.Create s)) (stmt.Create s)) (wants cs n None)) cs n h in
    let wanted_it : wants cs n None ≡ wants (creation s ∷ []) 0 None = is.1 in record {
      absent = no_such (table_named d.schemas s.table) s.table (option_or (option_map NoColumn (unknown_column d.schemas (stmt.Create s))) (if has_right_types d.schemas (stmt.Create s) then None else Some WrongType)) is.0;
      changes = cc;
      many = cc;
    }
