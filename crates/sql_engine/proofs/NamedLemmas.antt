-- A statement is over the schemas of the tables that it names what it is over all schemas.
use Rattle.std.proofs.Common.{◌≡◌, ℕ, Bool, true, false, ◌&&◌, if◌then◌else◌, List, [], ◌∷◌, ◌++◌, Option, Some, None, is_none, is_some, option_map, option_to_list, find, flat_map, MatchOption, refl, sym, ap, subst, ◌∙◌}
use Rattle.std.specs.List.{AllByRecursion}
use Rattle.std.specs.Option.{option_map_or, option_or}
use Rattle.std.specs.Str.{bytes_eq}
use Rattle.std.proofs.lemmas.Slice.Eq.{bytes_eq-Decides}
use Rattle.sql_values.specs.Tables.{table_named}
use Rattle.sql_values.specs.declared.schemas.Schema.{Schema}
use Rattle.sql_statements.specs.declared.statements.Stmt.{Stmt}
use Rattle.sql_statements.specs.declared.statements.Stmt.TheVariants as stmt
use Rattle.sql_meaning.specs.declared.fields.Field.{Field}
use Rattle.sql_meaning.specs.declared.refusals.Refusal.{Refusal}
use Rattle.sql_meaning.specs.declared.refusals.Refusal.TheVariants.{TableExists, NoTable, NoColumn, WrongType}
use Rattle.sql_meaning.specs.Names.{table_fields, tables, scope, table_mentions, tuple_mentions, first_unknown}
use Rattle.sql_meaning.specs.Places.{placed_action}
use Rattle.sql_meaning.specs.Refusals.{refusal, exists, first_missing, table_refusal, unknown_column, has_right_types, set_key, counts_match, is_right}
use Rattle.sql_exec.specs.declared.rows.RangeRows.{RangeRows}
use Rattle.sql_database.specs.Answers.{Answer, refused}
use Rattle.sql_exec.specs.Answer.{Answers, Does, reply_of, source, target}
use Rattle.sql_engine.specs.Read.{AreOf, mentioned, schemas_named}

pub same_text : (a b : List ℕ) → bytes_eq a b ≡ true → a ≡ b
same_text a b h = (bytes_eq-Decides a b).0 h

pub text_is : (a b : List ℕ) → a ≡ b → bytes_eq a b ≡ true
text_is a b h = (bytes_eq-Decides a b).1 h

found_first : (x : Schema) (rest : Option Schema) (t : List ℕ) (s : Schema) (b : Bool) → bytes_eq x.table t ≡ b → (rest ≡ Some s → s.table ≡ t) → (if b then Some x else rest) ≡ Some s → s.table ≡ t
found_first x rest t s true e f h = let same : x ≡ s = cc in ap (λ (q : Schema). q.table) (sym same) ∙ same_text x.table t e
found_first x rest t s false e f h = f h

-- what is found by a name has it
pub found_named : (schemas : List Schema) (t : List ℕ) (s : Schema) → table_named schemas t ≡ Some s → s.table ≡ t
found_named [] t s h = cc
found_named (x ∷ xs) t s h = found_first x (table_named xs t) t s (bytes_eq x.table t) refl (found_named xs t s) h

-- a schema that has the name is found before all others
first_here : (s : Schema) (t : List ℕ) (more : List Schema) → s.table ≡ t → table_named (s ∷ more) t ≡ Some s
first_here s t more h = ap (λ b. if b then Some s else table_named more t) (text_is s.table t h)

pass_over : (s : Schema) (t : List ℕ) (more : List Schema) → bytes_eq s.table t ≡ false → table_named (s ∷ more) t ≡ table_named more t
pass_over s t more h = ap (λ b. if b then Some s else table_named more t) h

-- the schema of a name, where there is one
abbrev IsFor : Option Schema → List ℕ → Type 0
IsFor o t = (s : Schema) → o ≡ Some s → s.table ≡ t

one_named : (o : Option Schema) (t : List ℕ) → IsFor o t → table_named (option_to_list o ++ []) t ≡ o
one_named None t f = refl
one_named (Some s) t f = first_here s t [] (f s refl)

left_named : (o p : Option Schema) (t u : List ℕ) → IsFor o t → IsFor p u → (t ≡ u → o ≡ p) → table_named (option_to_list o ++ (option_to_list p ++ [])) t ≡ o
left_named (Some s) p t u f g same = first_here s t (option_to_list p ++ []) (f s refl)
left_named None None t u f g same = refl
left_named None (Some v) t u f g same = other (bytes_eq v.table t) refl
  where
    other : (b : Bool) → bytes_eq v.table t ≡ b → table_named (v ∷ []) t ≡ None
    other true e = let none : None ≡ Some v = same (sym (same_text v.table t e) ∙ g v refl) in cc
    other false e = pass_over v t [] e

right_named : (o p : Option Schema) (t u : List ℕ) → IsFor o t → IsFor p u → (t ≡ u → o ≡ p) → table_named (option_to_list o ++ (option_to_list p ++ [])) u ≡ p
right_named None p t u f g same = one_named p u g
right_named (Some s) p t u f g same = other (bytes_eq s.table u) refl
  where
    other : (b : Bool) → bytes_eq s.table u ≡ b → table_named (s ∷ (option_to_list p ++ [])) u ≡ p
    other true e = first_here s u (option_to_list p ++ []) (same_text s.table u e) ∙ same (sym (f s refl) ∙ same_text s.table u e)
    other false e = pass_over s u (option_to_list p ++ []) e ∙ one_named p u g

-- two lists of schemas that have the same ones under these names
abbrev pub SameNamed : List Schema → List Schema → List (List ℕ) → Type 0
SameNamed as_ bs names = AllByRecursion (λ t. table_named as_ t ≡ table_named bs t) names

by_join : (all : List Schema) (left : List ℕ) (right : Option (List ℕ)) → SameNamed (schemas_named all (left ∷ option_to_list right)) all (left ∷ option_to_list right)
by_join all left None = (one_named (table_named all left) left (found_named all left), tt)
by_join all left (Some right) = (
  left_named (table_named all left) (table_named all right) left right (found_named all left) (found_named all right) (ap (table_named all)),
  (right_named (table_named all left) (table_named all right) left right (found_named all left) (found_named all right) (ap (table_named all)), tt),
)

-- the schemas of the tables that a statement names are those of all under these names
pub same_named : (all : List Schema) (s : Stmt) → SameNamed (schemas_named all (mentioned s)) all (mentioned s)
same_named all (stmt.Create s) = by_join all s.table None
same_named all (stmt.Insert t names tuples) = by_join all t None
same_named all (stmt.Update t sets test) = by_join all t None
same_named all (stmt.Delete t test) = by_join all t None
same_named all (stmt.Select q) = by_join all q.left (option_map (λ j. j.right) q.join)
same_named all stmt.Begin = tt
same_named all stmt.Commit = tt
same_named all stmt.Rollback = tt

-- each schema that is found among those found by names is one of all, under its own name
kept_first : (all : List Schema) (o : Option Schema) (more : List Schema) (n t : List ℕ) (s : Schema) → table_named all n ≡ o → (table_named more t ≡ Some s → table_named all s.table ≡ Some s) → table_named (option_to_list o ++ more) t ≡ Some s → table_named all s.table ≡ Some s
kept_first all None more n t s e f h = f h
kept_first all (Some v) more n t s e f h = at (bytes_eq v.table t) h
  where
    at : (b : Bool) → (if b then Some v else table_named more t) ≡ Some s → table_named all s.table ≡ Some s
    at true h =
        let same : v ≡ s = cc in
        ap (table_named all) (ap (λ (q : Schema). q.table) (sym same) ∙ found_named all n v e) ∙ e ∙ h
    at false h = f h

pub are_of : (all : List Schema) (names : List (List ℕ)) → AreOf (schemas_named all names) all
are_of all [] t s h = cc
are_of all (n ∷ ns) t s h = kept_first all (table_named all n) (schemas_named all ns) n t s refl (are_of all ns t s) h

fields_same : (as_ bs : List Schema) (names : List (List ℕ)) → SameNamed as_ bs names → flat_map (λ t. option_map_or table_fields (table_named as_ t) []) names ≡ flat_map (λ t. option_map_or table_fields (table_named bs t) []) names
fields_same as_ bs [] h = refl
fields_same as_ bs (t ∷ ts) h =
    ap (λ o. option_map_or table_fields o [] ++ flat_map (λ u. option_map_or table_fields (table_named as_ u) []) ts) h.0
    ∙ ap (λ fs. option_map_or table_fields (table_named bs t) [] ++ fs) (fields_same as_ bs ts h.1)

missing_same : (as_ bs : List Schema) (names : List (List ℕ)) → SameNamed as_ bs names → find (λ t. is_none (table_named as_ t)) names ≡ find (λ t. is_none (table_named bs t)) names
missing_same as_ bs [] h = refl
missing_same as_ bs (t ∷ ts) h =
    ap (λ o. if is_none o then Some t else find (λ u. is_none (table_named as_ u)) ts) h.0
    ∙ ap (λ r. if is_none (table_named bs t) then Some t else r) (missing_same as_ bs ts h.1)

tables_same : (as_ bs : List Schema) (s : Stmt) → SameNamed as_ bs (mentioned s) → SameNamed as_ bs (tables s)
tables_same as_ bs (stmt.Create s) h = tt
tables_same as_ bs (stmt.Insert t names tuples) h = h
tables_same as_ bs (stmt.Update t sets test) h = h
tables_same as_ bs (stmt.Delete t test) h = h
tables_same as_ bs (stmt.Select q) h = h
tables_same as_ bs stmt.Begin h = h
tables_same as_ bs stmt.Commit h = h
tables_same as_ bs stmt.Rollback h = h

exists_same : (as_ bs : List Schema) (s : Stmt) → SameNamed as_ bs (mentioned s) → exists as_ s ≡ exists bs s
exists_same as_ bs (stmt.Create s) h = ap (λ o. if is_some o then Some (TableExists s.table) else None) h.0
exists_same as_ bs (stmt.Insert t names tuples) h = refl
exists_same as_ bs (stmt.Update t sets test) h = refl
exists_same as_ bs (stmt.Delete t test) h = refl
exists_same as_ bs (stmt.Select q) h = refl
exists_same as_ bs stmt.Begin h = refl
exists_same as_ bs stmt.Commit h = refl
exists_same as_ bs stmt.Rollback h = refl

key_same : (as_ bs : List Schema) (s : Stmt) → SameNamed as_ bs (mentioned s) → set_key as_ s ≡ set_key bs s
key_same as_ bs (stmt.Create s) h = refl
key_same as_ bs (stmt.Insert t names tuples) h = refl
key_same as_ bs (stmt.Update t sets test) h = ap (λ o. option_map_or (λ (s : Schema). s.key) o 0) h.0
key_same as_ bs (stmt.Delete t test) h = refl
key_same as_ bs (stmt.Select q) h = refl
key_same as_ bs stmt.Begin h = refl
key_same as_ bs stmt.Commit h = refl
key_same as_ bs stmt.Rollback h = refl

target_same : (as_ bs : List Schema) (s : Stmt) → SameNamed as_ bs (mentioned s) → target as_ s ≡ target bs s
target_same as_ bs (stmt.Create s) h = refl
target_same as_ bs (stmt.Insert t names tuples) h = h.0
target_same as_ bs (stmt.Update t sets test) h = h.0
target_same as_ bs (stmt.Delete t test) h = h.0
target_same as_ bs (stmt.Select q) h = refl
target_same as_ bs stmt.Begin h = refl
target_same as_ bs stmt.Commit h = refl
target_same as_ bs stmt.Rollback h = refl

scope_same : (as_ bs : List Schema) (s : Stmt) → SameNamed as_ bs (mentioned s) → scope as_ s ≡ scope bs s
scope_same as_ bs s h = fields_same as_ bs (tables s) (tables_same as_ bs s h)

table_refusal_same : (as_ bs : List Schema) (s : Stmt) → SameNamed as_ bs (mentioned s) → table_refusal as_ s ≡ table_refusal bs s
unfolding table_refusal
table_refusal_same as_ bs s h =
    ap (λ e. option_or e (first_missing as_ (tables s))) (exists_same as_ bs s h)
    ∙ ap (λ f. option_or (exists bs s) (option_map NoTable f)) (missing_same as_ bs (tables s) (tables_same as_ bs s h))

column_same : (as_ bs : List Schema) (s : Stmt) → SameNamed as_ bs (mentioned s) → unknown_column as_ s ≡ unknown_column bs s
unfolding unknown_column
column_same as_ bs s h =
    ap (λ fields. option_or (first_unknown fields (table_mentions s)) (first_unknown [] (tuple_mentions s))) (scope_same as_ bs s h)

types_same : (as_ bs : List Schema) (s : Stmt) → SameNamed as_ bs (mentioned s) → has_right_types as_ s ≡ has_right_types bs s
unfolding has_right_types
types_same as_ bs s h =
    ap (right (set_key as_ s)) (scope_same as_ bs s h) ∙ ap (λ k. right k (scope bs s)) (key_same as_ bs s h)
  where
    right : ℕ → List Field → Bool
    right k fields = counts_match fields s && is_right fields k (placed_action fields s)

refusal_same : (as_ bs : List Schema) (s : Stmt) → SameNamed as_ bs (mentioned s) → refusal as_ s ≡ refusal bs s
refusal_same as_ bs s h =
    ap (λ r. option_or r (option_or (option_map NoColumn (unknown_column as_ s)) (if has_right_types as_ s then None else Some WrongType))) (table_refusal_same as_ bs s h)
    ∙ ap (λ c. option_or (table_refusal bs s) (option_or (option_map NoColumn c) (if has_right_types as_ s then None else Some WrongType))) (column_same as_ bs s h)
    ∙ ap (λ b. option_or (table_refusal bs s) (option_or (option_map NoColumn (unknown_column bs s)) (if b then None else Some WrongType))) (types_same as_ bs s h)

-- the same rows give the same answers
pub answers_same : (as_ bs : List Schema) (s : Stmt) (given : RangeRows) (a : Answer) → SameNamed as_ bs (mentioned s) → Answers as_ given s a → Answers bs given s a
answers_same as_ bs s given a h is =
    subst (λ (r : Option Refusal). MatchOption r (Does (target bs s) (source s given) (placed_action (scope bs s) s) a) (λ q. a ≡ refused (reply_of q))) (refusal_same as_ bs s h)
    (subst (λ (o : Option Schema). MatchOption (refusal as_ s) (Does o (source s given) (placed_action (scope bs s) s) a) (λ q. a ≡ refused (reply_of q))) (target_same as_ bs s h)
    (subst (λ (fields : List Field). MatchOption (refusal as_ s) (Does (target as_ s) (source s given) (placed_action fields s) a) (λ q. a ≡ refused (reply_of q))) (scope_same as_ bs s h) is))
