-- The rows that a statement places fit their tables.
use Rattle.std.proofs.Common.{◌≡◌, ◌≢◌, ℕ, zero, suc, Bool, true, false, ◌||◌, not, ◌==◌, List, [], ◌∷◌, ◌++◌, length, map, zip, slice_get, slice_set, Option, Some, Result, Ok, Err, refl, sym, ap, subst, ◌∙◌, arith}
use Rattle.std.specs.List.{AllByRecursion, list_all, list_any}
use Rattle.std.specs.Option.{option_map_or}
use Rattle.std.proofs.lemmas.List.{append-nil, length-map}
use Rattle.std.proofs.lemmas.Bool.Decides.{Decides-eqb}
use Rattle.sql_values.specs.declared.arithmetic.Overflow.{Overflow}
use Rattle.sql_values.specs.declared.logic.Truth.{Truth}
use Rattle.sql_values.specs.declared.logic.Truth.TheVariants.{Yes, No, Unknown}
use Rattle.sql_values.specs.declared.schemas.Column.{Column}
use Rattle.sql_values.specs.declared.schemas.Schema.{Schema}
use Rattle.sql_values.specs.declared.values.Value.{Value}
use Rattle.sql_values.specs.Order.{Fits}
use Rattle.row_codec.specs.Records.{FitColumns, FitsSchema, HasKey, key_cell}
use Rattle.sql_meaning.specs.declared.fields.Field.{Field}
use Rattle.sql_meaning.specs.declared.actions.SetPlace.{SetPlace}
use Rattle.sql_meaning.specs.declared.resolved.Resolved.{Resolved}
use Rattle.sql_meaning.specs.Evaluation.{test_in, value_in}
use Rattle.sql_meaning.specs.Kinds.{takes}
use Rattle.sql_meaning.specs.Names.{field_of, table_fields}
use Rattle.sql_meaning.specs.Refusals.{fits_field, fits_fields, sets_right, suits}
use Rattle.sql_meaning.specs.Terms.{Term, term}
use Rattle.sql_meaning.proofs.SortLaws.{suits_means_fits}
use Rattle.sql_plan.proofs.NeededRows.{fit_fields}
use Rattle.sql_plan.proofs.NeededTests.{and_both}
use Rattle.sql_exec.specs.Kept.{and_then, each, if_kept, kept, set_all, values_in, with_both}
use Rattle.sql_exec.specs.Totals.{is_null}

-- the parts of a list that was made of each element
pub record Made {A B E : Type 0} (f : A → Result B E) (x : A) (xs : List A) (ys : List B) : Type 0 where
  pub first : B
  pub rest : List B
  pub first_is : f x ≡ Ok first
  pub rest_is : each f xs ≡ Ok rest
  pub all : ys ≡ first ∷ rest

made_by : {A B E : Type 0} (f : A → Result B E) (x : A) (xs : List A) (ys : List B) (r : Result B E) (s : Result (List B) E) → f x ≡ r → each f xs ≡ s → with_both (λ z zs. z ∷ zs) r s ≡ Ok ys → Made f x xs ys
made_by f x xs ys (Ok a) (Ok as_) p q h = record { first = a; rest = as_; first_is = p; rest_is = q; all = cc }
made_by f x xs ys (Ok a) (Err e) p q h = cc
made_by f x xs ys (Err e) s p q h = cc

pub made : {A B E : Type 0} (f : A → Result B E) (x : A) (xs : List A) (ys : List B) → each f (x ∷ xs) ≡ Ok ys → Made f x xs ys
made f x xs ys h = made_by f x xs ys (f x) (each f xs) refl refl h

pub ok_is : {A E : Type 0} (x y : A) → (let r : Result A E = Ok x in r) ≡ Ok y → x ≡ y
ok_is x y h = cc

pub each_length : {A B E : Type 0} (f : A → Result B E) (xs : List A) (ys : List B) → each f xs ≡ Ok ys → length ys ≡ length xs
each_length {A} {B} {E} f [] ys h = ap length (sym (ok_is {A = List B} {E = E} [] ys h))
each_length f (x ∷ xs) ys h = let m = made f x xs ys h in ap length m.all ∙ ap suc (each_length f xs m.rest m.rest_is)

-- what is made of each element with a fact has a fact
pub each_has : {A B E : Type 0} (P : A → Type 0) (Q : B → Type 0) (f : A → Result B E) → ((x : A) (y : B) → P x → f x ≡ Ok y → Q y) → (xs : List A) (ys : List B) → AllByRecursion P xs → each f xs ≡ Ok ys → AllByRecursion Q ys
each_has {A} {B} {E} P Q f g [] ys h e = subst (λ (zs : List B). AllByRecursion Q zs) (ok_is {A = List B} {E = E} [] ys e) tt
each_has {A} {B} P Q f g (x ∷ xs) ys h e =
    let m = made f x xs ys e in
    subst (λ (zs : List B). AllByRecursion Q zs) (sym m.all) (g x m.first h.0 m.first_is, each_has P Q f g xs m.rest h.1 m.rest_is)

pub all_pass : {A : Type 0} (p : A → Bool) (xs : List A) → list_all p xs ≡ true → AllByRecursion (λ x. p x ≡ true) xs
all_pass p [] h = tt
all_pass p (x ∷ xs) h = let both = and_both (p x) (list_all p xs) h in (both.0, all_pass p xs both.1)

or_false : (a b : Bool) → (a || b) ≡ false → (a ≡ false) × (b ≡ false)
or_false true b h = cc
or_false false b h = (refl, h)

none_pass : {A : Type 0} (p : A → Bool) (xs : List A) → list_any p xs ≡ false → AllByRecursion (λ x. p x ≡ false) xs
none_pass p [] h = tt
none_pass p (x ∷ xs) h = let both = or_false (p x) (list_any p xs) h in (both.0, none_pass p xs both.1)

pub both_all : {A : Type 0} (P Q R : A → Type 0) → ((x : A) → P x → Q x → R x) → (xs : List A) → AllByRecursion P xs → AllByRecursion Q xs → AllByRecursion R xs
both_all P Q R f [] p q = tt
both_all P Q R f (x ∷ xs) p q = (f x p.0 q.0, both_all P Q R f xs p.1 q.1)

-- the values of a tuple fit their columns
fit_values : (table : List ℕ) (cs : List Column) (tuple : List Resolved) (vs : List Value) → length cs ≡ length tuple → list_all (λ p. fits_field p.0 p.1) (zip (map (field_of table) cs) tuple) ≡ true → values_in [] tuple ≡ Ok vs → FitColumns cs vs
fit_values table [] [] vs l h e = subst (λ (q : List Value). FitColumns [] q) (ok_is {A = List Value} {E = Overflow} [] vs e) tt
fit_values table [] (x ∷ xs) vs l h e = absurd (omega arith)
fit_values table (c ∷ cs) [] vs l h e = absurd (omega arith)
fit_values table (c ∷ cs) (x ∷ xs) vs l h e =
    let m = made (λ q. value_in [] (term q)) x xs vs e in
    let right = and_both (fits_field (field_of table c) x) (list_all (λ p. fits_field p.0 p.1) (zip (map (field_of table) cs) xs)) h in
    subst (λ (q : List Value). FitColumns (c ∷ cs) q) (sym m.all)
    (suits_means_fits [] [] x c.sort m.first tt right.0 m.first_is, fit_values table cs xs m.rest (omega arith) right.1 m.rest_is)

pub tuple_fits : (v : Schema) (tuple : List Resolved) (vs : List Value) → fits_fields (table_fields v ++ []) tuple ≡ true → values_in [] tuple ≡ Ok vs → FitColumns v.columns vs
tuple_fits v tuple vs h e =
    let fields = subst (λ (fs : List Field). fits_fields fs tuple ≡ true) (append-nil (table_fields v)) h in
    let both = and_both (length (table_fields v) == length tuple) (list_all (λ p. fits_field p.0 p.1) (zip (table_fields v) tuple)) fields in
    let long = (Decides-eqb (length (table_fields v)) (length tuple)).0 both.0 in
    fit_values v.table v.columns tuple vs (sym (length-map v.columns (field_of v.table)) ∙ long) both.1 e

-- a row whose key is not NULL has it
pub has_key : (row : List Value) (key : ℕ) → is_null (key_cell key row) ≡ false → HasKey row key
has_key [] key h = absurd cc
has_key (v ∷ vs) zero h = λ e. let null : is_null v ≡ true = ap is_null e in cc
has_key (v ∷ vs) (suc key) h = has_key vs key h

-- the rows of an INSERT are rows of its table
pub tuples_fit : (v : Schema) (tuples : List (List Resolved)) (rs : List (List Value)) → list_all (fits_fields (table_fields v ++ [])) tuples ≡ true → each (λ t. values_in [] t) tuples ≡ Ok rs → list_any (λ r. is_null (key_cell v.key r)) rs ≡ false → AllByRecursion (FitsSchema v) rs
tuples_fit v tuples rs h e n =
    both_all (FitColumns v.columns) (λ r. is_null (key_cell v.key r) ≡ false) (FitsSchema v) (λ r fit key. record { cells = fit; key = has_key r v.key key }) rs
    (each_has (λ t. fits_fields (table_fields v ++ []) t ≡ true) (FitColumns v.columns) (λ t. values_in [] t) (λ t r fit made_is. tuple_fits v t r fit made_is) tuples rs (all_pass (fits_fields (table_fields v ++ [])) tuples h) e)
    (none_pass (λ r. is_null (key_cell v.key r)) rs n)

-- a column that is set to a value that fits it
set_column : (table : List ℕ) (cs : List Column) (row : List Value) (p : ℕ) (x : Value) → FitColumns cs row → ((f : Field) → slice_get (map (field_of table) cs) p ≡ Some f → Fits x f.sort) → FitColumns cs (slice_set row p x)
set_column table [] [] p x h f = tt
set_column table [] (v ∷ vs) p x h f = absurd h
set_column table (c ∷ cs) [] p x h f = absurd h
set_column table (c ∷ cs) (v ∷ vs) zero x h f = (f (field_of table c) refl, h.1)
set_column table (c ∷ cs) (v ∷ vs) (suc p) x h f = (h.0, set_column table cs vs p x h.1 f)

key_stays : (row : List Value) (p key : ℕ) (x : Value) → p ≢ key → HasKey row key → HasKey (slice_set row p x) key
key_stays [] p key x n h = absurd h
key_stays (v ∷ vs) zero zero x n h = absurd (n refl)
key_stays (v ∷ vs) zero (suc key) x n h = h
key_stays (v ∷ vs) (suc p) zero x n h = h
key_stays (v ∷ vs) (suc p) (suc key) x n h = key_stays vs p key x (λ e. n (ap suc e)) h

not_true : (b : Bool) → not b ≡ true → b ≡ false
not_true true h = cc
not_true false h = refl

other_place : (p key : ℕ) → not (p == key) ≡ true → p ≢ key
other_place p key h e = let same : (p == key) ≡ true = (Decides-eqb p key).1 e in let none : (p == key) ≡ false = not_true (p == key) h in cc

suits_at : (fields : List Field) (e : Resolved) (o : Option Field) (f : Field) → option_map_or (λ (g : Field). suits fields (takes g.sort) e) o false ≡ true → o ≡ Some f → suits fields (takes f.sort) e ≡ true
suits_at fields e o f h is = ap (λ (q : Option Field). option_map_or (λ (g : Field). suits fields (takes g.sort) e) q false) (sym is) ∙ h

set_one : (v : Schema) (old row : List Value) (s : SetPlace) (x : Value) → FitColumns v.columns old → FitsSchema v row → sets_right (table_fields v) v.key s ≡ true → value_in old (term s.value) ≡ Ok x → FitsSchema v (slice_set row s.place x)
set_one v old row s x o fit h is =
    let both = and_both (not (s.place == v.key)) (option_map_or (λ (g : Field). suits (table_fields v) (takes g.sort) s.value) (slice_get (table_fields v) s.place) false) h in record {
      cells =
          set_column v.table v.columns row s.place x fit.cells
          (λ f found. suits_means_fits (table_fields v) old s.value f.sort x (fit_fields v.table v.columns old o) (suits_at (table_fields v) s.value (slice_get (table_fields v) s.place) f both.1 found) is);
      key = key_stays row s.place v.key x (other_place s.place v.key both.0) fit.key;
    }

set_next : (v : Schema) (f : Value → Result (List Value) Overflow) (r : Result Value Overflow) (new : List Value) → ((x : Value) → r ≡ Ok x → f x ≡ Ok new → FitsSchema v new) → and_then f r ≡ Ok new → FitsSchema v new
set_next v f (Ok x) new g e = g x refl e
set_next v f (Err x) new g e = absurd cc

-- what SET makes of a row of the schema is one
set_fits : (v : Schema) (old row new : List Value) (sets : List SetPlace) → FitColumns v.columns old → FitsSchema v row → list_all (sets_right (table_fields v) v.key) sets ≡ true → set_all old row sets ≡ Ok new → FitsSchema v new
set_fits v old row new [] o fit h e = subst (FitsSchema v) (ok_is {A = List Value} {E = Overflow} row new e) fit
set_fits v old row new (s ∷ sets) o fit h e =
    let both = and_both (sets_right (table_fields v) v.key s) (list_all (sets_right (table_fields v) v.key) sets) h in
    set_next v (λ x. set_all old (slice_set row s.place x) sets) (value_in old (term s.value)) new
    (λ x is more. set_fits v old (slice_set row s.place x) new sets o (set_one v old row s x o fit both.0 is) both.1 more) e

-- the rows that an UPDATE places are rows of its table
pub set_rows_fit : (v : Schema) (sets : List SetPlace) (olds news : List (List Value)) → list_all (sets_right (table_fields v ++ []) v.key) sets ≡ true → AllByRecursion (FitsSchema v) olds → each (λ r. set_all r r sets) olds ≡ Ok news → AllByRecursion (FitsSchema v) news
set_rows_fit v sets olds news h fit e =
    let right = subst (λ (fs : List Field). list_all (sets_right fs v.key) sets ≡ true) (append-nil (table_fields v)) h in
    each_has (FitsSchema v) (FitsSchema v) (λ r. set_all r r sets) (λ old new row is. set_fits v old old new sets row.cells row right is) olds news fit e

all_append : (P : List Value → Type 0) (xs ys : List (List Value)) → AllByRecursion P xs → AllByRecursion P ys → AllByRecursion P (xs ++ ys)
all_append P [] ys h g = g
all_append P (x ∷ xs) ys h g = (h.0, all_append P xs ys h.1 g)

one_kept : (P : List Value → Type 0) (row : List Value) (t : Truth) → P row → AllByRecursion P (if_kept row t)
one_kept P row Yes h = (h, tt)
one_kept P row No h = tt
one_kept P row Unknown h = tt

kept_next : (P : List Value → Type 0) (row : List Value) (r : Result Truth Overflow) (s : Result (List (List Value)) Overflow) (ks : List (List Value)) → P row → ((more : List (List Value)) → s ≡ Ok more → AllByRecursion P more) → with_both (λ t more. if_kept row t ++ more) r s ≡ Ok ks → AllByRecursion P ks
kept_next P row (Ok t) (Ok more) ks h f e =
    subst (λ (rows : List (List Value)). AllByRecursion P rows) (ok_is {A = List (List Value)} {E = Overflow} (if_kept row t ++ more) ks e) (all_append P (if_kept row t) more (one_kept P row t h) (f more refl))
kept_next P row (Ok t) (Err x) ks h f e = absurd cc
kept_next P row (Err x) s ks h f e = absurd cc

-- rows that a test keeps are some of those that there are
pub kept_rows : (P : List Value → Type 0) (test : Option Term) (rows ks : List (List Value)) → AllByRecursion P rows → kept test rows ≡ Ok ks → AllByRecursion P ks
kept_rows P test [] ks h e = subst (λ (rows : List (List Value)). AllByRecursion P rows) (ok_is {A = List (List Value)} {E = Overflow} [] ks e) tt
kept_rows P test (row ∷ rows) ks h e =
    kept_next P row (test_in row test) (kept test rows) ks h.0 (λ more is. kept_rows P test rows more h.1 is) e
