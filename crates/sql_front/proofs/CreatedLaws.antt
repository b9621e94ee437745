-- Statements that are read make proper tables.
use Rattle.std.proofs.Common.{◌≡◌, ◌≢◌, ◌≤◌, ◌<◌, ◌+◌, ◌-◌, ℕ, suc, inl, inr, ◌&&◌, ◌||◌, Bool, true, false, cond, not, nat_lt, List, [], ◌∷◌, ◌++◌, map, length, None, refl, sym, ◌∙◌, ap, subst, arith, length-append}
use Rattle.std.proofs.lemmas.Bool.{ltb-true}
use Rattle.std.proofs.lemmas.Slice.Eq.{bytes_eq-Decides}
use Rattle.std.specs.List.{AllByRecursion, list_any, position_or_len}
use Rattle.std.specs.Str.{bytes_eq}
use Rattle.sql_values.specs.declared.schemas.Column.{Column}
use Rattle.sql_values.specs.Tables.{Differ, IsTable}
use Rattle.sql_words.specs.declared.signs.Sign.TheVariants as s
use Rattle.sql_front.specs.declared.definitions.Definition.{Definition}
use Rattle.sql_statements.specs.declared.statements.Stmt.{Stmt}
use Rattle.sql_statements.specs.declared.statements.Stmt.TheVariants as stmt
use Rattle.sql_front.specs.Conditions.{is_keyless, is_new_column, has_key, key_place, schema}
use Rattle.sql_front.specs.Created.{MakesTable, MakeTables}
use Rattle.sql_front.specs.Grammar as g
use Rattle.sql_front.specs.Rules.{nothing, the, the_if, a_name, Both, a_list, Further, none, another}
use Rattle.sql_front.specs.Symbols.{sign, word, Input, symbol_of}
use Rattle.sql_front.proofs.ExprAgain.{sound_front, sound_back}
use Rattle.sql_front.proofs.Given.{Given, front, back, its_name, allowed_name}
use Rattle.sql_front.proofs.Lexing.{IsName, tokens_sound}
use Rattle.sql_front.proofs.PrintedAgain.{ending_same}

abbrev column_of : Definition → Column
column_of d = d.column

and_first : (a b : Bool) → (a && b) ≡ true → a ≡ true
and_first true b h = refl
and_first false b h = h

and_second : (a b : Bool) → (a && b) ≡ true → b ≡ true
and_second true b h = h
and_second false b h = absurd (apart h) where
  apart : false ≡ true → ⊥
  apart e = cc

not_true : (b : Bool) → not b ≡ true → b ≡ false
not_true false h = refl
not_true true h = absurd (apart h) where
  apart : false ≡ true → ⊥
  apart e = cc

or_first : (a b : Bool) → (a || b) ≡ false → a ≡ false
or_first false b h = refl
or_first true b h = h

or_second : (a b : Bool) → (a || b) ≡ false → b ≡ false
or_second false b h = h
or_second true b h = absurd (apart h) where
  apart : true ≡ false → ⊥
  apart e = cc

-- ---- columns

-- 1 to 16 columns of different names
record AreGood (ds : List Definition) : Type 0 where
  some : 1 ≤ length ds
  few : length ds ≤ 16
  differ : Differ (map column_of ds)

others_differ : (ds : List Definition) (c x : Column) → AllByRecursion (λ d. d.name ≢ c.name) (map column_of ds) → x.name ≢ c.name → AllByRecursion (λ d. d.name ≢ c.name) (map column_of ds ++ x ∷ [])
others_differ [] c x h e = (e, tt)
others_differ (d ∷ ds) c x h e = (h.0, others_differ ds c x h.1 e)

differ_push : (ds : List Definition) (x : Column) → Differ (map column_of ds) → list_any (λ d. bytes_eq d.column.name x.name) ds ≡ false → Differ (map column_of ds ++ x ∷ [])
differ_push [] x h e = (tt, tt)
differ_push (d ∷ ds) x h e = (
  others_differ ds d.column x h.0 (λ same. apart (sym ((bytes_eq-Decides d.column.name x.name).1 (sym same)) ∙ or_first (bytes_eq d.column.name x.name) (list_any (λ y. bytes_eq y.column.name x.name) ds) e)),
  differ_push ds x h.1 (or_second (bytes_eq d.column.name x.name) (list_any (λ y. bytes_eq y.column.name x.name) ds) e),
) where
  apart : true ≡ false → ⊥
  apart q = cc

map_push : (ds : List Definition) (x : Definition) → map column_of (ds ++ x ∷ []) ≡ map column_of ds ++ x.column ∷ []
map_push [] x = refl
map_push (d ∷ ds) x = ap (λ l. d.column ∷ l) (map_push ds x)

-- a definition's name is new
new_name : (before : List Definition) {k : ℕ} {i : Input} {x : Definition} → Given k i → g.a_definition before k i x → is_new_column before x.column.name ≡ true
new_name before {k} {i} {x} d m =
    subst (λ y. is_new_column before y.column.name ≡ true) mark.second.1 (allowed_name (is_new_column before) (front d m) m.first).1
  where
    kind : Both g.a_sort (λ t. Both (g.a_key_mark (is_keyless before)) (λ b. nothing (record { column = record { name = m.value; sort = t }; is_key = b }))) (k - length m.front) m.back x
    kind = m.second

    mark : Both (g.a_key_mark (is_keyless before)) (λ b. nothing (record { column = record { name = m.value; sort = kind.value }; is_key = b })) (k - length m.front - length kind.front) kind.back x
    mark = kind.second

push : (before : List Definition) (x : Definition) → Differ (map column_of before) → is_new_column before x.column.name ≡ true → AreGood (before ++ x ∷ [])
unfolding is_new_column
push before x differ new =
    let room : length before < 16 = ltb-true (length before) 16 (and_first (nat_lt (length before) 16) (not (list_any (λ d. bytes_eq d.column.name x.column.name) before)) new) in
    let other : list_any (λ d. bytes_eq d.column.name x.column.name) before ≡ false =
    not_true (list_any (λ d. bytes_eq d.column.name x.column.name) before) (and_second (nat_lt (length before) 16) (not (list_any (λ d. bytes_eq d.column.name x.column.name) before)) new) in
    record {
      some = omega (arith, length-append before (x ∷ []));
      few = omega (arith, length-append before (x ∷ []));
      differ = subst Differ (sym (map_push before x)) (differ_push before x.column differ other);
    }

good_further : {before xs : List Definition} {k : ℕ} {i : Input} → Given k i → Further g.a_definition before k i xs → AreGood before → AreGood xs
good_further d none h = h
good_further {before} {xs} {k} d (another {a = a} {b = b} {x = x} m n) h =
    let here : Given (k - 1) a = record { within = omega (arith, d.within, length-append a b); sound = sound_front a b d.sound.1 } in
    good_further (record { within = omega (arith, d.within, length-append a b); sound = sound_back a b d.sound.1 }) n (push before x h.differ (new_name before here m))

good_list : {k : ℕ} {i : Input} {xs : List Definition} → Given k i → a_list g.a_definition k i xs → AreGood xs
good_list d m = good_further (back d m) m.second (push [] m.value tt (new_name [] (front d m) m.first))

-- a key has a place
placed : (ds : List Definition) → list_any (λ d. d.is_key) ds ≡ true → position_or_len (λ d. d.is_key) ds < length ds
placed [] h = absurd (apart h) where
  apart : false ≡ true → ⊥
  apart e = cc
placed (d ∷ ds) h = by_test d.is_key refl (placed ds) where
  by_test : (b : Bool) → d.is_key ≡ b → (list_any (λ y. y.is_key) ds ≡ true → position_or_len (λ y. y.is_key) ds < length ds) → cond (not d.is_key) (1 + position_or_len (λ y. y.is_key) ds) 0 < suc (length ds)
  by_test true e more = subst (λ t. cond (not t) (1 + position_or_len (λ y. y.is_key) ds) 0 < suc (length ds)) (sym e) (omega arith)
  by_test false e more =
      let later : position_or_len (λ y. y.is_key) ds < length ds = more (sym (ap (λ t. t || list_any (λ y. y.is_key) ds) e) ∙ h) in
      subst (λ t. cond (not t) (1 + position_or_len (λ y. y.is_key) ds) 0 < suc (length ds)) (sym e) (omega arith)

length_map : (ds : List Definition) → length (map column_of ds) ≡ length ds
length_map [] = refl
length_map (d ∷ ds) = ap suc (length_map ds)

table : (name : List ℕ) (ds : List Definition) → AreGood ds → has_key ds ≡ true → IsTable (schema name ds)
unfolding schema has_key key_place
table name ds h key =
    record {
      some = omega (arith, h.some, length_map ds);
      few = omega (arith, h.few, length_map ds);
      differ = h.differ;
      key = omega (arith, placed ds key, length_map ds);
    }

named_so : (name : List ℕ) (ds : List Definition) → (schema name ds).table ≡ name
unfolding schema
named_so name ds = refl

-- ---- CREATE

makes_create : {k : ℕ} {i : Input} {x : Stmt} → Given k i → g.a_create k i x → MakesTable x
makes_create {k} {i} {x} d m =
    subst MakesTable close.second.1
    (record {
      table = table named.value columns.value good has;
      free = λ word e. own.free word (own.lower ∙ (sym (named_so named.value columns.value) ∙ e));
    })
  where
    named : Both a_name (λ t. Both (the (sign s.Open)) (λ _. Both (a_list g.a_definition) (λ cs. Both (the_if (has_key cs) (sign s.Close)) (λ _. nothing (stmt.Create (schema t cs)))))) (k - length m.front) m.back x
    named = m.second

    open_ : Both (the (sign s.Open)) (λ _. Both (a_list g.a_definition) (λ cs. Both (the_if (has_key cs) (sign s.Close)) (λ _. nothing (stmt.Create (schema named.value cs))))) (k - length m.front - length named.front) named.back x
    open_ = named.second

    columns : Both (a_list g.a_definition) (λ cs. Both (the_if (has_key cs) (sign s.Close)) (λ _. nothing (stmt.Create (schema named.value cs)))) (k - length m.front - length named.front - length open_.front) open_.back x
    columns = open_.second

    close : Both (the_if (has_key columns.value) (sign s.Close)) (λ _. nothing (stmt.Create (schema named.value columns.value))) (k - length m.front - length named.front - length open_.front - length columns.front) columns.back x
    close = columns.second

    behind : Given (k - length m.front - length named.front - length open_.front - length columns.front) columns.back
    behind = back (back (back (back d m) named) open_) columns

    has : has_key columns.value ≡ true
    has = close.first.1 (omega (arith, behind.within, ap length close.whole, length-append close.front close.back, ap length close.first.0))

    good : AreGood columns.value
    good = good_list (front (back (back (back d m) named) open_) columns) columns.first

    own : IsName named.value
    own = its_name (front (back d m) named) named.first

-- ---- other statements

-- what ends by saying which statement it is
said : (x y : Stmt) → MakesTable x → x ≡ y → MakesTable y
said x y h e = subst MakesTable e h

makes_insert : {k : ℕ} {i : Input} {x : Stmt} → g.an_insert k i x → MakesTable x
makes_insert {x = x} m = said _ x tt m.second.second.second.second.second.1

makes_update : {k : ℕ} {i : Input} {x : Stmt} → g.an_update k i x → MakesTable x
makes_update {x = x} m = said _ x tt m.second.second.second.second.1

makes_delete : {k : ℕ} {i : Input} {x : Stmt} → g.a_delete k i x → MakesTable x
makes_delete {x = x} m = said _ x tt m.second.second.second.1

makes_select : {k : ℕ} {i : Input} {x : Stmt} → g.a_select k i x → MakesTable x
makes_select {x = x} m = said _ x tt m.second.second.second.second.second.second.1

makes_transaction : {k : ℕ} {i : Input} {x : Stmt} → g.a_transaction k i x → MakesTable x
makes_transaction {x = x} (inl m) = said stmt.Begin x tt m.second.1
makes_transaction {x = x} (inr (inl m)) = said stmt.Commit x tt m.second.1
makes_transaction {x = x} (inr (inr m)) = said stmt.Rollback x tt m.second.1

makes_command : {k : ℕ} {i : Input} {x : Stmt} → Given k i → g.a_command k i x → MakesTable x
makes_command d (inl m) = makes_create (back d m) m.second
makes_command d (inr (inl m)) = makes_insert m.second
makes_command d (inr (inr (inl m))) = makes_select m.second
makes_command d (inr (inr (inr (inl m)))) = makes_update m.second
makes_command d (inr (inr (inr (inr (inl m))))) = makes_delete m.second
makes_command d (inr (inr (inr (inr (inr m))))) = makes_transaction m

pub make_tables : MakeTables
make_tables sql x q =
    let d : Given (length (map symbol_of q.tokens)) (map symbol_of q.tokens) = record { within = omega arith; sound = tokens_sound None 0 sql q.tokens None q.lexed } in
    said q.means.value x (makes_command (front d q.means) q.means.first) (ending_same q.means.value q.means.second)
