-- The printed form of a statement is read as that statement.
use Rattle.std.proofs.Common.{◌≡◌, ℕ, ◌-◌, inl, inr, List, [], ◌∷◌, ◌++◌, length, Option, Some, None, refl, ap, subst}
use Rattle.sql_words.specs.declared.reserved.Word.{Word}
use Rattle.sql_words.specs.declared.reserved.Word.TheVariants as w
use Rattle.sql_words.specs.declared.signs.Sign.TheVariants as s
use Rattle.sql_statements.specs.declared.expressions.Expr.{Expr}
use Rattle.sql_statements.specs.declared.statements.SetItem.{SetItem}
use Rattle.sql_statements.specs.declared.statements.Stmt.{Stmt}
use Rattle.sql_statements.specs.declared.statements.Stmt.TheVariants as stmt
use Rattle.sql_front.specs.Conditions.{is_new, is_new_set}
use Rattle.sql_front.specs.Expressions.{an_expression}
use Rattle.sql_front.specs.Grammar as g
use Rattle.sql_front.specs.Printed as p
use Rattle.sql_front.specs.Printed.{expr_symbols, listed, others, int_symbols}
use Rattle.sql_front.specs.Rules.{Rule, nothing, the, a_name, Both, a_list}
use Rattle.sql_front.specs.Short.{IsShort, AllOf, short_test, AreShort}
use Rattle.sql_front.specs.Symbols.{Symbol, word, sign, name, Input}
use Rattle.sql_front.proofs.Given.{Given, Out, front, back, out_both, out_last, out_the, out_name, out_name_if, out_nothing, out_left, out_right, its_name, allowed_name, out_expr, out_list}

-- any value
abbrev pub Any : {X : Type 0} → X → Type 0
Any x = Unit {0}

pub any_of : {X : Type 0} (xs : List X) → AllOf (λ x. Any x) xs
any_of [] = tt
any_of (x ∷ xs) = (tt, any_of xs)

-- a rule behind a word or a sign that says nothing itself
abbrev pub Behind : {X : Type 0} → Symbol → Rule X → Rule X
Behind t R = Both (the t) (λ _. R)

one_less : (t : Symbol) (k : ℕ) (i : Input) → i ≡ t ∷ [] → length i ≡ 1
one_less t k i e = ap length e

-- ---- parts that several statements have

pub out_condition : {k : ℕ} {i : Input} {x : Option Expr} → Given k i → g.a_condition k i x → short_test x → Out g.a_condition (p.condition_symbols x) x
out_condition {k} {i} {x} d (inl m) h = go h where
  inner : Both an_expression (λ test. nothing (Some test)) (k - length m.front) m.back x
  inner = m.second

  go : short_test x → Out g.a_condition (p.condition_symbols x) x
  go = subst (λ y. short_test y → Out g.a_condition (p.condition_symbols y) y) inner.second.1
      (λ z. out_left (out_both (out_the (word w.Where) tt) (out_last inner.value (out_expr inner.value (front (back d m) inner) inner.first z))))
out_condition d (inr m) h = subst (λ y. Out g.a_condition (p.condition_symbols y) y) m.1 (out_right (out_nothing None))

pub out_value : (before : List Expr) (k : ℕ) (i : Input) (x : Expr) → Given k i → g.a_value before k i x → IsShort x → Out (g.a_value before) (expr_symbols x) x
out_value before k i x d m h = out_expr x d m h

-- ---- INSERT

out_new_name : (before : List (List ℕ)) (k : ℕ) (i : Input) (n : List ℕ) → Given k i → g.a_new_name before k i n → Any n → Out (g.a_new_name before) (p.name_symbols n) n
out_new_name before k i n d m h = let a = allowed_name (is_new before) d m in out_name_if (is_new before) n a.0 a.1

out_named_columns : {k : ℕ} {i : Input} {x : Option (List (List ℕ))} → Given k i → g.named_columns k i x → Out g.named_columns (p.named_columns x) x
out_named_columns {k} {i} {x} d (inl m) =
    subst (λ y. Out g.named_columns (p.named_columns y) y) list.second.second.1
    (out_left (out_both (out_the (sign s.Open) tt)
    (out_both (out_list g.a_new_name p.name_symbols (λ n. Any n) out_new_name (front (back d m) list) list.first (any_of list.value)) (out_last tt (out_the (sign s.Close) tt)))))
  where
    list : Both (a_list g.a_new_name) (λ names. Both (the (sign s.Close)) (λ _. nothing (Some names))) (k - length m.front) m.back x
    list = m.second
out_named_columns d (inr m) = subst (λ y. Out g.named_columns (p.named_columns y) y) m.1 (out_right (out_nothing None))

out_tuple : (before : List (List Expr)) (k : ℕ) (i : Input) (x : List Expr) → Given k i → g.a_tuple before k i x → AllOf IsShort x → Out (g.a_tuple before) (p.tuple_symbols x) x
out_tuple before k i x d m h = go h where
  list : Both (a_list g.a_value) (λ values. Both (the (sign s.Close)) (λ _. nothing values)) (k - length m.front) m.back x
  list = m.second

  go : AllOf IsShort x → Out (g.a_tuple before) (p.tuple_symbols x) x
  go = subst (λ y. AllOf IsShort y → Out (g.a_tuple before) (p.tuple_symbols y) y) list.second.second.1
      (λ z. out_both (out_the (sign s.Open) tt)
      (out_both (out_list g.a_value expr_symbols IsShort out_value (front (back d m) list) list.first z) (out_last tt (out_the (sign s.Close) tt))))

-- a statement behind its first word
abbrev pub Said : Rule Stmt → Word → Stmt → Type 0
Said R t x = AreShort x → (i : Input) × Out R i x × (p.symbols x ≡ word t ∷ i)

pub out_insert : {k : ℕ} {i : Input} {x : Stmt} → Given k i → g.an_insert k i x → Said g.an_insert w.Insert x
out_insert {k} {i} {x} d m = subst (Said g.an_insert w.Insert) rows.second.1
    (λ h. (
      word w.Into ∷ name named.value ∷ (p.named_columns columns.value ++ (word w.Values ∷ listed p.tuple_symbols rows.value)),
      out_both (out_the (word w.Into) tt)
          (out_both (out_name named.value (its_name (front (back d m) named) named.first))
          (out_both (out_named_columns (front (back (back d m) named) columns) columns.first)
          (out_both (out_the (word w.Values) tt)
          (out_last rows.value (out_list g.a_tuple p.tuple_symbols (AllOf IsShort) out_tuple (front (back (back (back (back d m) named) columns) values) rows) rows.first h))))),
      refl,
    ))
  where
    named : Both a_name (λ table. Both g.named_columns (λ columns. Both (the (word w.Values)) (λ _. Both (a_list g.a_tuple) (λ rows. nothing (stmt.Insert table columns rows))))) (k - length m.front) m.back x
    named = m.second

    columns : Both g.named_columns (λ columns. Both (the (word w.Values)) (λ _. Both (a_list g.a_tuple) (λ rows. nothing (stmt.Insert named.value columns rows)))) (k - length m.front - length named.front) named.back x
    columns = named.second

    values : Both (the (word w.Values)) (λ _. Both (a_list g.a_tuple) (λ rows. nothing (stmt.Insert named.value columns.value rows))) (k - length m.front - length named.front - length columns.front) columns.back x
    values = columns.second

    rows : Both (a_list g.a_tuple) (λ rows. nothing (stmt.Insert named.value columns.value rows)) (k - length m.front - length named.front - length columns.front - length values.front) values.back x
    rows = values.second

-- ---- UPDATE and DELETE

out_set_item : (before : List SetItem) (k : ℕ) (i : Input) (x : SetItem) → Given k i → g.a_set_item before k i x → IsShort x.value → Out (g.a_set_item before) (p.set_symbols x) x
out_set_item before k i x d m h = go h where
  equals : Both (the (sign s.Eq)) (λ _. Both an_expression (λ v. nothing (record { name = m.value; value = v }))) (k - length m.front) m.back x
  equals = m.second

  value : Both an_expression (λ v. nothing (record { name = m.value; value = v })) (k - length m.front - length equals.front) equals.back x
  value = equals.second

  go : IsShort x.value → Out (g.a_set_item before) (p.set_symbols x) x
  go = subst (λ y. IsShort y.value → Out (g.a_set_item before) (p.set_symbols y) y) value.second.1
      (λ z. let a = allowed_name (is_new_set before) (front d m) m.first in
      out_both (out_name_if (is_new_set before) m.value a.0 a.1)
      (out_both (out_the (sign s.Eq) tt) (out_last value.value (out_expr value.value (front (back (back d m) equals) value) value.first z))))

pub out_update : {k : ℕ} {i : Input} {x : Stmt} → Given k i → g.an_update k i x → Said g.an_update w.Update x
out_update {k} {i} {x} d m = subst (Said g.an_update w.Update) test.second.1
    (λ h. (
      name m.value ∷ word w.Set ∷ (listed p.set_symbols sets.value ++ p.condition_symbols test.value),
      out_both (out_name m.value (its_name (front d m) m.first))
          (out_both (out_the (word w.Set) tt)
          (out_both (out_list g.a_set_item p.set_symbols (λ item. IsShort item.value) out_set_item (front (back (back d m) set) sets) sets.first h.0)
          (out_last test.value (out_condition (front (back (back (back d m) set) sets) test) test.first h.1)))),
      refl,
    ))
  where
    set : Both (the (word w.Set)) (λ _. Both (a_list g.a_set_item) (λ sets. Both g.a_condition (λ test. nothing (stmt.Update m.value sets test)))) (k - length m.front) m.back x
    set = m.second

    sets : Both (a_list g.a_set_item) (λ sets. Both g.a_condition (λ test. nothing (stmt.Update m.value sets test))) (k - length m.front - length set.front) set.back x
    sets = set.second

    test : Both g.a_condition (λ test. nothing (stmt.Update m.value sets.value test)) (k - length m.front - length set.front - length sets.front) sets.back x
    test = sets.second

pub out_delete : {k : ℕ} {i : Input} {x : Stmt} → Given k i → g.a_delete k i x → Said g.a_delete w.Delete x
out_delete {k} {i} {x} d m = subst (Said g.a_delete w.Delete) test.second.1
    (λ h. (
      word w.From ∷ name named.value ∷ p.condition_symbols test.value,
      out_both (out_the (word w.From) tt)
          (out_both (out_name named.value (its_name (front (back d m) named) named.first))
          (out_last test.value (out_condition (front (back (back d m) named) test) test.first h))),
      refl,
    ))
  where
    named : Both a_name (λ table. Both g.a_condition (λ test. nothing (stmt.Delete table test))) (k - length m.front) m.back x
    named = m.second

    test : Both g.a_condition (λ test. nothing (stmt.Delete named.value test)) (k - length m.front - length named.front) named.back x
    test = named.second
