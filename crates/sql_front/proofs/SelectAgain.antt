-- The printed form of a SELECT is read as that SELECT.
use Rattle.std.proofs.Common.{◌≡◌, ℕ, ◌-◌, inl, inr, Bool, true, false, List, [], ◌∷◌, ◌++◌, length, Option, Some, None, refl, sym, ◌∙◌, subst, append_assoc, append-nil}
use Rattle.std.specs.Prelude.{ℤ}
use Rattle.sql_words.specs.declared.reserved.Word.{Word}
use Rattle.sql_words.specs.declared.reserved.Word.TheVariants as w
use Rattle.sql_words.specs.declared.signs.Sign.TheVariants as s
use Rattle.sql_statements.specs.declared.expressions.Expr.{Expr}
use Rattle.sql_statements.specs.declared.statements.Agg.{Agg}
use Rattle.sql_statements.specs.declared.statements.Agg.TheVariants as agg
use Rattle.sql_statements.specs.declared.statements.Selected.{Selected}
use Rattle.sql_statements.specs.declared.statements.Selected.TheVariants as selected
use Rattle.sql_statements.specs.declared.statements.Join.{Join}
use Rattle.sql_statements.specs.declared.statements.OrderKey.{OrderKey}
use Rattle.sql_statements.specs.declared.statements.Stmt.{Stmt}
use Rattle.sql_statements.specs.declared.statements.Stmt.TheVariants as stmt
use Rattle.sql_front.specs.Conditions.{is_other}
use Rattle.sql_front.specs.Expressions.{an_expression}
use Rattle.sql_front.specs.Grammar as g
use Rattle.sql_front.specs.Printed as p
use Rattle.sql_front.specs.Printed.{expr_symbols, listed, others, int_symbols}
use Rattle.sql_front.specs.Rules.{Rule, nothing, the, a_name, a_name_if, a_small_number, Both, ◌or◌, a_list, Further, none, another}
use Rattle.sql_front.specs.Short.{IsShort, short_agg, short_items, short_join}
use Rattle.sql_front.specs.Symbols.{word, sign, name, Input}
use Rattle.sql_front.proofs.Again.{out_condition, out_value, Said, Any, any_of}
use Rattle.sql_front.proofs.Given.{Given, Out, front, back, out_both, out_last, out_the, out_name, out_name_if, out_nothing, out_left, out_right, its_name, allowed_name, out_expr, out_small, out_list}

-- ---- aggregates

out_bracketed : {k : ℕ} {i : Input} {x : Expr} → Given k i → g.bracketed k i x → IsShort x → Out g.bracketed (p.bracketed x) x
out_bracketed {k} {i} {x} d m h = go h where
  inner : Both an_expression (λ arg. Both (the (sign s.Close)) (λ _. nothing arg)) (k - length m.front) m.back x
  inner = m.second

  go : IsShort x → Out g.bracketed (p.bracketed x) x
  go = subst (λ y. IsShort y → Out g.bracketed (p.bracketed y) y) inner.second.second.1
      (λ z. out_both (out_the (sign s.Open) tt) (out_both (out_expr inner.value (front (back d m) inner) inner.first z) (out_last tt (out_the (sign s.Close) tt))))

abbrev Aggregate : Rule Agg
Aggregate = g.an_aggregate []

abbrev StarRule : Rule Agg
StarRule = Both (the (sign s.Star)) (λ _. Both (the (sign s.Close)) (λ _. nothing agg.CountAll))

abbrev ArgRule : Rule Agg
ArgRule = Both an_expression (λ arg. Both (the (sign s.Close)) (λ _. nothing (agg.Count arg)))

abbrev Counts : Agg → Type 0
Counts x = short_agg x → (i : Input) × Out g.counted i x × (p.aggregate_symbols x ≡ word w.Count ∷ i)

out_counted : {k : ℕ} {i : Input} {x : Agg} → Given k i → g.counted k i x → Counts x
out_counted {k} {i} {x} d m = by_side m.second refl where
  by_side : (v : (StarRule or ArgRule) (k - length m.front) m.back x) → m.second ≡ v → Counts x
  by_side (inl n) e = subst Counts n.second.second.1
      (λ h. (sign s.Open ∷ sign s.Star ∷ sign s.Close ∷ [], out_both (out_the (sign s.Open) tt) (out_left (out_both (out_the (sign s.Star) tt) (out_last tt (out_the (sign s.Close) tt)))), refl))
  by_side (inr n) e = subst Counts n.second.second.1
      (λ h. (
        sign s.Open ∷ (expr_symbols n.value ++ sign s.Close ∷ []),
        out_both (out_the (sign s.Open) tt) (out_right (out_both (out_expr n.value (front (back d m) n) n.first h) (out_last tt (out_the (sign s.Close) tt)))),
        refl,
      ))

abbrev Of : Word → (Expr → Agg) → Rule Agg
Of t make = Both (the (word t)) (λ _. Both g.bracketed (λ arg. nothing (make arg)))

-- one of the three with an argument
out_of : (t : Word) (make : Expr → Agg) {k : ℕ} {i : Input} {x : Agg} → Given k i → Of t make k i x → ((y : Expr) → short_agg (make y) → IsShort y) → short_agg x
    → (y : Expr) × (make y ≡ x) × Out (Of t make) (word t ∷ p.bracketed y) (make y)
out_of t make {k} {i} {x} d m f h = (inner.value, inner.second.1, out_both (out_the (word t) tt) (out_last {f = make} inner.value (out_bracketed (front (back d m) inner) inner.first (f inner.value (subst short_agg (sym inner.second.1) h))))) where
  inner : Both g.bracketed (λ arg. nothing (make arg)) (k - length m.front) m.back x
  inner = m.second

abbrev Printed : Agg → Type 0
Printed x = Out Aggregate (p.aggregate_symbols x) x

out_aggregate : (before : List Agg) (k : ℕ) (i : Input) (x : Agg) → Given k i → g.an_aggregate before k i x → short_agg x → Out (g.an_aggregate before) (p.aggregate_symbols x) x
out_aggregate before k i x d (inl m) h =
    let v = out_counted (back d m) m.second h in
    subst (λ z. Out Aggregate z x) (sym v.2) (out_left (out_both (out_the (word w.Count) tt) v.1))
out_aggregate before k i x d (inr (inl m)) h =
    let v = out_of w.Sum agg.Sum d m (λ y z. z) h in
    subst Printed v.1 (out_right (out_left v.2))
out_aggregate before k i x d (inr (inr (inl m))) h =
    let v = out_of w.Min agg.Min d m (λ y z. z) h in
    subst Printed v.1 (out_right (out_right (out_left v.2)))
out_aggregate before k i x d (inr (inr (inr m))) h =
    let v = out_of w.Max agg.Max d m (λ y z. z) h in
    subst Printed v.1 (out_right (out_right (out_right v.2)))

-- ---- what is selected

abbrev Selects : Selected → Type 0
Selects x = short_items x → Out g.selected_items (p.selected_symbols x) x

out_items : {k : ℕ} {i : Input} {x : Selected} → Given k i → g.selected_items k i x → Selects x
out_items d (inl m) = subst Selects m.second.1 (λ h. out_left (out_last {f = λ _. selected.Star} tt (out_the (sign s.Star) tt)))
out_items d (inr (inl m)) = subst Selects m.second.1 (λ h. out_right (out_left (out_last {f = selected.Aggs} m.value (out_list g.an_aggregate p.aggregate_symbols short_agg out_aggregate (front d m) m.first h))))
out_items d (inr (inr m)) = subst Selects m.second.1 (λ h. out_right (out_right (out_last {f = selected.Plain} m.value (out_list g.a_value expr_symbols IsShort out_value (front d m) m.first h))))

-- ---- JOIN

abbrev Joins : List ℕ → Option Join → Type 0
Joins left x = short_join x → Out (g.a_join left) (p.join_symbols x) x

out_join : (left : List ℕ) {k : ℕ} {i : Input} {x : Option Join} → Given k i → g.a_join left k i x → Joins left x
out_join left {k} {i} {x} d (inl m) = subst (Joins left) expr.second.1
    (λ h. let a = allowed_name (is_other left) (front (back d m) right) right.first in
    out_left (out_both (out_the (word w.Join) tt)
    (out_both (out_name_if (is_other left) right.value a.0 a.1)
    (out_both (out_the (word w.On) tt)
    (out_last expr.value (out_expr expr.value (front (back (back (back d m) right) on) expr) expr.first h))))))
  where
    right : Both (a_name_if (is_other left)) (λ right. Both (the (word w.On)) (λ _. Both an_expression (λ on. nothing (Some (record { right = right; on = on }))))) (k - length m.front) m.back x
    right = m.second

    on : Both (the (word w.On)) (λ _. Both an_expression (λ on. nothing (Some (record { right = right.value; on = on })))) (k - length m.front - length right.front) right.back x
    on = right.second

    expr : Both an_expression (λ on. nothing (Some (record { right = right.value; on = on }))) (k - length m.front - length right.front - length on.front) on.back x
    expr = on.second
out_join left d (inr m) = subst (Joins left) m.1 (λ h. out_right (out_nothing None))

-- ---- ORDER BY and LIMIT

abbrev Pair : Type 0
Pair = Option (List ℕ) × List ℕ

abbrev Dotted : List ℕ → Rule Pair
Dotted first = Both (the (sign s.Dot)) (λ _. Both a_name (λ second. nothing {X = Pair} (Some first, second)))

abbrev Columns : Pair → Type 0
Columns x = Out g.a_column (p.column_symbols x.0 x.1) x

out_column : {k : ℕ} {i : Input} {x : Pair} → Given k i → g.a_column k i x → Columns x
out_column {k} {i} {x} d m = by_side m.second refl where
  first : Out a_name (name m.value ∷ []) m.value
  first = out_name m.value (its_name (front d m) m.first)

  by_side : (v : (Dotted m.value or nothing {X = Pair} (None, m.value)) (k - length m.front) m.back x) → m.second ≡ v → Columns x
  by_side (inl n) e = subst Columns second.second.1
      (out_both first (out_left (out_both (out_the (sign s.Dot) tt) (out_last {f = λ z. (Some m.value, z)} second.value (out_name second.value (its_name (front (back (back d m) n) second) second.first))))))
    where
      second : Both a_name (λ second. nothing {X = Pair} (Some m.value, second)) (k - length m.front - length n.front) n.back x
      second = n.second
  by_side (inr n) e = subst Columns n.1 (out_both first (out_right (out_nothing {X = Pair} (None, m.value))))

out_direction : {k : ℕ} {i : Input} {x : Bool} → g.a_direction k i x → Out g.a_direction (p.direction_symbols x) x
out_direction (inl m) = subst (λ y. Out g.a_direction (p.direction_symbols y) y) m.second.1 (out_left (out_last {f = λ _. true} tt (out_the (word w.Desc) tt)))
out_direction (inr (inl m)) = subst (λ y. Out g.a_direction (p.direction_symbols y) y) m.second.1 (out_right (out_right (out_nothing false)))
out_direction (inr (inr m)) = subst (λ y. Out g.a_direction (p.direction_symbols y) y) m.1 (out_right (out_right (out_nothing false)))

abbrev key_of : Pair → Bool → OrderKey
key_of key desc = record { table = key.0; name = key.1; desc = desc }

out_order_key : (before : List OrderKey) (k : ℕ) (i : Input) (x : OrderKey) → Given k i → g.an_order_key before k i x → Any x → Out (g.an_order_key before) (p.key_order_symbols x) x
out_order_key before k i x d m h = subst (λ y. Out (g.an_order_key before) (p.key_order_symbols y) y) desc.second.1
    (out_both (out_column (front d m) m.first) (out_last {f = key_of m.value} desc.value (out_direction desc.first)))
  where
    desc : Both g.a_direction (λ desc. nothing (key_of m.value desc)) (k - length m.front) m.back x
    desc = m.second

-- keys that were read are some
listed_orders : (keys : List OrderKey) → (x : OrderKey) (xs : List OrderKey) → keys ≡ (x ∷ []) ++ xs → p.order_symbols keys ≡ word w.Order ∷ word w.By ∷ listed p.key_order_symbols keys
listed_orders [] x xs e = absurd cc
listed_orders (k ∷ keys) x xs e = refl

out_orders : {k : ℕ} {i : Input} {x : List OrderKey} → Given k i → g.orders k i x → Out g.orders (p.order_symbols x) x
out_orders {k} {i} {x} d (inl m) =
    subst (λ z. Out g.orders z x) (sym (some x keys))
    (out_left (out_both (out_the (word w.Order) tt) (out_both (out_the (word w.By) tt) (out_list g.an_order_key p.key_order_symbols (λ y. Any y) out_order_key (back (back d m) by) keys (any_of x)))))
  where
    by : Both (the (word w.By)) (λ _. a_list g.an_order_key) (k - length m.front) m.back x
    by = m.second

    keys : a_list g.an_order_key (k - length m.front - length by.front) by.back x
    keys = by.second

    further_some : {before xs : List OrderKey} {n : ℕ} {j : Input} → Further g.an_order_key before n j xs → (ys : List OrderKey) × (xs ≡ before ++ ys)
    further_some {before} none = ([], sym (append-nil before))
    further_some {before} (another {x = y} a b) = let r = further_some b in (y ∷ r.0, r.1 ∙ append_assoc before (y ∷ []) r.0)

    some : (keys : List OrderKey) → a_list g.an_order_key (k - length m.front - length by.front) by.back keys → p.order_symbols keys ≡ word w.Order ∷ word w.By ∷ listed p.key_order_symbols keys
    some keys l = let r = further_some l.second in listed_orders keys l.value r.0 r.1
out_orders d (inr m) = subst (λ y. Out g.orders (p.order_symbols y) y) m.1 (out_right (out_nothing []))

out_limit : {k : ℕ} {i : Input} {x : Option ℤ} → Given k i → g.a_limit k i x → Out g.a_limit (p.limit_symbols x) x
out_limit {k} {i} {x} d (inl m) = subst (λ y. Out g.a_limit (p.limit_symbols y) y) most.second.1
    (out_left (out_both (out_the (word w.Limit) tt) (out_last {f = Some} most.value (out_small (k - length m.front) most.front most.value most.first))))
  where
    most : Both a_small_number (λ n. nothing (Some n)) (k - length m.front) m.back x
    most = m.second
out_limit d (inr m) = subst (λ y. Out g.a_limit (p.limit_symbols y) y) m.1 (out_right (out_nothing None))

abbrev Ends : Type 0
Ends = List OrderKey × Option ℤ

abbrev ordering : Rule Ends
ordering = Both g.orders (λ order. Both g.a_limit (λ most. nothing {X = Ends} (order, most)))

out_ordering : {k : ℕ} {i : Input} {x : Ends} → Given k i → ordering k i x → Out ordering (p.order_symbols x.0 ++ p.limit_symbols x.1) x
out_ordering {k} {i} {x} d m = subst (λ (y : Ends). Out ordering (p.order_symbols y.0 ++ p.limit_symbols y.1) y) most.second.1
    (out_both (out_orders (front d m) m.first) (out_last {f = λ z. (m.value, z)} most.value (out_limit (front (back d m) most) most.first)))
  where
    most : Both g.a_limit (λ most. nothing {X = Ends} (m.value, most)) (k - length m.front) m.back x
    most = m.second

out_endings : (items : Selected) {k : ℕ} {i : Input} {x : Ends} → Given k i → g.endings items k i x → Out (g.endings items) (p.order_symbols x.0 ++ p.limit_symbols x.1) x
out_endings (selected.Aggs items) d m = subst (λ (y : Ends). Out (nothing {X = Ends} ([], None)) (p.order_symbols y.0 ++ p.limit_symbols y.1) y) m.1 (out_nothing {X = Ends} ([], None))
out_endings selected.Star d m = out_ordering d m
out_endings (selected.Plain items) d m = out_ordering d m

-- ---- SELECT

abbrev query_of : Selected → List ℕ → Option Join → Option Expr → Ends → Stmt
query_of items left joined test ends = stmt.Select (record { items = items; left = left; join = joined; test = test; order = ends.0; limit = ends.1 })

pub out_select : {k : ℕ} {i : Input} {x : Stmt} → Given k i → g.a_select k i x → Said g.a_select w.Select x
out_select {k} {i} {x} d m = subst (Said g.a_select w.Select) ends.second.1
    (λ h. (
      p.selected_symbols m.value ++ (word w.From ∷ name left.value ∷ (p.join_symbols joined.value ++ (p.condition_symbols test.value ++ (p.order_symbols ends.value.0 ++ p.limit_symbols ends.value.1)))),
      out_both (out_items (front d m) m.first h.0)
          (out_both (out_the (word w.From) tt)
          (out_both (out_name left.value (its_name (front (back (back d m) from) left) left.first))
          (out_both (out_join left.value (front (back (back (back d m) from) left) joined) joined.first h.1)
          (out_both (out_condition (front (back (back (back (back d m) from) left) joined) test) test.first h.2)
          (out_last {f = query_of m.value left.value joined.value test.value} ends.value (out_endings m.value (front (back (back (back (back (back d m) from) left) joined) test) ends) ends.first)))))),
      refl,
    ))
  where
    from : Both (the (word w.From)) (λ _. Both a_name (λ left. Both (g.a_join left) (λ joined. Both g.a_condition (λ test. Both (g.endings m.value) (λ ends. nothing (query_of m.value left joined test ends)))))) (k - length m.front) m.back x
    from = m.second

    left : Both a_name (λ left. Both (g.a_join left) (λ joined. Both g.a_condition (λ test. Both (g.endings m.value) (λ ends. nothing (query_of m.value left joined test ends))))) (k - length m.front - length from.front) from.back x
    left = from.second

    joined : Both (g.a_join left.value) (λ joined. Both g.a_condition (λ test. Both (g.endings m.value) (λ ends. nothing (query_of m.value left.value joined test ends)))) (k - length m.front - length from.front - length left.front) left.back x
    joined = left.second

    test : Both g.a_condition (λ test. Both (g.endings m.value) (λ ends. nothing (query_of m.value left.value joined.value test ends))) (k - length m.front - length from.front - length left.front - length joined.front) joined.back x
    test = joined.second

    ends : Both (g.endings m.value) (λ ends. nothing (query_of m.value left.value joined.value test.value ends)) (k - length m.front - length from.front - length left.front - length joined.front - length test.front) test.back x
    ends = test.second
