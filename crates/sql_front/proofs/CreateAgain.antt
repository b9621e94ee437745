-- The printed form of a CREATE is read as that CREATE.
use Rattle.std.proofs.Common.{◌≡◌, ℕ, suc, ◌+◌, ◌-◌, inl, inr, ◌||◌, Bool, true, false, cond, not, nat_eq, List, [], ◌∷◌, ◌++◌, map, length, refl, sym, ◌∙◌, ap, subst, arith, eq-eqb, append_assoc, append-nil, length-append}
use Rattle.std.proofs.lemmas.Bool.{eqb-true}
use Rattle.std.specs.List.{list_any, position_or_len}
use Rattle.sql_values.specs.declared.values.Sort.{Sort}
use Rattle.sql_values.specs.declared.values.Sort.TheVariants as sort
use Rattle.sql_words.specs.declared.reserved.Word.TheVariants as w
use Rattle.sql_words.specs.declared.signs.Sign.TheVariants as s
use Rattle.sql_front.specs.declared.definitions.Definition.{Definition}
use Rattle.sql_statements.specs.declared.statements.Stmt.{Stmt}
use Rattle.sql_statements.specs.declared.statements.Stmt.TheVariants as stmt
use Rattle.sql_front.specs.Conditions.{is_new_column, is_keyless, has_key, key_place, schema}
use Rattle.sql_front.specs.Grammar as g
use Rattle.sql_front.specs.Printed as p
use Rattle.sql_front.specs.Printed.{listed, others}
use Rattle.sql_front.specs.Rules.{nothing, the, the_if, a_name, Both, a_list, Further, none, another}
use Rattle.sql_front.specs.Symbols.{word, sign, name, Input}
use Rattle.sql_front.proofs.Again.{Said, Any, any_of}
use Rattle.sql_front.proofs.ExprAgain.{sound_front, sound_back}
use Rattle.sql_front.proofs.Given.{Given, Out, front, back, out_both, out_last, out_the, out_the_if, out_name, out_name_if, out_nothing, out_left, out_right, its_name, allowed_name, out_list}

out_sort : {k : ℕ} {i : Input} {x : Sort} → g.a_sort k i x → Out g.a_sort (p.sort_word x ∷ []) x
out_sort (inl m) = subst (λ y. Out g.a_sort (p.sort_word y ∷ []) y) m.second.1 (out_left (out_last {f = λ _. sort.Text} tt (out_the (word w.Text) tt)))
out_sort (inr m) = subst (λ y. Out g.a_sort (p.sort_word y ∷ []) y) m.second.1 (out_right (out_last {f = λ _. sort.Int} tt (out_the (word w.Int) tt)))

-- a key mark says that a key may stand here
out_key_mark : (allowed : Bool) {k : ℕ} {i : Input} {x : Bool} → Given k i → g.a_key_mark allowed k i x → Out (g.a_key_mark allowed) (p.key_symbols x) x × (x ≡ true → allowed ≡ true)
out_key_mark allowed {k} {i} {x} d (inl m) =
    let free : allowed ≡ true = m.first.1 (omega (arith, d.within, ap length m.whole, length-append m.front m.back, ap length m.first.0)) in (
      subst (λ y. Out (g.a_key_mark allowed) (p.key_symbols y) y) m.second.second.1 (out_left (out_both (out_the_if allowed (word w.Primary) tt free) (out_last {f = λ _. true} tt (out_the (word w.Key) tt)))),
      λ _. free,
    )
out_key_mark allowed d (inr m) = (subst (λ y. Out (g.a_key_mark allowed) (p.key_symbols y) y) m.1 (out_right (out_nothing false)), λ e. absurd (apart (m.1 ∙ e))) where
  apart : false ≡ true → ⊥
  apart e = cc

abbrev shown : Definition → Input
shown d = p.definition_symbols d.is_key d.column

abbrev made : List ℕ → Sort → Bool → Definition
made n t k = record { column = record { name = n; sort = t }; is_key = k }

-- a key stands behind no other
abbrev Keyed : List Definition → Definition → Type 0
Keyed before x = x.is_key ≡ true → is_keyless before ≡ true

out_definition : (before : List Definition) {k : ℕ} {i : Input} {x : Definition} → Given k i → g.a_definition before k i x → Out (g.a_definition before) (shown x) x × Keyed before x
out_definition before {k} {i} {x} d m =
    let a = allowed_name (is_new_column before) (front d m) m.first in
    let v = out_key_mark (is_keyless before) (front (back (back d m) kind) mark) mark.first in
    subst (λ y. Out (g.a_definition before) (shown y) y × Keyed before y) mark.second.1
    (out_both (out_name_if (is_new_column before) m.value a.0 a.1) (out_both (out_sort kind.first) (out_last {f = made m.value kind.value} mark.value v.0)), v.1)
  where
    kind : Both g.a_sort (λ t. Both (g.a_key_mark (is_keyless before)) (λ k. nothing (made m.value t k))) (k - length m.front) m.back x
    kind = m.second

    mark : Both (g.a_key_mark (is_keyless before)) (λ k. nothing (made m.value kind.value k)) (k - length m.front - length kind.front) kind.back x
    mark = kind.second

out_item : (before : List Definition) (k : ℕ) (i : Input) (x : Definition) → Given k i → g.a_definition before k i x → Any x → Out (g.a_definition before) (shown x) x
out_item before k i x d m h = (out_definition before d m).0

-- ---- one key

-- each key stands behind no other, from a place on
abbrev KeyedFrom : List Definition → List Definition → Type 0
KeyedFrom before [] = Unit {0}
KeyedFrom before (x ∷ xs) = Keyed before x × KeyedFrom (before ++ x ∷ []) xs

keyed_further : {before xs : List Definition} {k : ℕ} {i : Input} → Given k i → Further g.a_definition before k i xs → (new : List Definition) × (xs ≡ before ++ new) × KeyedFrom before new
keyed_further {before} d none = ([], sym (append-nil before), tt)
keyed_further {before} {xs} {k} d (another {a = a} {b = b} {x = x} m n) =
    let r = keyed_further (record { within = omega (arith, d.within, length-append a b); sound = sound_back a b d.sound.1 }) n in
    let here = out_definition before {k = k - 1} {i = a} {x = x} (record { within = omega (arith, d.within, length-append a b); sound = sound_front a b d.sound.1 }) m in
    (x ∷ r.0, r.1 ∙ append_assoc before (x ∷ []) r.0, (here.1, r.2))

-- the place of the first key
place_first : (f : Definition → Bool) (a b : List Definition) (x : Definition) → list_any f a ≡ false → f x ≡ true → position_or_len f (a ++ x ∷ b) ≡ length a
place_first f [] b x h e = ap (λ t. cond (not t) (1 + position_or_len f b) 0) e
place_first f (y ∷ a) b x h e = by_test (f y) refl (λ g. place_first f a b x (rest g) e) where
  rest : f y ≡ false → list_any f a ≡ false
  rest g = ap (λ t. t || list_any f a) (sym g) ∙ h

  by_test : (t : Bool) → f y ≡ t → (f y ≡ false → position_or_len f (a ++ x ∷ b) ≡ length a) → cond (not (f y)) (1 + position_or_len f (a ++ x ∷ b)) 0 ≡ suc (length a)
  by_test true g r = absurd (apart (sym (ap (λ t. t || list_any f a) g) ∙ h)) where
    apart : true ≡ false → ⊥
    apart q = cc
  by_test false g r = ap (λ t. cond (not t) (1 + position_or_len f (a ++ x ∷ b)) 0) g ∙ add_one (r g) where
    add_one : position_or_len f (a ++ x ∷ b) ≡ length a → 1 + position_or_len f (a ++ x ∷ b) ≡ suc (length a)
    add_one q = omega (arith, q)

-- no place of a key is one without
place_other : (f : Definition → Bool) (a b : List Definition) (x : Definition) → f x ≡ false → position_or_len f (a ++ x ∷ b) ≡ length a → ⊥
place_other f [] b x e h = absurd (omega (arith, sym (ap (λ t. cond (not t) (1 + position_or_len f b) 0) e) ∙ h))
place_other f (y ∷ a) b x e h = by_test (f y) refl (place_other f a b x e) where
  by_test : (t : Bool) → f y ≡ t → (position_or_len f (a ++ x ∷ b) ≡ length a → ⊥) → ⊥
  by_test true g r = absurd (omega (arith, sym (ap (λ t. cond (not t) (1 + position_or_len f (a ++ x ∷ b)) 0) g) ∙ h))
  by_test false g r = r (less (sym (ap (λ t. cond (not t) (1 + position_or_len f (a ++ x ∷ b)) 0) g) ∙ h)) where
    less : 1 + position_or_len f (a ++ x ∷ b) ≡ suc (length a) → position_or_len f (a ++ x ∷ b) ≡ length a
    less q = omega (arith, q)

keyless_none : (before : List Definition) → is_keyless before ≡ true → list_any (λ d. d.is_key) before ≡ false
unfolding has_key
keyless_none before h = flip (list_any (λ d. d.is_key) before) h where
  flip : (t : Bool) → not t ≡ true → t ≡ false
  flip false e = refl
  flip true e = absurd (apart e) where
    apart : false ≡ true → ⊥
    apart q = cc

-- the mark of a definition is whether it stands at the key's place
mark_is : (before after : List Definition) (x : Definition) → Keyed before x → nat_eq (length before) (key_place (before ++ x ∷ after)) ≡ x.is_key
unfolding key_place
mark_is before after x h = by_test x.is_key refl where
  by_test : (t : Bool) → x.is_key ≡ t → nat_eq (length before) (position_or_len (λ d. d.is_key) (before ++ x ∷ after)) ≡ x.is_key
  by_test true e = ap (nat_eq (length before)) (place_first (λ d. d.is_key) before after x (keyless_none before (h e)) e) ∙ same (length before) ∙ sym e where
    same : (n : ℕ) → nat_eq n n ≡ true
    same n = eq-eqb n n refl
  by_test false e = differ (nat_eq (length before) (position_or_len (λ d. d.is_key) (before ++ x ∷ after))) refl ∙ sym e where
    differ : (t : Bool) → nat_eq (length before) (position_or_len (λ d. d.is_key) (before ++ x ∷ after)) ≡ t → t ≡ false
    differ false q = refl
    differ true q = absurd (place_other (λ d. d.is_key) before after x e (sym (eqb-true (length before) (position_or_len (λ d. d.is_key) (before ++ x ∷ after)) q)))

columns_further : (before new : List Definition) → KeyedFrom before new → p.further_columns (key_place (before ++ new)) (length before) (map (λ d. d.column) new) ≡ others shown new
columns_further before [] h = refl
columns_further before (x ∷ new) h =
    let next : length (before ++ x ∷ []) ≡ length before + 1 = length-append before (x ∷ []) in
    let whole : (before ++ x ∷ []) ++ new ≡ before ++ (x ∷ new) = append_assoc before (x ∷ []) new in
    ap (λ t. sign s.Comma ∷ (p.definition_symbols t x.column ++ p.further_columns (key_place (before ++ x ∷ new)) (length before + 1) (map (λ d. d.column) new))) (mark_is before new x h.0)
    ∙ ap (λ z. sign s.Comma ∷ (shown x ++ z))
    (ap (λ n. p.further_columns (key_place (before ++ x ∷ new)) n (map (λ d. d.column) new)) (sym next)
    ∙ ap (λ z. p.further_columns (key_place z) (length (before ++ x ∷ [])) (map (λ d. d.column) new)) (sym whole)
    ∙ columns_further (before ++ x ∷ []) new h.1)

columns_listed : (x : Definition) (new : List Definition) → Keyed [] x → KeyedFrom (x ∷ []) new → p.columns_symbols (key_place (x ∷ new)) (map (λ d. d.column) (x ∷ new)) ≡ listed shown (x ∷ new)
columns_listed x new h g =
    ap (λ t. p.definition_symbols t x.column ++ p.further_columns (key_place (x ∷ new)) 1 (map (λ d. d.column) new)) (nat_eq_sym (key_place (x ∷ new)) ∙ mark_is [] new x h)
    ∙ ap (λ z. shown x ++ z) (columns_further (x ∷ []) new g)
  where
    nat_eq_sym : (n : ℕ) → nat_eq n 0 ≡ nat_eq 0 n
    nat_eq_sym n = by_test (nat_eq 0 n) refl where
      by_test : (t : Bool) → nat_eq 0 n ≡ t → nat_eq n 0 ≡ nat_eq 0 n
      by_test true e = eq-eqb n 0 (sym (eqb-true 0 n e)) ∙ sym e
      by_test false e = other (nat_eq n 0) refl ∙ sym e where
        other : (t : Bool) → nat_eq n 0 ≡ t → t ≡ false
        other false q = refl
        other true q = sym (eq-eqb 0 n (sym (eqb-true n 0 q))) ∙ e

-- ---- CREATE

pub out_create : {k : ℕ} {i : Input} {x : Stmt} → Given k i → g.a_create k i x → Said g.a_create w.Create x
unfolding schema
out_create {k} {i} {x} d m = subst (Said g.a_create w.Create) close.second.1
    (λ h. (
      word w.Table ∷ name named.value ∷ sign s.Open ∷ (p.columns_symbols (key_place columns.value) (map (λ d. d.column) columns.value) ++ sign s.Close ∷ []),
      out_both (out_the (word w.Table) tt)
          (out_both (out_name named.value (its_name (front (back d m) named) named.first))
          (out_both (out_the (sign s.Open) tt)
          (out_both (subst (λ z. Out (a_list g.a_definition) z columns.value) (sym same) (out_list g.a_definition shown (λ y. Any y) out_item (front (back (back (back d m) named) open_) columns) columns.first (any_of columns.value)))
          (out_last {f = λ _. stmt.Create (schema named.value columns.value)} tt (out_the_if (has_key columns.value) (sign s.Close) tt has))))),
      refl,
    ))
  where
    named : Both a_name (λ table. Both (the (sign s.Open)) (λ _. Both (a_list g.a_definition) (λ columns. Both (the_if (has_key columns) (sign s.Close)) (λ _. nothing (stmt.Create (schema table columns)))))) (k - length m.front) m.back x
    named = m.second

    open_ : Both (the (sign s.Open)) (λ _. Both (a_list g.a_definition) (λ columns. Both (the_if (has_key columns) (sign s.Close)) (λ _. nothing (stmt.Create (schema named.value columns))))) (k - length m.front - length named.front) named.back x
    open_ = named.second

    columns : Both (a_list g.a_definition) (λ columns. Both (the_if (has_key columns) (sign s.Close)) (λ _. nothing (stmt.Create (schema named.value columns)))) (k - length m.front - length named.front - length open_.front) open_.back x
    columns = open_.second

    close : Both (the_if (has_key columns.value) (sign s.Close)) (λ _. nothing (stmt.Create (schema named.value columns.value))) (k - length m.front - length named.front - length open_.front - length columns.front) columns.back x
    close = columns.second

    behind : Given (k - length m.front - length named.front - length open_.front - length columns.front) columns.back
    behind = back (back (back (back d m) named) open_) columns

    has : has_key columns.value ≡ true
    has = close.first.1 (omega (arith, behind.within, ap length close.whole, length-append close.front close.back, ap length close.first.0))

    list : a_list g.a_definition (k - length m.front - length named.front - length open_.front) columns.front columns.value
    list = columns.first

    list_given : Given (k - length m.front - length named.front - length open_.front) columns.front
    list_given = front (back (back (back d m) named) open_) columns

    same : p.columns_symbols (key_place columns.value) (map (λ d. d.column) columns.value) ≡ listed shown columns.value
    same =
        let r = keyed_further (back list_given list) list.second in
        let f = out_definition [] (front list_given list) list.first in
        subst (λ z. p.columns_symbols (key_place z) (map (λ d. d.column) z) ≡ listed shown z) (sym r.1) (columns_listed list.value r.0 f.1 r.2)
