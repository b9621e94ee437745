-- The printed form of an expression is read as that expression.
use Rattle.std.proofs.Common.{◌≡◌, ℕ, zero, suc, ◌<◌, ◌≤◌, ◌^◌, Bool, true, false, not, List, [], ◌∷◌, ◌++◌, Option, Some, None, sym, subst, arith, append-nil}
use Rattle.std.proofs.lemmas.Bool.{ltb-true, lt-ltb, le-leb}
use Rattle.std.specs.Prelude.{pos, negsuc, neg_ℤ}
use Rattle.sql_values.specs.declared.values.Value.{Value}
use Rattle.sql_values.specs.declared.values.Value.TheVariants as value
use Rattle.sql_words.specs.declared.reserved.Word.TheVariants as w
use Rattle.sql_words.specs.declared.signs.Sign.TheVariants as s
use Rattle.sql_words.specs.Tokens.{is_minus}
use Rattle.sql_statements.specs.declared.expressions.Expr.{Expr}
use Rattle.sql_statements.specs.declared.expressions.Expr.TheVariants.{Lit, Col, Neg, Not, IsNull, Two}
use Rattle.sql_statements.specs.declared.expressions.Expr.TheOpen as layer
use Rattle.sql_statements.specs.declared.expressions.Op.{Op}
use Rattle.sql_statements.specs.declared.expressions.Op.TheVariants as op
use Rattle.sql_front.specs.declared.levels.Level.{Level}
use Rattle.sql_front.specs.declared.levels.Level.TheVariants as level
use Rattle.sql_front.specs.Expressions.{Joins, or, and, plus, minus, times, Compares, eq, ne, lt, le, gt, ge, Part, row, under, BeginsNoNumber, Means, operand, joined, negated, tested, summed, compared, is_null, is_not_null, a_number, a_negative, a_text, a_null, a_column, of_table, group}
use Rattle.sql_front.specs.Expressions as e
use Rattle.sql_front.specs.Printed.{Form, form, form_step, complex, behind_minus, enclosed, opening, closing, expr_symbols, value_symbols, column_symbols, int_symbols, null_symbols, operator_symbol}
use Rattle.sql_front.specs.Printed as p
use Rattle.sql_front.specs.Symbols.{Symbol, word, sign, name, number, text, Input, class_of}
use Rattle.sql_front.proofs.Lexing.{AllSound, Fits, Lexes}
use Rattle.sql_front.proofs.Writing.{form_lit, form_col, form_neg, form_not, form_null, form_two}

-- ---- symbols that may be written

pub sound_front : (i j : Input) → AllSound (i ++ j) → AllSound i
sound_front [] j h = tt
sound_front (x ∷ i) j h = (h.0, sound_front i j h.1)

pub sound_back : (i j : Input) → AllSound (i ++ j) → AllSound j
sound_back [] j h = h
sound_back (x ∷ i) j h = sound_back i j h.1

fits_more : (m : Bool) (x : Symbol) → Fits false x → Fits m x
fits_more true (number n) h = let few = ltb-true n 9223372036854775808 h in le-leb n 9223372036854775808 (omega arith)
fits_more false (number n) h = h
fits_more m (word x) h = h
fits_more m (sign x) h = h
fits_more m (name n) h = h
fits_more m (text t) h = h

pub lexes_more : (m : Bool) (i : Input) → Lexes false i → Lexes m i
lexes_more m [] h = tt
lexes_more m (x ∷ i) h = (fits_more m x h.0, h.1)

pub lexes_append : (m : Bool) (i j : Input) → Lexes m i → Lexes false j → Lexes m (i ++ j)
lexes_append m [] j h g = lexes_more m j g
lexes_append m (x ∷ i) j h g = (h.0, lexes_append (is_minus (Some (class_of x))) i j h.1 g)

-- ---- levels

abbrev sum_of : {i : Input} {x : Expr} → Means e.unit i x → Means (row level.Sum) i x
sum_of m = operand (operand m)

abbrev negation_of : {i : Input} {x : Expr} → Means e.unit i x → Means e.negation i x
negation_of m = tested (summed (sum_of m))

abbrev whole_of : {i : Input} {x : Expr} → Means e.negation i x → Means (row level.Or) i x
whole_of m = operand (operand m)

abbrev pub whole_unit : {i : Input} {x : Expr} → Means e.unit i x → Means (row level.Or) i x
whole_unit m = whole_of (negation_of m)

two_joined : {l : Level} {o : Op} {t : Symbol} → Joins l t o → {i j : Input} {x y : Expr} → Means e.unit i x → Means e.unit j y → Means (row level.Or) (i ++ t ∷ j) (Two o x y)
two_joined or m n = joined or (operand (operand (negation_of m))) (operand (negation_of n))
two_joined and m n = operand (joined and (operand (negation_of m)) (negation_of n))
two_joined plus m n = whole_of (tested (summed (joined plus (sum_of m) (operand n))))
two_joined minus m n = whole_of (tested (summed (joined minus (sum_of m) (operand n))))
two_joined times m n = whole_of (tested (summed (operand (joined times (operand m) n))))

two_compared : {o : Op} {t : Symbol} → Compares t o → {i j : Input} {x y : Expr} → Means e.unit i x → Means e.unit j y → Means (row level.Or) (i ++ t ∷ j) (Two o x y)
two_compared k m n = whole_of (tested (compared k (sum_of m) (sum_of n)))

-- ---- what is printed of an expression

pub record Again (x : Expr) : Type 0 where
  pub whole : Means (row level.Or) (expr_symbols x) x
  pub part : Means e.unit (p.operand (form x)) x
  pub behind : Means e.unit (behind_minus (form x)) x
  pub no_number : BeginsNoNumber (behind_minus (form x))
  pub lexes : Lexes false (expr_symbols x)

lexes_enclosed : (b : Bool) (i : Input) → Lexes false i → Lexes false (enclosed b i)
lexes_enclosed true i h = (tt, lexes_append false i (sign s.Close ∷ []) h (tt, tt))
lexes_enclosed false i h = lexes_append false i [] h tt

lexes_operand : (x : Expr) → Again x → Lexes false (p.operand (form x))
lexes_operand x a = lexes_enclosed (not (form x).plain) (expr_symbols x) a.lexes

lexes_behind : (x : Expr) → Again x → Lexes false (behind_minus (form x))
lexes_behind x a = lexes_enclosed (not (form x).column) (expr_symbols x) a.lexes

-- by its form
abbrev By : Expr → Form → Type 0
By x f = Means (row level.Or) f.symbols x × Means e.unit (p.operand f) x × Means e.unit (behind_minus f) x × BeginsNoNumber (behind_minus f) × Lexes false f.symbols

again_by : (x : Expr) (f : Form) → form x ≡ f → By x f → Again x
again_by x f h b = let g = subst (By x) (sym h) b in record { whole = g.0; part = g.1; behind = g.2; no_number = g.3; lexes = g.4 }

-- with brackets as an operand
again_complex : (x : Expr) (i : Input) → form x ≡ complex i → Means (row level.Or) i x → Lexes false i → Again x
again_complex x i h m l = again_by x (complex i) h (m, group m, group m, tt, l)

-- a literal
again_literal : (v : Value) → Means e.unit (value_symbols v) (Lit v) → Lexes false (value_symbols v) → Again (Lit v)
again_literal v m l = again_by (Lit v) (form_step (layer.Lit v)) (form_lit v)
    (whole_unit m, subst (λ i. Means e.unit i (Lit v)) (sym (append-nil (value_symbols v))) m, group (whole_unit m), tt, l)

-- a column
again_column : (t : Option (List ℕ)) (c : List ℕ) → Means e.unit (column_symbols t c) (Col t c) → BeginsNoNumber (column_symbols t c ++ []) → Lexes false (column_symbols t c) → Again (Col t c)
again_column t c m b l =
    let same = subst (λ i. Means e.unit i (Col t c)) (sym (append-nil (column_symbols t c))) m in
    again_by (Col t c) (form_step (layer.Col t c)) (form_col t c) (whole_unit m, same, same, b, l)

again_two : (o : Op) (x y : Expr) → Again x → Again y → Means (row level.Or) (p.operand (form x) ++ (operator_symbol o ∷ p.operand (form y))) (Two o x y) → Lexes false (operator_symbol o ∷ p.operand (form y)) → Again (Two o x y)
again_two o x y a b m l = again_complex (Two o x y) (p.operand (form x) ++ (operator_symbol o ∷ p.operand (form y))) (form_two o x y) m (lexes_append false (p.operand (form x)) (operator_symbol o ∷ p.operand (form y)) (lexes_operand x a) l)

again_joined : {l : Level} {o : Op} {t : Symbol} → Joins l t o → (x y : Expr) → Again x → Again y → Again (Two o x y)
unfolding operator_symbol
again_joined or x y a b = again_two op.Or x y a b (two_joined or a.part b.part) (tt, lexes_operand y b)
again_joined and x y a b = again_two op.And x y a b (two_joined and a.part b.part) (tt, lexes_operand y b)
again_joined plus x y a b = again_two op.Add x y a b (two_joined plus a.part b.part) (tt, lexes_operand y b)
again_joined minus x y a b = again_two op.Sub x y a b (two_joined minus a.part b.part) (tt, lexes_more true (p.operand (form y)) (lexes_operand y b))
again_joined times x y a b = again_two op.Mul x y a b (two_joined times a.part b.part) (tt, lexes_operand y b)

again_compared : {o : Op} {t : Symbol} → Compares t o → (x y : Expr) → Again x → Again y → Again (Two o x y)
unfolding operator_symbol
again_compared eq x y a b = again_two op.Eq x y a b (two_compared eq a.part b.part) (tt, lexes_operand y b)
again_compared ne x y a b = again_two op.Ne x y a b (two_compared ne a.part b.part) (tt, lexes_operand y b)
again_compared lt x y a b = again_two op.Lt x y a b (two_compared lt a.part b.part) (tt, lexes_operand y b)
again_compared le x y a b = again_two op.Le x y a b (two_compared le a.part b.part) (tt, lexes_operand y b)
again_compared gt x y a b = again_two op.Gt x y a b (two_compared gt a.part b.part) (tt, lexes_operand y b)
again_compared ge x y a b = again_two op.Ge x y a b (two_compared ge a.part b.part) (tt, lexes_operand y b)

again_null : (x : Expr) (n : Bool) → Again x → Again (IsNull x n)
again_null x true a = again_complex (IsNull x true) (p.operand (form x) ++ null_symbols true) (form_null x true)
    (whole_of (tested (is_not_null (sum_of a.part)))) (lexes_append false (p.operand (form x)) (null_symbols true) (lexes_operand x a) (tt, (tt, (tt, tt))))
again_null x false a = again_complex (IsNull x false) (p.operand (form x) ++ null_symbols false) (form_null x false)
    (whole_of (tested (is_null (sum_of a.part)))) (lexes_append false (p.operand (form x)) (null_symbols false) (lexes_operand x a) (tt, (tt, tt)))

-- a number and its sign
again_positive : (n : ℕ) → n < 2 ^ 63 → Again (Lit (value.Int (pos n)))
unfolding int_symbols
again_positive n h = again_literal (value.Int (pos n)) (a_number h) (lt-ltb n 9223372036854775808 h, tt)

again_negative : (n : ℕ) → n ≤ 2 ^ 63 → Again (Lit (value.Int (neg_ℤ (pos n))))
unfolding int_symbols
again_negative zero h = again_positive zero (omega arith)
again_negative (suc n) h = again_literal (value.Int (negsuc n)) (a_negative {n = suc n}) (tt, (le-leb (suc n) 9223372036854775808 h, tt))

-- what was read once is printed so that it is read again
pub again : {q : Part} {i : Input} {x : Expr} → Means q i x → AllSound i → Again x
again (operand m) h = again m h
again (joined {a = a} {b = b} {t = t} {x = x} {y = y} j m n) h = again_joined j x y (again m (sound_front a (t ∷ b) h)) (again n (sound_back a (t ∷ b) h).1)
again (negated {x = x} m) h =
    let a = again m h.1 in
    again_complex (Not x) (word w.Not ∷ p.operand (form x)) (form_not x) (whole_of (negated (negation_of a.part))) (tt, lexes_operand x a)
again (tested m) h = again m h
again (summed m) h = again m h
again (compared {a = a} {b = b} {t = t} {x = x} {y = y} k m n) h = again_compared k x y (again m (sound_front a (t ∷ b) h)) (again n (sound_back a (t ∷ b) h).1)
again (is_null {a = a} {x = x} m) h = again_null x false (again m (sound_front a (word w.Is ∷ word w.Null ∷ []) h))
again (is_not_null {a = a} {x = x} m) h = again_null x true (again m (sound_front a (word w.Is ∷ word w.Not ∷ word w.Null ∷ []) h))
again (a_number {n = n} less) h = again_positive n less
again (a_negative {n = n}) h = again_negative n h.1.0
again (a_text {t = t}) h = again_literal (value.Text t) a_text (h.0, tt)
again a_null h = again_literal value.Null a_null (tt, tt)
again (a_column {c = c}) h = again_column None c a_column tt (h.0, tt)
again (of_table {t = t} {c = c}) h = again_column (Some t) c of_table tt (h.0, (tt, (h.1.1.0, tt)))
again (e.minus {x = x} b m) h =
    let a = again m h.1 in
    again_complex (Neg x) (sign s.Minus ∷ behind_minus (form x)) (form_neg x) (whole_unit (e.minus a.no_number a.behind)) (tt, lexes_more true (behind_minus (form x)) (lexes_behind x a))
again (group {a = a} m) h = again m (sound_front a (sign s.Close ∷ []) h.1)
