-- What the grammar says is an expression is read as one.
use Rattle.std.proofs.Common.{◌≡◌, ℕ, zero, suc, ◌+◌, ◌<◌, ◌≤◌, ◌^◌, true, false, cond, List, [], ◌∷◌, ◌++◌, length, Option, Some, None, Ok, Err, refl, ◌∙◌, ap, arith, append_assoc, length-append, lit<}
use Rattle.std.proofs.lemmas.Bool.{lt-ltb}
use Rattle.std.specs.Prelude.{pos, neg_ℤ, ℤ}
use Rattle.sql_values.specs.declared.values.Value.TheVariants as value
use Rattle.sql_words.specs.declared.reserved.Word.TheVariants as w
use Rattle.sql_words.specs.declared.signs.Sign.TheVariants as s
use Rattle.sql_words.specs.declared.tokens.Class.TheVariants as c
use Rattle.sql_statements.specs.declared.expressions.Expr.{Expr}
use Rattle.sql_statements.specs.declared.expressions.Expr.TheVariants.{Lit, Col, Neg, Not, IsNull, Two}
use Rattle.sql_statements.specs.declared.expressions.Op.{Op}
use Rattle.sql_front.specs.declared.levels.Level.{Level}
use Rattle.sql_front.specs.declared.levels.Level.TheVariants as level
use Rattle.sql_front.specs.Expressions.{Joins, or, and, plus, minus, times, Compares, eq, ne, lt, le, gt, ge, Part, row, negation, test, unit, under, BeginsNoNumber, Means, operand, joined, negated, tested, summed, compared, is_null, is_not_null, a_number, a_negative, a_text, a_null, a_column, of_table, group}
use Rattle.sql_front.specs.Expressions as e
use Rattle.sql_front.specs.Input.{Reader, and_then, pure, any_name, named, small_number, negative_number, numbered, text_value, texted, expect_if, after}
use Rattle.sql_front.specs.ReadExpr as r
use Rattle.sql_front.specs.Symbols.{Symbol, word, sign, name, number, text, Input, class_of, same_class, sees, behind}
use Rattle.sql_front.proofs.Classes.{same_class-false}

-- the reader of a part
abbrev pub reader_of : Part → ℕ → Reader Expr
reader_of (row l) n = r.chain l (r.operand l n) n
reader_of negation n = r.negation n
reader_of test n = r.test n
reader_of unit n = r.unit n

-- what comes next does not go on with the part
abbrev pub EndsUnit : Input → Type 0
EndsUnit i = sees (c.Sign s.Dot) i ≡ false

abbrev pub EndsProduct : Input → Type 0
EndsProduct i = (r.operator level.Product i ≡ None) × EndsUnit i

abbrev pub EndsSum : Input → Type 0
EndsSum i = (r.operator level.Sum i ≡ None) × EndsProduct i

abbrev pub EndsTest : Input → Type 0
EndsTest i = (r.comparison i ≡ None) × (sees (c.Reserved w.Is) i ≡ false) × EndsSum i

abbrev pub EndsAnd : Input → Type 0
EndsAnd i = (r.operator level.And i ≡ None) × EndsTest i

abbrev pub EndsOr : Input → Type 0
EndsOr i = (r.operator level.Or i ≡ None) × EndsAnd i

abbrev pub Ends : Part → Input → Type 0
Ends (row level.Or) i = EndsOr i
Ends (row level.And) i = EndsAnd i
Ends (row level.Sum) i = EndsSum i
Ends (row level.Product) i = EndsProduct i
Ends negation i = EndsTest i
Ends test i = EndsTest i
Ends unit i = EndsUnit i

-- an expression has a symbol
pub not_empty : {p : Part} {ts : Input} {x : Expr} → Means p ts x → 0 < length ts
not_empty (operand m) = not_empty m
not_empty (joined {a = a} {b = b} {t = t} j m n) = omega (arith, not_empty m, length-append a (t ∷ b))
not_empty (negated m) = omega arith
not_empty (tested m) = not_empty m
not_empty (summed m) = not_empty m
not_empty (compared {a = a} {b = b} {t = t} j m n) = omega (arith, not_empty m, length-append a (t ∷ b))
not_empty (is_null {a = a} m) = omega (arith, not_empty m, length-append a (word w.Is ∷ word w.Null ∷ []))
not_empty (is_not_null {a = a} m) = omega (arith, not_empty m, length-append a (word w.Is ∷ word w.Not ∷ word w.Null ∷ []))
not_empty (a_number h) = lit< tt
not_empty a_negative = lit< tt
not_empty a_text = lit< tt
not_empty a_null = lit< tt
not_empty a_column = lit< tt
not_empty of_table = lit< tt
not_empty (e.minus b m) = omega arith
not_empty (group m) = omega arith

-- NOT does not come first
abbrev NoNot : Input → Type 0
NoNot [] = ⊥
NoNot (x ∷ i) = sees (c.Reserved w.Not) (x ∷ []) ≡ false

NoNot-append : (a b : Input) → NoNot a → NoNot (a ++ b)
NoNot-append [] b h = absurd h
NoNot-append (x ∷ a) b h = h

-- what a part begins with
abbrev Starts : Part → Input → Type 0
Starts (row level.Or) i = Unit {0}
Starts (row level.And) i = Unit {0}
Starts (row level.Sum) i = NoNot i
Starts (row level.Product) i = NoNot i
Starts negation i = Unit {0}
Starts test i = NoNot i
Starts unit i = NoNot i

starts : {p : Part} {ts : Input} {x : Expr} → Means p ts x → Starts p ts
unfolding sees same_class
starts (operand {l = level.Or} m) = tt
starts (operand {l = level.And} m) = tt
starts (operand {l = level.Sum} m) = starts m
starts (operand {l = level.Product} m) = starts m
starts (joined {l = level.Or} j m n) = tt
starts (joined {l = level.And} j m n) = tt
starts (joined {l = level.Sum} {a = a} {b = b} {t = t} j m n) = NoNot-append a (t ∷ b) (starts m)
starts (joined {l = level.Product} {a = a} {b = b} {t = t} j m n) = NoNot-append a (t ∷ b) (starts m)
starts (negated m) = tt
starts (tested m) = tt
starts (summed m) = starts m
starts (compared {a = a} {b = b} {t = t} j m n) = NoNot-append a (t ∷ b) (starts m)
starts (is_null {a = a} m) = NoNot-append a _ (starts m)
starts (is_not_null {a = a} m) = NoNot-append a _ (starts m)
starts (a_number h) = refl
starts a_negative = refl
starts a_text = refl
starts a_null = refl
starts a_column = refl
starts of_table = refl
starts (e.minus b m) = refl
starts (group m) = refl

sees_no_not : (ts q : Input) → NoNot ts → sees (c.Reserved w.Not) (ts ++ q) ≡ false
unfolding sees
sees_no_not [] q h = absurd h
sees_no_not (x ∷ ts) q h = h

sees_no_number : (ts q : Input) → 0 < length ts → BeginsNoNumber ts → sees c.Number (ts ++ q) ≡ false
unfolding sees same_class
sees_no_number [] q h b = absurd (omega arith)
sees_no_number (number n ∷ ts) q h b = absurd b
sees_no_number (word x ∷ ts) q h b = same_class-false c.Number (c.Reserved x) (λ d. cc)
sees_no_number (sign x ∷ ts) q h b = same_class-false c.Number (c.Sign x) (λ d. cc)
sees_no_number (name x ∷ ts) q h b = refl
sees_no_number (text x ∷ ts) q h b = refl

-- ---- operators

joins_operator : {l : Level} {t : Symbol} {o : Op} → Joins l t o → (q : Input) → r.operator l (t ∷ q) ≡ Some o
unfolding r.operator sees same_class
joins_operator or q = refl
joins_operator and q = refl
joins_operator plus q = refl
joins_operator minus q = refl
joins_operator times q = refl

joins_ends : {l : Level} {t : Symbol} {o : Op} → Joins l t o → (q : Input) → Ends (under l) (t ∷ q)
unfolding r.operator r.comparison sees same_class
joins_ends or q = (refl, (refl, refl, (refl, (refl, refl))))
joins_ends and q = (refl, refl, (refl, (refl, refl)))
joins_ends plus q = (refl, refl)
joins_ends minus q = (refl, refl)
joins_ends times q = refl

compares_comparison : {t : Symbol} {o : Op} → Compares t o → (q : Input) → r.comparison (t ∷ q) ≡ Some o
unfolding r.comparison sees same_class
compares_comparison eq q = refl
compares_comparison ne q = refl
compares_comparison lt q = refl
compares_comparison le q = refl
compares_comparison gt q = refl
compares_comparison ge q = refl

compares_ends : {t : Symbol} {o : Op} → Compares t o → (q : Input) → EndsSum (t ∷ q)
unfolding r.operator sees same_class
compares_ends eq q = (refl, (refl, refl))
compares_ends ne q = (refl, (refl, refl))
compares_ends lt q = (refl, (refl, refl))
compares_ends le q = (refl, (refl, refl))
compares_ends gt q = (refl, (refl, refl))
compares_ends ge q = (refl, (refl, refl))

is_ends : (q : Input) → EndsSum (word w.Is ∷ q)
unfolding r.operator sees same_class
is_ends q = (refl, (refl, refl))

close_ends : (q : Input) → EndsOr (sign s.Close ∷ q)
unfolding r.operator r.comparison sees same_class
close_ends q = (refl, (refl, (refl, refl, (refl, (refl, refl)))))

-- ---- readers of one symbol

leaf_number : (n : ℕ) (q : Input) → n < 2 ^ 63 → r.leaf (number n ∷ q) ≡ Ok (Lit (value.Int (pos n)), q)
unfolding r.leaf sees same_class small_number numbered
leaf_number n q h = ap (λ b. and_then (cond {A = Reader ℤ} b (λ j. Ok (pos n, behind j)) (λ j. Err j) (number n ∷ q)) (λ z. pure (Lit (value.Int z)))) (lt-ltb n 9223372036854775808 h)

leaf_text : (t : List ℕ) (q : Input) → r.leaf (text t ∷ q) ≡ Ok (Lit (value.Text t), q)
unfolding r.leaf sees same_class text_value texted
leaf_text t q = refl

leaf_null : (q : Input) → r.leaf (word w.Null ∷ q) ≡ Ok (Lit value.Null, q)
unfolding r.leaf sees same_class
leaf_null q = refl

column_alone : (n : List ℕ) (q : Input) → EndsUnit q → r.column (name n ∷ q) ≡ Ok ((None, n), q)
unfolding r.column any_name named after
column_alone n q h =
    ap (λ b. cond {A = Reader (Option (List ℕ) × List ℕ)} b (λ j. and_then (any_name j) (λ second. pure (Some n, second))) (pure (None, n)) (cond (sees (c.Sign s.Dot) q) (behind q) q)) h
    ∙ ap (λ b. Ok ((None, n), cond b (behind q) q)) h

pub column_dotted : (t n : List ℕ) (q : Input) → r.column (name t ∷ sign s.Dot ∷ name n ∷ q) ≡ Ok ((Some t, n), q)
unfolding r.column any_name named after sees same_class
column_dotted t n q = refl

leaf_column : (n : List ℕ) (q : Input) (x : Option (List ℕ) × List ℕ) (d : Input) → r.column (name n ∷ q) ≡ Ok (x, d) → r.leaf (name n ∷ q) ≡ Ok (Col x.0 x.1, d)
unfolding r.leaf sees same_class
leaf_column n q x d h = ap (λ o. and_then o (λ y. pure (Col y.0 y.1))) h

-- ---- units

unit_leaf : (x : Symbol) (n : ℕ) (q : Input) → sees (c.Sign s.Minus) (x ∷ q) ≡ false → sees (c.Sign s.Open) (x ∷ q) ≡ false → r.unit (suc n) (x ∷ q) ≡ r.leaf (x ∷ q)
unfolding r.unit r.unit_of
unit_leaf x n q h g =
    ap (λ b. cond b (r.minus_of (r.unit n) q) (cond (sees (c.Sign s.Open) (x ∷ q)) (r.group_of (r.whole n) q) (r.leaf (x ∷ q)))) h
    ∙ ap (λ b. cond b (r.group_of (r.whole n) q) (r.leaf (x ∷ q))) g

not_minus : (x : Symbol) (q : Input) → (c.Sign s.Minus ≡ class_of x → ⊥) → sees (c.Sign s.Minus) (x ∷ q) ≡ false
unfolding sees
not_minus x q h = same_class-false (c.Sign s.Minus) (class_of x) h

not_open : (x : Symbol) (q : Input) → (c.Sign s.Open ≡ class_of x → ⊥) → sees (c.Sign s.Open) (x ∷ q) ≡ false
unfolding sees
not_open x q h = same_class-false (c.Sign s.Open) (class_of x) h

unit_negative : (n m : ℕ) (q : Input) → r.unit (suc m) (sign s.Minus ∷ number n ∷ q) ≡ Ok (Lit (value.Int (neg_ℤ (pos n))), q)
unfolding r.unit r.unit_of r.minus_of sees same_class negative_number numbered
unit_negative n m q = refl

unit_minus : (m : ℕ) (q : Input) (x : Expr) (d : Input) → sees c.Number q ≡ false → r.unit m q ≡ Ok (x, d) → r.unit (suc m) (sign s.Minus ∷ q) ≡ Ok (Neg x, d)
unfolding r.unit r.unit_of r.minus_of sees same_class
unit_minus m q x d h g =
    ap (λ b. cond b (and_then (negative_number q) (λ n. pure (Lit (value.Int n)))) (and_then (r.unit m q) (λ y. pure (Neg y)))) h
    ∙ ap (λ o. and_then o (λ y. pure (Neg y))) g

unit_group : (m : ℕ) (q : Input) (x : Expr) (d : Input) → r.whole m q ≡ Ok (x, sign s.Close ∷ d) → r.unit (suc m) (sign s.Open ∷ q) ≡ Ok (x, d)
unfolding r.unit r.unit_of r.group_of sees same_class expect_if
unit_group m q x d h = ap (λ o. and_then o (λ y j. and_then (expect_if true (c.Sign s.Close) j) (λ _. pure y))) h

pub whole-row : (m : ℕ) (q : Input) → 0 < m → r.whole m q ≡ reader_of (row level.Or) m q
unfolding r.unit
whole-row zero q h = absurd (omega arith)
whole-row (suc m) q h = refl

-- ---- tests and NOT

negation_not : (m : ℕ) (q : Input) (x : Expr) (d : Input) → r.negation m q ≡ Ok (x, d) → r.negation (suc m) (word w.Not ∷ q) ≡ Ok (Not x, d)
unfolding r.unit r.negation_of sees same_class
negation_not m q x d h = ap (λ o. and_then o (λ y. pure (Not y))) h

negation_test : (m : ℕ) (q : Input) → sees (c.Reserved w.Not) q ≡ false → r.negation (suc m) q ≡ r.test (suc m) q
unfolding r.unit r.negation_of
negation_test m q h = ap (λ b. cond b (and_then (r.negation m (behind q)) (λ y. pure (Not y))) (r.test (suc m) q)) h

module _ (n : ℕ) (q : Input) (x : Expr) where
  test_sum : (d : Input) → EndsTest d → reader_of (row level.Sum) n q ≡ Ok (x, d) → r.test n q ≡ Ok (x, d)
  unfolding r.test_of
  test_sum d ends h =
      ap (λ o. and_then o (λ left j. r.tested (r.comparison j) (reader_of (row level.Sum) n) left j)) h
      ∙ ap (λ o. r.tested o (reader_of (row level.Sum) n) x d) ends.0
      ∙ ap (λ b. cond b (r.null_test x (behind d)) (Ok (x, d))) ends.1

  test_compared : (t : Symbol) (o : Op) (b : Input) (y : Expr) (d : Input) → Compares t o → reader_of (row level.Sum) n q ≡ Ok (x, t ∷ b)
      → reader_of (row level.Sum) n b ≡ Ok (y, d) → r.test n q ≡ Ok (Two o x y, d)
  unfolding r.test_of
  test_compared t o b y d compares h g =
      ap (λ z. and_then z (λ left j. r.tested (r.comparison j) (reader_of (row level.Sum) n) left j)) h
      ∙ ap (λ z. r.tested z (reader_of (row level.Sum) n) x (t ∷ b)) (compares_comparison compares b)
      ∙ ap (λ z. and_then z (λ right. pure (Two o x right))) g

  test_null : (d : Input) → reader_of (row level.Sum) n q ≡ Ok (x, word w.Is ∷ word w.Null ∷ d) → r.test n q ≡ Ok (IsNull x false, d)
  unfolding r.test_of r.comparison r.null_test sees same_class after expect_if
  test_null d h = ap (λ z. and_then z (λ left j. r.tested (r.comparison j) (reader_of (row level.Sum) n) left j)) h

  test_not_null : (d : Input) → reader_of (row level.Sum) n q ≡ Ok (x, word w.Is ∷ word w.Not ∷ word w.Null ∷ d) → r.test n q ≡ Ok (IsNull x true, d)
  unfolding r.test_of r.comparison r.null_test sees same_class after expect_if
  test_not_null d h = ap (λ z. and_then z (λ left j. r.tested (r.comparison j) (reader_of (row level.Sum) n) left j)) h

-- ---- rows

operand-under : (l : Level) (n : ℕ) (q : Input) → r.operand l n q ≡ reader_of (under l) n q
operand-under level.Or n q = refl
operand-under level.And n q = refl
operand-under level.Sum n q = refl
operand-under level.Product n q = refl

chain_stops : (l : Level) (P : Reader Expr) (k : ℕ) (x : Expr) (d : Input) → r.operator l d ≡ None → r.chain_from l P k x d ≡ Ok (x, d)
unfolding r.chain_from
chain_stops l P zero x d h = refl
chain_stops l P (suc k) x d h = ap (λ o. r.further o (λ o j. and_then (P j) (λ right. r.chain_from l P k (Two o x right))) x d) h

chain_goes : (l : Level) (P : Reader Expr) (k : ℕ) (x y : Expr) (t : Symbol) (o : Op) (b d : Input) → Joins l t o → P b ≡ Ok (y, d)
    → r.chain_from l P (suc k) x (t ∷ b) ≡ r.chain_from l P k (Two o x y) d
unfolding r.chain_from
chain_goes l P k x y t o b d joins h =
    ap (λ z. r.further z (λ o j. and_then (P j) (λ right. r.chain_from l P k (Two o x right))) x (t ∷ b)) (joins_operator joins b)
    ∙ ap (λ z. and_then z (λ right. r.chain_from l P k (Two o x right))) h

-- a row is read up to here, with so many turns left
record Read (l : Level) (n : ℕ) (ts : Input) (x : Expr) (d : Input) : Type 0 where
  left : ℕ
  enough : n ≤ left + length ts
  reads : r.chain l (r.operand l n) n (ts ++ d) ≡ r.chain_from l (r.operand l n) left x d

read_first : (l : Level) (n : ℕ) (ts : Input) (x : Expr) (d : Input) → r.operand l n (ts ++ d) ≡ Ok (x, d) → Read l n ts x d
unfolding r.chain
read_first l n ts x d h = record { left = n; enough = omega arith; reads = ap (λ o. and_then o (r.chain_from l (r.operand l n) n)) h }

read_more : (l : Level) (n : ℕ) (a b : Input) (t : Symbol) (o : Op) (x y : Expr) (d : Input) → length (a ++ t ∷ b) ≤ n → Joins l t o
    → Read l n a x (t ∷ (b ++ d)) → r.operand l n (b ++ d) ≡ Ok (y, d) → Read l n (a ++ t ∷ b) (Two o x y) d
read_more l n a b t o x y d fits joins f h = go f.left f.enough f.reads where
  go : (k : ℕ) → n ≤ k + length a → r.chain l (r.operand l n) n (a ++ (t ∷ (b ++ d))) ≡ r.chain_from l (r.operand l n) k x (t ∷ (b ++ d)) → Read l n (a ++ t ∷ b) (Two o x y) d
  go zero enough reads = absurd (omega (arith, length-append a (t ∷ b)))
  go (suc k) enough reads = record {
    left = k;
    enough = omega (arith, length-append a (t ∷ b));
    reads = ap (r.chain l (r.operand l n) n) (append_assoc a (t ∷ b) d) ∙ reads ∙ chain_goes l (r.operand l n) k x y t o (b ++ d) d joins h;
  }

row_done : (l : Level) (n : ℕ) (ts : Input) (x : Expr) (d : Input) → r.operator l d ≡ None → Read l n ts x d → reader_of (row l) n (ts ++ d) ≡ Ok (x, d)
row_done l n ts x d h f = f.reads ∙ chain_stops l (r.operand l n) f.left x d h

row_operator : (l : Level) (d : Input) → Ends (row l) d → r.operator l d ≡ None
row_operator level.Or d h = h.0
row_operator level.And d h = h.0
row_operator level.Sum d h = h.0
row_operator level.Product d h = h.0

row_under : (l : Level) (d : Input) → Ends (row l) d → Ends (under l) d
row_under level.Or d h = h.1
row_under level.And d h = h.1
row_under level.Sum d h = h.1
row_under level.Product d h = h.1

-- what is in the grammar is read, where enough turns are there and nothing behind it goes on with it
mutual
  pub complete : {p : Part} {ts : Input} {x : Expr} → Means p ts x → (n : ℕ) → length ts ≤ n → (d : Input) → Ends p d → reader_of p n (ts ++ d) ≡ Ok (x, d)
  complete (operand {l = l} {a = ts} {x = x} m) n fits d ends = row_done l n ts x d (row_operator l d ends) (read_first l n ts x d (operand-under l n (ts ++ d) ∙ complete m n fits d (row_under l d ends)))
  complete (joined {l = l} {o = o} {a = a} {b = b} {t = t} {x = x} {y = y} j m k) n fits d ends =
      row_done l n (a ++ t ∷ b) (Two o x y) d (row_operator l d ends)
      (read_more l n a b t o x y d fits j
      (row_read m n (omega (arith, length-append a (t ∷ b))) (t ∷ (b ++ d)) (joins_ends j (b ++ d)))
      (operand-under l n (b ++ d) ∙ complete k n (omega (arith, length-append a (t ∷ b))) d (row_under l d ends)))
  complete (negated m) zero fits d ends = absurd (omega arith)
  complete (negated {a = a} {x = x} m) (suc n) fits d ends = negation_not n (a ++ d) x d (complete m n (omega arith) d ends)
  complete (tested m) zero fits d ends = absurd (omega (arith, not_empty m))
  complete (tested {a = a} {x = x} m) (suc n) fits d ends = negation_test n (a ++ d) (sees_no_not a d (starts m)) ∙ complete m (suc n) fits d ends
  complete (summed {a = a} {x = x} m) n fits d ends = test_sum n (a ++ d) x d ends (complete m n fits d ends.2)
  complete (compared {o = o} {a = a} {b = b} {t = t} {x = x} {y = y} j m k) n fits d ends =
      ap (r.test n) (append_assoc a (t ∷ b) d)
      ∙ test_compared n (a ++ (t ∷ (b ++ d))) x t o (b ++ d) y d j (complete m n (omega (arith, length-append a (t ∷ b))) (t ∷ (b ++ d)) (compares_ends j (b ++ d)))
      (complete k n (omega (arith, length-append a (t ∷ b))) d ends.2)
  complete (is_null {a = a} {x = x} m) n fits d ends =
      let tail : Input = word w.Is ∷ word w.Null ∷ [] in
      ap (r.test n) (append_assoc a tail d)
      ∙ test_null n (a ++ (word w.Is ∷ word w.Null ∷ d)) x d (complete m n (omega (arith, length-append a tail)) (word w.Is ∷ word w.Null ∷ d) (is_ends (word w.Null ∷ d)))
  complete (is_not_null {a = a} {x = x} m) n fits d ends =
      let tail : Input = word w.Is ∷ word w.Not ∷ word w.Null ∷ [] in
      ap (r.test n) (append_assoc a tail d)
      ∙ test_not_null n (a ++ (word w.Is ∷ word w.Not ∷ word w.Null ∷ d)) x d (complete m n (omega (arith, length-append a tail)) (word w.Is ∷ word w.Not ∷ word w.Null ∷ d) (is_ends (word w.Not ∷ word w.Null ∷ d)))
  complete (a_number h) zero fits d ends = absurd (omega arith)
  complete (a_number {n = k} h) (suc n) fits d ends = unit_leaf (number k) n d (not_minus (number k) d (λ q. cc)) (not_open (number k) d (λ q. cc)) ∙ leaf_number k d h
  complete a_negative zero fits d ends = absurd (omega arith)
  complete (a_negative {n = k}) (suc n) fits d ends = unit_negative k n d
  complete a_text zero fits d ends = absurd (omega arith)
  complete (a_text {t = t}) (suc n) fits d ends = unit_leaf (text t) n d (not_minus (text t) d (λ q. cc)) (not_open (text t) d (λ q. cc)) ∙ leaf_text t d
  complete a_null zero fits d ends = absurd (omega arith)
  complete a_null (suc n) fits d ends = unit_leaf (word w.Null) n d (not_minus (word w.Null) d (λ q. cc)) (not_open (word w.Null) d (λ q. cc)) ∙ leaf_null d
  complete a_column zero fits d ends = absurd (omega arith)
  complete (a_column {c = k}) (suc n) fits d ends =
      unit_leaf (name k) n d (not_minus (name k) d (λ q. cc)) (not_open (name k) d (λ q. cc)) ∙ leaf_column k d (None, k) d (column_alone k d ends)
  complete of_table zero fits d ends = absurd (omega arith)
  complete (of_table {t = t} {c = k}) (suc n) fits d ends =
      unit_leaf (name t) n (sign s.Dot ∷ name k ∷ d) (not_minus (name t) _ (λ q. cc)) (not_open (name t) _ (λ q. cc))
      ∙ leaf_column t (sign s.Dot ∷ name k ∷ d) (Some t, k) d (column_dotted t k d)
  complete (e.minus b m) zero fits d ends = absurd (omega arith)
  complete (e.minus {a = a} {x = x} b m) (suc n) fits d ends = unit_minus n (a ++ d) x d (sees_no_number a d (not_empty m) b) (complete m n (omega arith) d ends)
  complete (group m) zero fits d ends = absurd (omega arith)
  complete (group {a = a} {x = x} m) (suc n) fits d ends =
      let room : length a + 1 ≤ n = omega (arith, length-append a (sign s.Close ∷ [])) in
      ap (λ q. r.unit (suc n) (sign s.Open ∷ q)) (append_assoc a (sign s.Close ∷ []) d)
      ∙ unit_group n (a ++ (sign s.Close ∷ d)) x d (whole-row n (a ++ (sign s.Close ∷ d)) (omega arith) ∙ complete m n (omega arith) (sign s.Close ∷ d) (close_ends d))

  row_read : {l : Level} {ts : Input} {x : Expr} → Means (row l) ts x → (n : ℕ) → length ts ≤ n → (d : Input) → Ends (under l) d → Read l n ts x d
  row_read (operand {l = l} {a = ts} {x = x} m) n fits d ends = read_first l n ts x d (operand-under l n (ts ++ d) ∙ complete m n fits d ends)
  row_read (joined {l = l} {o = o} {a = a} {b = b} {t = t} {x = x} {y = y} j m k) n fits d ends =
      read_more l n a b t o x y d fits j
      (row_read m n (omega (arith, length-append a (t ∷ b))) (t ∷ (b ++ d)) (joins_ends j (b ++ d)))
      (operand-under l n (b ++ d) ∙ complete k n (omega (arith, length-append a (t ∷ b))) d ends)
