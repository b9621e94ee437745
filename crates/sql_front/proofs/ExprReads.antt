-- The readers of expressions follow the grammar of expressions.
use Rattle.std.proofs.Common.{◌≡◌, ℕ, zero, suc, ◌-◌, Bool, true, false, cond, List, [], ◌∷◌, ◌++◌, length, Option, Some, None, Ok, refl, sym, ◌∙◌, ap, subst, append_assoc, append-nil}
use Rattle.std.specs.Prelude.{pos, neg_ℤ}
use Rattle.sql_values.specs.declared.values.Value.TheVariants as value
use Rattle.sql_words.specs.declared.reserved.Word.{Word}
use Rattle.sql_words.specs.declared.reserved.Word.TheVariants as w
use Rattle.sql_words.specs.declared.signs.Sign.{Sign}
use Rattle.sql_words.specs.declared.signs.Sign.TheVariants as s
use Rattle.sql_words.specs.declared.tokens.Class.TheVariants as c
use Rattle.sql_statements.specs.declared.expressions.Expr.{Expr}
use Rattle.sql_statements.specs.declared.expressions.Expr.TheVariants.{Lit, Col, Neg, Not, IsNull, Two}
use Rattle.sql_statements.specs.declared.expressions.Op.{Op}
use Rattle.sql_statements.specs.declared.expressions.Op.TheVariants as op
use Rattle.sql_front.specs.declared.levels.Level.{Level}
use Rattle.sql_front.specs.declared.levels.Level.TheVariants as level
use Rattle.sql_front.specs.Expressions.{Joins, or, and, plus, minus, times, Compares, eq, ne, lt, le, gt, ge, Part, row, negation, test, unit, under, BeginsNoNumber, Means, operand, joined, negated, tested, summed, compared, is_null, is_not_null, a_number, a_negative, a_column, of_table, group}
use Rattle.sql_front.specs.Expressions as e
use Rattle.sql_front.specs.Input.{Outcome, Reader, and_then, pure, any_name, small_number, negative_number, text_value, expect_if, after}
use Rattle.sql_front.specs.ReadExpr as r
use Rattle.sql_front.specs.Rules.{Rule, nothing, the_if, a_name, a_small_number, a_negative_number, a_text, Both}
use Rattle.sql_front.specs.Symbols.{Symbol, word, sign, name, number, text, Input, class_of, same_class, sees, behind}
use Rattle.sql_front.proofs.Exact.{SameHead, SameHead-sym, SameHead-append, sees_same, sees-true, Runs, gives, gives_up, Good, takes, stops, weaker, good_pure, runs_both, runs_first, good_both, good_by_class, either_runs, good_choice, good_eat, good_expect_if}
use Rattle.sql_front.proofs.SymbolFacts.{word_is, sign_is, good_any_name, good_small_number, good_negative_number, good_text}

-- the rule of a part of an expression
abbrev pub part : Part → Rule Expr
part p k ts x = Means p ts x

-- ---- operators

op_if : (t : Bool) (x o : Op) → cond t (Some x) None ≡ Some o → (t ≡ true) × (x ≡ o)
op_if true x o h = (refl, cc)
op_if false x o h = absurd cc

inside : {x y : Op} → Some x ≡ Some y → x ≡ y
inside h = cc

-- a symbol that joins comes next
pub record Joined (l : Level) (i : Input) (o : Op) : Type 0 where
  pub symbol : Symbol
  pub rest : Input
  pub whole : i ≡ symbol ∷ rest
  pub joins : Joins l symbol o

pub record Compared (i : Input) (o : Op) : Type 0 where
  pub symbol : Symbol
  pub rest : Input
  pub whole : i ≡ symbol ∷ rest
  pub compares : Compares symbol o

by_word : (x : Word) (l : Level) (i : Input) (o p : Op) → Joins l (word x) o → o ≡ p → sees (c.Reserved x) i ≡ true → Joined l i p
by_word x l i o p j e h =
    let f = sees-true (c.Reserved x) i h in
    record { symbol = word x; rest = f.1; whole = f.2 ∙ ap (λ q. q ∷ f.1) (word_is x f.0 f.3); joins = subst (λ q. Joins l (word x) q) e j }

by_sign : (x : Sign) (l : Level) (i : Input) (o p : Op) → Joins l (sign x) o → o ≡ p → sees (c.Sign x) i ≡ true → Joined l i p
by_sign x l i o p j e h =
    let f = sees-true (c.Sign x) i h in
    record { symbol = sign x; rest = f.1; whole = f.2 ∙ ap (λ q. q ∷ f.1) (sign_is x f.0 f.3); joins = subst (λ q. Joins l (sign x) q) e j }

-- the operator of the level that comes next is one that joins
pub operator-joins : (l : Level) (i : Input) (o : Op) → r.operator l i ≡ Some o → Joined l i o
unfolding r.operator
operator-joins level.Or i o h = let k = op_if (sees (c.Reserved w.Or) i) op.Or o h in by_word w.Or level.Or i op.Or o or k.1 k.0
operator-joins level.And i o h = let k = op_if (sees (c.Reserved w.And) i) op.And o h in by_word w.And level.And i op.And o and k.1 k.0
operator-joins level.Sum i o h = sums (sees (c.Sign s.Plus) i) refl h where
  sums : (b : Bool) → sees (c.Sign s.Plus) i ≡ b → cond b (Some op.Add) (cond (sees (c.Sign s.Minus) i) (Some op.Sub) None) ≡ Some o → Joined level.Sum i o
  sums true e g = by_sign s.Plus level.Sum i op.Add o plus (inside g) e
  sums false e g = let k = op_if (sees (c.Sign s.Minus) i) op.Sub o g in by_sign s.Minus level.Sum i op.Sub o minus k.1 k.0
operator-joins level.Product i o h = let k = op_if (sees (c.Sign s.Star) i) op.Mul o h in by_sign s.Star level.Product i op.Mul o times k.1 k.0

by_comparison : (x : Sign) (i : Input) (o p : Op) → Compares (sign x) o → o ≡ p → sees (c.Sign x) i ≡ true → Compared i p
by_comparison x i o p j e h =
    let f = sees-true (c.Sign x) i h in
    record { symbol = sign x; rest = f.1; whole = f.2 ∙ ap (λ q. q ∷ f.1) (sign_is x f.0 f.3); compares = subst (λ q. Compares (sign x) q) e j }

module _ (i : Input) (o : Op) where
  compared_by : (b1 b2 b3 b4 b5 b6 : Bool) → sees (c.Sign s.Eq) i ≡ b1 → sees (c.Sign s.Ne) i ≡ b2 → sees (c.Sign s.Lt) i ≡ b3
      → sees (c.Sign s.Le) i ≡ b4 → sees (c.Sign s.Gt) i ≡ b5 → sees (c.Sign s.Ge) i ≡ b6
      → cond b1 (Some op.Eq) (cond b2 (Some op.Ne) (cond b3 (Some op.Lt) (cond b4 (Some op.Le) (cond b5 (Some op.Gt) (cond b6 (Some op.Ge) None))))) ≡ Some o
      → Compared i o
  compared_by true b2 b3 b4 b5 b6 e1 e2 e3 e4 e5 e6 h = by_comparison s.Eq i op.Eq o eq (inside h) e1
  compared_by false true b3 b4 b5 b6 e1 e2 e3 e4 e5 e6 h = by_comparison s.Ne i op.Ne o ne (inside h) e2
  compared_by false false true b4 b5 b6 e1 e2 e3 e4 e5 e6 h = by_comparison s.Lt i op.Lt o lt (inside h) e3
  compared_by false false false true b5 b6 e1 e2 e3 e4 e5 e6 h = by_comparison s.Le i op.Le o le (inside h) e4
  compared_by false false false false true b6 e1 e2 e3 e4 e5 e6 h = by_comparison s.Gt i op.Gt o gt (inside h) e5
  compared_by false false false false false true e1 e2 e3 e4 e5 e6 h = by_comparison s.Ge i op.Ge o ge (inside h) e6
  compared_by false false false false false false e1 e2 e3 e4 e5 e6 h = absurd cc

-- the comparison that comes next compares
pub comparison-compares : (i : Input) (o : Op) → r.comparison i ≡ Some o → Compared i o
unfolding r.comparison
comparison-compares i o h =
    compared_by i o (sees (c.Sign s.Eq) i) (sees (c.Sign s.Ne) i) (sees (c.Sign s.Lt) i) (sees (c.Sign s.Le) i) (sees (c.Sign s.Gt) i) (sees (c.Sign s.Ge) i)
    refl refl refl refl refl refl h

pub comparison-same : (i j : Input) → SameHead i j → r.comparison i ≡ r.comparison j
unfolding r.comparison
comparison-same i j h =
    let chain : Bool → Bool → Bool → Bool → Bool → Bool → Option Op =
    λ b1 b2 b3 b4 b5 b6. cond b1 (Some op.Eq) (cond b2 (Some op.Ne) (cond b3 (Some op.Lt) (cond b4 (Some op.Le) (cond b5 (Some op.Gt) (cond b6 (Some op.Ge) None))))) in
    ap (λ b. chain b (sees (c.Sign s.Ne) i) (sees (c.Sign s.Lt) i) (sees (c.Sign s.Le) i) (sees (c.Sign s.Gt) i) (sees (c.Sign s.Ge) i)) (sees_same (c.Sign s.Eq) i j h)
    ∙ ap (λ b. chain (sees (c.Sign s.Eq) j) b (sees (c.Sign s.Lt) i) (sees (c.Sign s.Le) i) (sees (c.Sign s.Gt) i) (sees (c.Sign s.Ge) i)) (sees_same (c.Sign s.Ne) i j h)
    ∙ ap (λ b. chain (sees (c.Sign s.Eq) j) (sees (c.Sign s.Ne) j) b (sees (c.Sign s.Le) i) (sees (c.Sign s.Gt) i) (sees (c.Sign s.Ge) i)) (sees_same (c.Sign s.Lt) i j h)
    ∙ ap (λ b. chain (sees (c.Sign s.Eq) j) (sees (c.Sign s.Ne) j) (sees (c.Sign s.Lt) j) b (sees (c.Sign s.Gt) i) (sees (c.Sign s.Ge) i)) (sees_same (c.Sign s.Le) i j h)
    ∙ ap (λ b. chain (sees (c.Sign s.Eq) j) (sees (c.Sign s.Ne) j) (sees (c.Sign s.Lt) j) (sees (c.Sign s.Le) j) b (sees (c.Sign s.Ge) i)) (sees_same (c.Sign s.Gt) i j h)
    ∙ ap (λ b. chain (sees (c.Sign s.Eq) j) (sees (c.Sign s.Ne) j) (sees (c.Sign s.Lt) j) (sees (c.Sign s.Le) j) (sees (c.Sign s.Gt) j) b) (sees_same (c.Sign s.Ge) i j h)

pub operator-same : (l : Level) (i j : Input) → SameHead i j → r.operator l i ≡ r.operator l j
unfolding r.operator
operator-same level.Or i j h = ap (λ b. cond b (Some op.Or) None) (sees_same (c.Reserved w.Or) i j h)
operator-same level.And i j h = ap (λ b. cond b (Some op.And) None) (sees_same (c.Reserved w.And) i j h)
operator-same level.Sum i j h =
    ap (λ b. cond b (Some op.Add) (cond (sees (c.Sign s.Minus) i) (Some op.Sub) None)) (sees_same (c.Sign s.Plus) i j h)
    ∙ ap (λ b. cond (sees (c.Sign s.Plus) j) (Some op.Add) (cond b (Some op.Sub) None)) (sees_same (c.Sign s.Minus) i j h)
operator-same level.Product i j h = ap (λ b. cond b (Some op.Mul) None) (sees_same (c.Sign s.Star) i j h)

-- ---- rows of operands

-- the simplest expression begins each part
null_unit : Means unit (word w.Null ∷ []) (Lit value.Null)
null_unit = e.a_null

null_product : Means (row level.Product) (word w.Null ∷ []) (Lit value.Null)
null_product = operand null_unit

null_sum : Means (row level.Sum) (word w.Null ∷ []) (Lit value.Null)
null_sum = operand null_product

null_negation : Means negation (word w.Null ∷ []) (Lit value.Null)
null_negation = tested (summed null_sum)

null_and : Means (row level.And) (word w.Null ∷ []) (Lit value.Null)
null_and = operand null_negation

null_or : Means (row level.Or) (word w.Null ∷ []) (Lit value.Null)
null_or = operand null_and

null_under : (l : Level) → Means (under l) (word w.Null ∷ []) (Lit value.Null)
null_under level.Product = null_unit
null_under level.Sum = null_product
null_under level.And = null_negation
null_under level.Or = null_and

null_row : (l : Level) → Means (row l) (word w.Null ∷ []) (Lit value.Null)
null_row l = operand (null_under l)

-- what is read behind a row is more of the row
abbrev pub more_of : Level → Input → Rule Expr
more_of l a k ts x = Means (row l) (a ++ ts) x

module _ (l : Level) (P : Reader Expr) (good : (i : Input) → Good (part (under l)) P i) where
  -- an operator, and what is read behind it
  abbrev going : ℕ → Expr → Op → Reader Expr
  going n left o = λ j. and_then (P j) (λ right. r.chain_from l P n (Two o left right))

  abbrev next : ℕ → Expr → Reader Expr
  next n left = λ j. r.further (r.operator l j) (going n left) left j

  with_operator : (n : ℕ) (left : Expr) (o : Op) (t : Symbol) (i j d : Input) (out : Input → Outcome Expr) → i ≡ t ∷ j → r.operator l i ≡ Some o
      → Runs (going n left o) j out d → Runs (next n left) i out d
  with_operator n left o t i j d out e h u = record {
    taken = t ∷ u.taken;
    whole = e ∙ ap (λ q. t ∷ q) u.whole;
    again = λ q g.
        ap (λ x. r.further x (going n left) left (t ∷ u.taken ++ q)) (operator-same l (t ∷ u.taken ++ q) i (subst (λ b. SameHead (t ∷ u.taken ++ q) b) (sym e) refl) ∙ h)
        ∙ u.again q g;
  }

  no_operator : (n : ℕ) (left : Expr) (i : Input) → r.operator l i ≡ None → Runs (next n left) i (gives left) i
  no_operator n left i h = record {
    taken = [];
    whole = refl;
    again = λ q g. ap (λ o. r.further o (going n left) left q) (operator-same l q i (SameHead-sym i q g) ∙ h);
  }

  pub good_chain_from : (n : ℕ) (a : Input) (left : Expr) → Means (row l) a left → (i : Input) → Good (more_of l a) (r.chain_from l P n left) i
  unfolding r.chain_from with_operator no_operator runs_both runs_first
  good_chain_from zero a left m i = takes left i (record { taken = []; whole = refl; again = λ q g. refl }) (λ k. subst (λ q. Means (row l) q left) (sym (append-nil a)) m)
  good_chain_from (suc n) a left m i = by_operator (r.operator l i) refl (good_chain_from n) where
    by_operator : (o : Option Op) → r.operator l i ≡ o
        → ((a : Input) (left : Expr) → Means (row l) a left → (i : Input) → Good (more_of l a) (r.chain_from l P n left) i)
        → Good (more_of l a) (next n left) i
    by_operator None h more = takes left i (no_operator n left i h) (λ k. subst (λ q. Means (row l) q left) (sym (append-nil a)) m)
    by_operator (Some o) h more = by_symbol (operator-joins l i o h) where
      regroup : (t : Symbol) (b d : Input) → (a ++ t ∷ b) ++ d ≡ a ++ (t ∷ (b ++ d))
      regroup t b d = append_assoc a (t ∷ b) d

      by_second : (f : Joined l i o) (y : Expr) (z : Input) (u : Runs P f.rest (gives y) z) → Means (under l) u.taken y
          → Good (more_of l (a ++ f.symbol ∷ u.taken)) (r.chain_from l P n (Two o left y)) z → Good (more_of l a) (next n left) i
      by_second f y z u my (takes x d v mx) = takes x d
          (with_operator n left o f.symbol i f.rest d (gives x) f.whole h (runs_both P (λ right. r.chain_from l P n (Two o left right)) u v))
          (λ k. subst (λ q. Means (row l) q x) (regroup f.symbol u.taken v.taken) (mx k))
      by_second f y z u my (stops d v rest x mx) = stops d
          (with_operator n left o f.symbol i f.rest d gives_up f.whole h (runs_both P (λ right. r.chain_from l P n (Two o left right)) u v))
          rest x (subst (λ q. Means (row l) q x) (regroup f.symbol u.taken (v.taken ++ rest) ∙ ap (λ q. a ++ (f.symbol ∷ q)) (sym (append_assoc u.taken v.taken rest))) mx)

      by_operand : (f : Joined l i o) → Good (part (under l)) P f.rest → Good (more_of l a) (next n left) i
      by_operand f (takes y z u my) = by_second f y z u (my 0) (more (a ++ f.symbol ∷ u.taken) (Two o left y) (joined f.joins m (my 0)) z)
      by_operand f (stops z u rest y my) = stops z
          (with_operator n left o f.symbol i f.rest z gives_up f.whole h (runs_first P (λ right. r.chain_from l P n (Two o left right)) u))
          rest (Two o left y) (joined f.joins m my)

      by_symbol : Joined l i o → Good (more_of l a) (next n left) i
      by_symbol f = by_operand f (good f.rest)

  -- a row of operands
  pub good_chain : (n : ℕ) (i : Input) → Good (part (row l)) (r.chain l P n) i
  unfolding r.chain runs_both runs_first
  good_chain n i = by_operand (good i) where
    by_rest : (x : Expr) (z : Input) (u : Runs P i (gives x) z) → Good (more_of l u.taken) (r.chain_from l P n x) z → Good (part (row l)) (r.chain l P n) i
    by_rest x z u (takes y d v my) = takes y d (runs_both P (r.chain_from l P n) u v) my
    by_rest x z u (stops d v rest y my) = stops d (runs_both P (r.chain_from l P n) u v) rest y (subst (λ q. Means (row l) q y) (sym (append_assoc u.taken v.taken rest)) my)

    by_operand : Good (part (under l)) P i → Good (part (row l)) (r.chain l P n) i
    by_operand (takes x z u m) = by_rest x z u (good_chain_from n u.taken x (operand (m 0)) z)
    by_operand (stops z u rest x m) = stops z (runs_first P (r.chain_from l P n) u) rest x (operand m)

-- ---- leaves

abbrev col_rule : Rule (Option (List ℕ) × List ℕ)
col_rule k ts x = Means unit ts (Col x.0 x.1)

-- what stands behind the first name of a column
abbrev behind_name : List ℕ → Rule (Option (List ℕ) × List ℕ)
behind_name first k ts x = Means unit (name first ∷ ts) (Col x.0 x.1)

dotted_reader : List ℕ → Bool → Reader (Option (List ℕ) × List ℕ)
dotted_reader first dotted = cond dotted (λ j. and_then (any_name j) (λ second. pure (Some first, second))) (pure (None, first))

good_dotted : (first : List ℕ) (i : Input) → Good (behind_name first) (λ j. and_then (Ok (sees (c.Sign s.Dot) j, after (c.Sign s.Dot) j)) (dotted_reader first)) i
unfolding dotted_reader
good_dotted first = good_eat (c.Sign s.Dot) (Both a_name (λ second. nothing (Some first, second))) (nothing (None, first)) (behind_name first) (dotted_reader first)
    with_dot without
    (good_both a_name (λ second. nothing (Some first, second)) any_name (λ second. pure (Some first, second)) (λ x. ([], (Some first, x), (refl, refl))) good_any_name (λ x i. good_pure (Some first, x) i))
    (good_pure (None, first)) where
      with_dot : (t : Symbol) (k : ℕ) (ts : Input) (x : Option (List ℕ) × List ℕ) → class_of t ≡ c.Sign s.Dot
          → Both a_name (λ second. nothing (Some first, second)) (k - 1) ts x → behind_name first k (t ∷ ts) x
      with_dot t k ts x is_dot b =
          subst (λ q. Means unit (name first ∷ q ∷ ts) (Col x.0 x.1)) (sym (sign_is s.Dot t is_dot))
          (subst (λ q. Means unit (name first ∷ sign s.Dot ∷ q) (Col x.0 x.1)) (sym (b.whole ∙ ap (λ q. q ++ b.back) b.first ∙ ap (λ q. name b.value ∷ q) (b.second).0))
          (subst (λ (q : Option (List ℕ) × List ℕ). Means unit (name first ∷ sign s.Dot ∷ name b.value ∷ []) (Col q.0 q.1)) (b.second).1 of_table))

      without : (k : ℕ) (ts : Input) (x : Option (List ℕ) × List ℕ) → nothing (None, first) k ts x → behind_name first k ts x
      without k ts x h =
          subst (λ q. Means unit (name first ∷ q) (Col x.0 x.1)) (sym h.0) (subst (λ (q : Option (List ℕ) × List ℕ). Means unit (name first ∷ []) (Col q.0 q.1)) h.1 a_column)

pub good_column : (i : Input) → Good col_rule r.column i
unfolding r.column dotted_reader
good_column i = weaker from_both
    (good_both a_name behind_name any_name (λ first j. and_then (Ok (sees (c.Sign s.Dot) j, after (c.Sign s.Dot) j)) (dotted_reader first))
    (λ x. ([], (None, x), a_column)) good_any_name good_dotted i) where
      from_both : (k : ℕ) (ts : Input) (x : Option (List ℕ) × List ℕ) → Both a_name behind_name k ts x → col_rule k ts x
      from_both k ts x b = subst (λ q. Means unit q (Col x.0 x.1)) (sym (b.whole ∙ ap (λ q. q ++ b.back) b.first)) b.second

-- one rule and then its value made into an expression
abbrev made : {X : Type 0} → Rule X → (X → Expr) → Rule Expr
made R f = Both R (λ x. nothing (f x))

good_made : {X : Type 0} (R : Rule X) (P : Reader X) (f : X → Expr) → ((i : Input) → Good R P i) → (i : Input) → Good (made R f) (λ j. and_then (P j) (λ x. pure (f x))) i
good_made R P f good = good_both R (λ x. nothing (f x)) P (λ x. pure (f x)) (λ x. ([], f x, (refl, refl))) good (λ x i. good_pure (f x) i)

-- of a rule of one value, the value is the expression
unmade : {X : Type 0} (R : Rule X) (f : X → Expr) (p : Part) → ((k : ℕ) (ts : Input) (x : X) → R k ts x → Means p ts (f x)) → (k : ℕ) (ts : Input) (e : Expr) → made R f k ts e → Means p ts e
unmade R f p h k ts e b =
    subst (λ q. Means p q e) (sym (b.whole ∙ ap (λ q. b.front ++ q) (b.second).0 ∙ append-nil b.front))
    (subst (λ q. Means p b.front q) (b.second).1 (h k b.front b.value b.first))

pub good_leaf : (i : Input) → Good (part unit) r.leaf i
unfolding r.leaf
good_leaf =
    good_choice c.Number (part unit) (part unit) (part unit) _ _ (λ k ts x h. h) (λ k ts x h. h)
    (λ i. weaker (unmade a_small_number (λ n. Lit (value.Int n)) unit (λ k ts z h. subst (λ q. Means unit q (Lit (value.Int z))) (sym h.1)
    (subst (λ q. Means unit (number h.0 ∷ []) (Lit (value.Int q))) (sym h.3) (a_number h.2)))) (good_made a_small_number small_number (λ n. Lit (value.Int n)) good_small_number i))
    (good_choice c.Text (part unit) (part unit) (part unit) _ _ (λ k ts x h. h) (λ k ts x h. h)
    (λ i. weaker (unmade a_text (λ t. Lit (value.Text t)) unit (λ k ts t h. subst (λ q. Means unit q (Lit (value.Text t))) (sym h) e.a_text)) (good_made a_text text_value (λ t. Lit (value.Text t)) good_text i))
    (good_by_class (c.Reserved w.Null) (nothing (Lit value.Null)) (part unit) (part unit) (pure (Lit value.Null)) _
    (λ t k ts x is_null h. subst (λ q. Means unit (q ∷ ts) x) (sym (word_is w.Null t is_null)) (subst (λ q. Means unit (word w.Null ∷ q) x) (sym h.0) (subst (λ q. Means unit (word w.Null ∷ []) q) h.1 null_unit)))
    (λ k ts x h. h)
    (good_pure (Lit value.Null))
    (λ i. weaker (unmade col_rule (λ x. Col x.0 x.1) unit (λ k ts x h. h)) (good_made col_rule r.column (λ x. Col x.0 x.1) good_column i))))

-- ---- tests

-- what is read behind a sum makes a test of it
abbrev test_behind : Input → Rule Expr
test_behind a k ts x = Means test (a ++ ts) x

null_rule : Expr → Bool → Rule Expr
null_rule left is_not = Both (the_if true (word w.Null)) (λ _. nothing (IsNull left is_not))

good_null_rule : (left : Expr) (is_not : Bool) (i : Input) → Good (null_rule left is_not) (λ j. and_then (expect_if true (c.Reserved w.Null) j) (λ _. pure (IsNull left is_not))) i
unfolding null_rule
good_null_rule left is_not =
    good_both (the_if true (word w.Null)) (λ _. nothing (IsNull left is_not)) (expect_if true (c.Reserved w.Null)) (λ _. pure (IsNull left is_not))
    (λ _. ([], IsNull left is_not, (refl, refl))) (good_expect_if true (c.Reserved w.Null) (word w.Null) (word_is w.Null) refl) (λ _ i. good_pure (IsNull left is_not) i)

null_rule-is : (left : Expr) (is_not : Bool) (k : ℕ) (ts : Input) (x : Expr) → null_rule left is_not k ts x → (ts ≡ word w.Null ∷ []) × (IsNull left is_not ≡ x)
unfolding null_rule
null_rule-is left is_not k ts x b = (b.whole ∙ ap (λ q. q ++ b.back) (b.first).0 ∙ ap (λ q. word w.Null ∷ q) (b.second).0, (b.second).1)

module _ (a : Input) (left : Expr) (m : Means (row level.Sum) a left) where
  -- behind IS
  abbrev is_rule : Rule Expr
  is_rule k ts x = Means test (a ++ word w.Is ∷ ts) x

  good_null_test : (i : Input) → Good is_rule (r.null_test left) i
  unfolding r.null_test
  good_null_test = good_eat (c.Reserved w.Not) (null_rule left true) (null_rule left false) is_rule (λ is_not j. and_then (expect_if true (c.Reserved w.Null) j) (λ _. pure (IsNull left is_not)))
      (λ t k ts x is_word h. let e = null_rule-is left true (k - 1) ts x h in
      subst (λ q. Means test (a ++ word w.Is ∷ q ∷ ts) x) (sym (word_is w.Not t is_word))
      (subst (λ q. Means test (a ++ word w.Is ∷ word w.Not ∷ q) x) (sym e.0) (subst (λ q. Means test (a ++ word w.Is ∷ word w.Not ∷ word w.Null ∷ []) q) e.1 (is_not_null m))))
      (λ k ts x h. let e = null_rule-is left false k ts x h in
      subst (λ q. Means test (a ++ word w.Is ∷ q) x) (sym e.0) (subst (λ q. Means test (a ++ word w.Is ∷ word w.Null ∷ []) q) e.1 (is_null m)))
      (good_null_rule left true) (good_null_rule left false)

  -- no comparison
  good_untested : (i : Input) → Good (test_behind a) (λ j. cond (sees (c.Reserved w.Is) j) (r.null_test left (behind j)) (Ok (left, j))) i
  good_untested = good_by_class (c.Reserved w.Is) is_rule (nothing left) (test_behind a) (r.null_test left) (pure left)
      (λ t k ts x is_word h. subst (λ q. Means test (a ++ q ∷ ts) x) (sym (word_is w.Is t is_word)) h)
      (λ k ts x h. subst (λ q. Means test (a ++ q) x) (sym h.0) (subst (λ q. Means test q x) (sym (append-nil a)) (subst (λ q. Means test a q) h.1 (summed m))))
      good_null_test (good_pure left)

  module _ (P : Reader Expr) (good : (i : Input) → Good (part (row level.Sum)) P i) where
    abbrev tester : Reader Expr
    tester = λ j. r.tested (r.comparison j) P left j

    abbrev compare_with : Op → Reader Expr
    compare_with o = λ j. and_then (P j) (λ right. pure (Two o left right))

    with_comparison : (o : Op) (t : Symbol) (i j d : Input) (out : Input → Outcome Expr) → i ≡ t ∷ j → r.comparison i ≡ Some o
        → Runs (compare_with o) j out d → Runs tester i out d
    with_comparison o t i j d out e h u = record {
      taken = t ∷ u.taken;
      whole = e ∙ ap (λ q. t ∷ q) u.whole;
      again = λ q g.
          ap (λ x. r.tested x P left (t ∷ u.taken ++ q)) (comparison-same (t ∷ u.taken ++ q) i (subst (λ b. SameHead (t ∷ u.taken ++ q) b) (sym e) refl) ∙ h)
          ∙ u.again q g;
    }

    no_comparison : (i d : Input) (out : Input → Outcome Expr) → r.comparison i ≡ None
        → Runs (λ j. cond (sees (c.Reserved w.Is) j) (r.null_test left (behind j)) (Ok (left, j))) i out d → Runs tester i out d
    no_comparison i d out h u = record {
      taken = u.taken;
      whole = u.whole;
      again = λ q g.
          ap (λ x. r.tested x P left (u.taken ++ q))
          (comparison-same (u.taken ++ q) (u.taken ++ d) (SameHead-append u.taken q d (SameHead-sym d q g)) ∙ ap r.comparison (sym u.whole) ∙ h)
          ∙ u.again q g;
    }

    good_tester : (i : Input) → Good (test_behind a) tester i
    unfolding with_comparison no_comparison runs_both runs_first
    good_tester i = by_comparison_of (r.comparison i) refl where
      from_untested : r.comparison i ≡ None → Good (test_behind a) (λ j. cond (sees (c.Reserved w.Is) j) (r.null_test left (behind j)) (Ok (left, j))) i → Good (test_behind a) tester i
      from_untested h (takes x d u g) = takes x d (no_comparison i d (gives x) h u) g
      from_untested h (stops d u more x g) = stops d (no_comparison i d gives_up h u) more x g

      by_right : (o : Op) → r.comparison i ≡ Some o → (f : Compared i o) → Good (part (row level.Sum)) P f.rest → Good (test_behind a) tester i
      by_right o h f (takes y z u my) = takes (Two o left y) z
          (with_comparison o f.symbol i f.rest z (gives (Two o left y)) f.whole h
          (runs_both P (λ right. pure (Two o left right)) u (record { taken = []; whole = refl; again = λ q g. refl })))
          (λ k. subst (λ q. Means test (a ++ f.symbol ∷ q) (Two o left y)) (sym (append-nil u.taken)) (compared f.compares m (my 0)))
      by_right o h f (stops z u more y my) = stops z
          (with_comparison o f.symbol i f.rest z gives_up f.whole h (runs_first P (λ right. pure (Two o left right)) u))
          more (Two o left y) (compared f.compares m my)

      by_comparison_of : (o : Option Op) → r.comparison i ≡ o → Good (test_behind a) tester i
      by_comparison_of None h = from_untested h (good_untested i)
      by_comparison_of (Some o) h = let f = comparison-compares i o h in by_right o h f (good f.rest)

-- a test
pub good_test_of : (P : Reader Expr) → ((i : Input) → Good (part (row level.Sum)) P i) → (i : Input) → Good (part test) (r.test_of P) i
unfolding r.test_of runs_both runs_first
good_test_of P good i = by_sum (good i) where
  by_rest : (x : Expr) (z : Input) (u : Runs P i (gives x) z) → Good (test_behind u.taken) (λ j. r.tested (r.comparison j) P x j) z → Good (part test) (r.test_of P) i
  by_rest x z u (takes y d v my) = takes y d (runs_both P (λ left j. r.tested (r.comparison j) P left j) u v) my
  by_rest x z u (stops d v more y my) = stops d (runs_both P (λ left j. r.tested (r.comparison j) P left j) u v) more y (subst (λ q. Means test q y) (sym (append_assoc u.taken v.taken more)) my)

  by_sum : Good (part (row level.Sum)) P i → Good (part test) (r.test_of P) i
  by_sum (takes x z u m) = by_rest x z u (good_tester u.taken x (m 0) P good z)
  by_sum (stops z u more x m) = stops z (runs_first P (λ left j. r.tested (r.comparison j) P left j) u) more x (summed m)

-- ---- NOT, minus and brackets

pub good_negation_of : (P Q : Reader Expr) → ((i : Input) → Good (part negation) P i) → ((i : Input) → Good (part test) Q i) → (i : Input) → Good (part negation) (r.negation_of P Q) i
unfolding r.negation_of
good_negation_of P Q first second =
    good_by_class (c.Reserved w.Not) (made (part negation) Not) (part test) (part negation) (λ j. and_then (P j) (λ e. pure (Not e))) Q
    (λ t k ts x is_word b.
    subst (λ q. Means negation (q ∷ ts) x) (sym (word_is w.Not t is_word))
    (subst (λ q. Means negation (word w.Not ∷ q) x) (sym (b.whole ∙ ap (λ q. b.front ++ q) (b.second).0 ∙ append-nil b.front))
    (subst (λ q. Means negation (word w.Not ∷ b.front) q) (b.second).1 (negated b.first))))
    (λ k ts x h. tested h)
    (good_made (part negation) P Not first) second

-- what stands behind a minus
abbrev minus_rule : Rule Expr
minus_rule k ts x = Means unit (sign s.Minus ∷ ts) x

begins_no_number : (i : Input) → sees c.Number i ≡ false → BeginsNoNumber i
unfolding sees same_class
begins_no_number [] h = tt
begins_no_number (number n ∷ i) h = absurd cc
begins_no_number (word x ∷ i) h = tt
begins_no_number (sign x ∷ i) h = tt
begins_no_number (name x ∷ i) h = tt
begins_no_number (text x ∷ i) h = tt

front_no_number : (t r : Input) → BeginsNoNumber (t ++ r) → BeginsNoNumber t
front_no_number [] r h = tt
front_no_number (number n ∷ t) r h = h
front_no_number (word x ∷ t) r h = tt
front_no_number (sign x ∷ t) r h = tt
front_no_number (name x ∷ t) r h = tt
front_no_number (text x ∷ t) r h = tt

-- whatever a unit is, a minus may stand before it
minus_before : (ts : Input) (x : Expr) → Means unit ts x → (y : Expr) × Means unit (sign s.Minus ∷ ts) y
minus_before [] x h = (Neg x, e.minus tt h)
minus_before (number n ∷ []) x h = (Lit (value.Int (neg_ℤ (pos n))), a_negative)
minus_before (number n ∷ t ∷ ts) x h = elim h [ ]
minus_before (word w ∷ ts) x h = (Neg x, e.minus tt h)
minus_before (sign g ∷ ts) x h = (Neg x, e.minus tt h)
minus_before (name n ∷ ts) x h = (Neg x, e.minus tt h)
minus_before (text t ∷ ts) x h = (Neg x, e.minus tt h)

pub good_minus_of : (P : Reader Expr) → ((i : Input) → Good (part unit) P i) → (i : Input) → Good minus_rule (r.minus_of P) i
unfolding r.minus_of either_runs runs_both runs_first
good_minus_of P good i = by_test (sees c.Number i) refl where
  literal : Reader Expr
  literal = λ j. and_then (negative_number j) (λ n. pure (Lit (value.Int n)))

  other : Reader Expr
  other = λ j. and_then (P j) (λ e. pure (Neg e))

  literal_is : (k : ℕ) (ts : Input) (x : Expr) → made a_negative_number (λ n. Lit (value.Int n)) k ts x → minus_rule k ts x
  literal_is k ts x b =
      let f = b.first in
      subst (λ q. Means unit (sign s.Minus ∷ q) x) (sym (b.whole ∙ ap (λ q. q ++ b.back) f.1 ∙ ap (λ q. number f.0 ∷ q) (b.second).0))
      (subst (λ q. Means unit (sign s.Minus ∷ number f.0 ∷ []) q) (ap (λ z. Lit (value.Int z)) (sym f.2) ∙ (b.second).1) a_negative)

  by_literal : sees c.Number i ≡ true → Good (made a_negative_number (λ n. Lit (value.Int n))) literal i → Good minus_rule (r.minus_of P) i
  by_literal t (takes x d u h) = takes x d (either_runs c.Number literal other true t u) (λ k. literal_is k u.taken x (h k))
  by_literal t (stops d u more x h) = stops d (either_runs c.Number literal other true t u) more x (literal_is (length u.taken) (u.taken ++ more) x h)

  by_other : sees c.Number i ≡ false → Good (part unit) P i → Good minus_rule (r.minus_of P) i
  by_other t (takes x d u h) = takes (Neg x) d
      (either_runs c.Number literal other false t (runs_both P (λ e. pure (Neg e)) u (record { taken = []; whole = refl; again = λ q g. refl })))
      (λ k. subst (λ q. Means unit (sign s.Minus ∷ q) (Neg x)) (sym (append-nil u.taken))
      (e.minus (front_no_number u.taken d (subst BeginsNoNumber u.whole (begins_no_number i t))) (h 0)))
  by_other t (stops d u more x h) =
      let m = minus_before (u.taken ++ more) x h in
      stops d (either_runs c.Number literal other false t (runs_first P (λ e. pure (Neg e)) u)) more m.0 m.1

  by_test : (b : Bool) → sees c.Number i ≡ b → Good minus_rule (r.minus_of P) i
  by_test true t = by_literal t (good_made a_negative_number negative_number (λ n. Lit (value.Int n)) good_negative_number i)
  by_test false t = by_other t (good i)

-- what stands behind an opening bracket
abbrev group_rule : Rule Expr
group_rule k ts x = Means unit (sign s.Open ∷ ts) x

closed : Expr → Rule Expr
closed x = Both (the_if true (sign s.Close)) (λ _. nothing x)

closed-is : (x : Expr) (k : ℕ) (ts : Input) (y : Expr) → closed x k ts y → (ts ≡ sign s.Close ∷ []) × (x ≡ y)
unfolding closed
closed-is x k ts y b = (b.whole ∙ ap (λ q. q ++ b.back) (b.first).0 ∙ ap (λ q. sign s.Close ∷ q) (b.second).0, (b.second).1)

pub good_group_of : (P : Reader Expr) → ((i : Input) → Good (part (row level.Or)) P i) → (i : Input) → Good group_rule (r.group_of P) i
unfolding r.group_of closed
good_group_of P good i = weaker is_group
    (good_both (part (row level.Or)) closed P (λ x j. and_then (expect_if true (c.Sign s.Close) j) (λ _. pure x))
    (λ x. (sign s.Close ∷ [], x, record { value = tt; front = sign s.Close ∷ []; back = []; whole = refl; first = (refl, λ h. refl); second = (refl, refl) }))
    good
    (λ x j. good_both (the_if true (sign s.Close)) (λ _. nothing x) (expect_if true (c.Sign s.Close)) (λ _. pure x) (λ _. ([], x, (refl, refl)))
    (good_expect_if true (c.Sign s.Close) (sign s.Close) (sign_is s.Close) refl) (λ _ q. good_pure x q) j) i) where
      is_group : (k : ℕ) (ts : Input) (x : Expr) → Both (part (row level.Or)) closed k ts x → group_rule k ts x
      is_group k ts x b =
          let f = closed-is b.value (k - length b.front) b.back x b.second in
          subst (λ q. Means unit (sign s.Open ∷ q) x) (sym (b.whole ∙ ap (λ q. b.front ++ q) f.0))
          (subst (λ q. Means unit (sign s.Open ∷ b.front ++ sign s.Close ∷ []) q) f.1 (group b.first))

pub good_unit_of : (P Q : Reader Expr) → ((i : Input) → Good (part unit) P i) → ((i : Input) → Good (part (row level.Or)) Q i) → (i : Input) → Good (part unit) (r.unit_of P Q) i
unfolding r.unit_of
good_unit_of P Q inner whole =
    good_by_class (c.Sign s.Minus) minus_rule (part unit) (part unit) (r.minus_of P) _
    (λ t k ts x is_minus h. subst (λ q. Means unit (q ∷ ts) x) (sym (sign_is s.Minus t is_minus)) h) (λ k ts x h. h)
    (good_minus_of P inner)
    (good_by_class (c.Sign s.Open) group_rule (part unit) (part unit) (r.group_of Q) r.leaf
    (λ t k ts x is_open h. subst (λ q. Means unit (q ∷ ts) x) (sym (sign_is s.Open t is_open)) h) (λ k ts x h. h)
    (good_group_of Q whole) good_leaf)

-- ---- all levels

pub good_tests_of : (P : Reader Expr) (n : ℕ) → ((i : Input) → Good (part unit) P i) → (i : Input) → Good (part test) (r.tests_of P n) i
good_tests_of P n good = good_test_of (r.sums_of P n) (good_chain level.Sum (r.products_of P n) (good_chain level.Product P good n) n)

mutual
  unfolding r.unit

  pub good_unit : (n : ℕ) (i : Input) → Good (part unit) (r.unit n) i
  good_unit zero i = stops i (record { taken = []; whole = refl; again = λ q g. refl }) (word w.Null ∷ []) (Lit value.Null) null_unit
  good_unit (suc n) i = good_unit_of (r.unit n) (r.whole n) (good_unit n) (good_whole n) i

  pub good_negation : (n : ℕ) (i : Input) → Good (part negation) (r.negation n) i
  good_negation zero i = stops i (record { taken = []; whole = refl; again = λ q g. refl }) (word w.Null ∷ []) (Lit value.Null) null_negation
  good_negation (suc n) i =
      good_negation_of (r.negation n) (r.tests_of (r.unit_of (r.unit n) (r.whole n)) (suc n)) (good_negation n)
      (good_tests_of (r.unit_of (r.unit n) (r.whole n)) (suc n) (good_unit_of (r.unit n) (r.whole n) (good_unit n) (good_whole n))) i

  pub good_whole : (n : ℕ) (i : Input) → Good (part (row level.Or)) (r.whole n) i
  good_whole zero i = stops i (record { taken = []; whole = refl; again = λ q g. refl }) (word w.Null ∷ []) (Lit value.Null) null_or
  good_whole (suc n) i =
      good_chain level.Or (r.chain level.And (r.negation_of (r.negation n) (r.tests_of (r.unit_of (r.unit n) (r.whole n)) (suc n))) (suc n))
      (good_chain level.And (r.negation_of (r.negation n) (r.tests_of (r.unit_of (r.unit n) (r.whole n)) (suc n)))
      (good_negation_of (r.negation n) (r.tests_of (r.unit_of (r.unit n) (r.whole n)) (suc n)) (good_negation n)
      (good_tests_of (r.unit_of (r.unit n) (r.whole n)) (suc n) (good_unit_of (r.unit n) (r.whole n) (good_unit n) (good_whole n))))
      (suc n))
      (suc n) i
