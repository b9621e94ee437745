-- More room than symbols makes no difference to what is read.
use Rattle.std.proofs.Common.{◌≡◌, ℕ, zero, suc, ◌≤◌, Bool, true, false, cond, [], ◌∷◌, length, Option, Some, None, Result, Ok, Err, refl, sym, ◌∙◌, ap, arith, length-append}
use Rattle.sql_values.specs.declared.values.Value.TheVariants as value
use Rattle.sql_words.specs.declared.reserved.Word.TheVariants as w
use Rattle.sql_words.specs.declared.signs.Sign.TheVariants as s
use Rattle.sql_words.specs.declared.tokens.Class.{Class}
use Rattle.sql_words.specs.declared.tokens.Class.TheVariants as c
use Rattle.sql_statements.specs.declared.expressions.Expr.{Expr}
use Rattle.sql_statements.specs.declared.expressions.Expr.TheVariants.{Lit, Neg, Not, Two}
use Rattle.sql_statements.specs.declared.expressions.Op.{Op}
use Rattle.sql_front.specs.declared.levels.Level.{Level}
use Rattle.sql_front.specs.declared.levels.Level.TheVariants as level
use Rattle.sql_front.specs.Expressions.{row, unit, negation}
use Rattle.sql_front.specs.Input.{Reader, and_then, pure, any_name, named, negative_number, expect_if}
use Rattle.sql_front.specs.ReadExpr as r
use Rattle.sql_front.specs.Rules.{Rule}
use Rattle.sql_front.specs.Symbols.{Input, sees, behind}
use Rattle.sql_front.proofs.Exact.{runs_to, Good, takes, stops}
use Rattle.sql_front.proofs.ExprReads.{part, good_chain, good_unit_of, good_unit, good_whole, good_negation, good_negation_of, good_tests_of}

-- a reader leaves no more than there was
abbrev pub Shrinks : {X : Type 0} → Reader X → Type 0
Shrinks {X} P = (i : Input) (x : X) (r : Input) → P i ≡ Ok (x, r) → length r ≤ length i

pub good_shrinks : {X : Type 0} (R : Rule X) (P : Reader X) → ((i : Input) → Good R P i) → Shrinks P
good_shrinks {X} R P good i x r h = by_case (good i) where
  same_rest : (y : X) (q : Input) → P i ≡ Ok (y, q) → q ≡ r
  same_rest y q g = ap (λ (p : X × Input). p.1) (inside (sym g ∙ h)) where
    inside : {a b : X × Input} → ◌≡◌ {A = Result (X × Input) Input} (Ok a) (Ok b) → a ≡ b
    inside e = cc

  clash : (q : Input) → P i ≡ Err q → ⊥
  clash q g = absurd (apart (P i) h g) where
    apart : (o : Result (X × Input) Input) → o ≡ Ok (x, r) → o ≡ Err q → ⊥
    apart o a b = cc

  by_case : Good R P i → length r ≤ length i
  by_case (takes y q u m) =
      let same = same_rest y q (runs_to u) in
      omega (arith, ap length same, ap length u.whole, length-append u.taken q)
  by_case (stops q u more y m) = absurd (clash q (runs_to u))

-- the readers do the same on inputs of at most k symbols
abbrev Agree : {X : Type 0} → Reader X → Reader X → ℕ → Type 0
Agree P Q k = (i : Input) → length i ≤ k → P i ≡ Q i

no_operator : (l : Level) → r.operator l [] ≡ None
unfolding r.operator sees
no_operator level.Or = refl
no_operator level.And = refl
no_operator level.Sum = refl
no_operator level.Product = refl

stops_at_end : (l : Level) (P : Reader Expr) (n : ℕ) (left : Expr) → r.chain_from l P n left [] ≡ Ok (left, [])
unfolding r.chain_from
stops_at_end l P zero left = refl
stops_at_end l P (suc n) left = ap (λ o. r.further o (λ o j. and_then (P j) (λ right. r.chain_from l P n (Two o left right))) left []) (no_operator l)

module _ (l : Level) (P Q : Reader Expr) (k : ℕ) (agree : Agree P Q k) (shrinks : Shrinks P) where
  chain_from-agree : (n m : ℕ) (left : Expr) (i : Input) → length i ≤ k → length i ≤ n → length i ≤ m → r.chain_from l P n left i ≡ r.chain_from l Q m left i
  unfolding r.chain_from
  chain_from-agree n m left [] hk hn hm = stops_at_end l P n left ∙ sym (stops_at_end l Q m left)
  chain_from-agree zero m left (t ∷ i) hk hn hm = absurd (omega arith)
  chain_from-agree (suc n) zero left (t ∷ i) hk hn hm = absurd (omega arith)
  chain_from-agree (suc n) (suc m) left (t ∷ i) hk hn hm = by_operator (r.operator l (t ∷ i)) (chain_from-agree n m) where
    by_rest : (o : Op) (z : Result (Expr × Input) Input) → P i ≡ z
        → ((left : Expr) (i : Input) → length i ≤ k → length i ≤ n → length i ≤ m → r.chain_from l P n left i ≡ r.chain_from l Q m left i)
        → and_then z (λ right. r.chain_from l P n (Two o left right)) ≡ and_then z (λ right. r.chain_from l Q m (Two o left right))
    by_rest o (Ok p) e more =
        let fewer = shrinks i p.0 p.1 e in
        more (Two o left p.0) p.1 (omega arith) (omega arith) (omega arith)
    by_rest o (Err q) e more = refl

    by_operator : (o : Option Op)
        → ((left : Expr) (i : Input) → length i ≤ k → length i ≤ n → length i ≤ m → r.chain_from l P n left i ≡ r.chain_from l Q m left i)
        → r.further o (λ o j. and_then (P j) (λ right. r.chain_from l P n (Two o left right))) left (t ∷ i)
        ≡ r.further o (λ o j. and_then (Q j) (λ right. r.chain_from l Q m (Two o left right))) left (t ∷ i)
    by_operator None more = refl
    by_operator (Some o) more =
        by_rest o (P i) refl more ∙ ap (λ z. and_then z (λ right. r.chain_from l Q m (Two o left right))) (agree i (omega arith))

  chain-agree : (n m : ℕ) → k ≤ n → k ≤ m → Agree (r.chain l P n) (r.chain l Q m) k
  unfolding r.chain
  chain-agree n m hn hm i h = by_rest (P i) refl ∙ ap (λ z. and_then z (r.chain_from l Q m)) (agree i h) where
    by_rest : (z : Result (Expr × Input) Input) → P i ≡ z → and_then z (r.chain_from l P n) ≡ and_then z (r.chain_from l Q m)
    by_rest (Ok p) e =
        let fewer = shrinks i p.0 p.1 e in
        chain_from-agree n m p.0 p.1 (omega arith) (omega arith) (omega arith)
    by_rest (Err q) e = refl

test_of-agree : (P Q : Reader Expr) (k : ℕ) → Agree P Q k → Shrinks P → Agree (r.test_of P) (r.test_of Q) k
unfolding r.test_of
test_of-agree P Q k agree shrinks i h = by_sum (P i) refl ∙ ap (λ z. and_then z (λ left j. r.tested (r.comparison j) Q left j)) (agree i h) where
  by_comparison : (o : Option Op) (left : Expr) (j : Input) → length j ≤ k → r.tested o P left j ≡ r.tested o Q left j
  by_comparison None left j g = refl
  by_comparison (Some o) left [] g = ap (λ z. and_then z (λ right. pure (Two o left right))) (agree [] (omega arith))
  by_comparison (Some o) left (t ∷ j) g = ap (λ z. and_then z (λ right. pure (Two o left right))) (agree j (omega arith))

  by_sum : (z : Result (Expr × Input) Input) → P i ≡ z → and_then z (λ left j. r.tested (r.comparison j) P left j) ≡ and_then z (λ left j. r.tested (r.comparison j) Q left j)
  by_sum (Ok p) e = let fewer = shrinks i p.0 p.1 e in by_comparison (r.comparison p.1) p.0 p.1 (omega arith)
  by_sum (Err q) e = refl

-- by the class of the next symbol, where readers agree behind it
class-agree : (c : Class) (P Q S T : Reader Expr) (k : ℕ) → Agree P Q k → Agree S T (suc k) → Agree (λ i. cond (sees c i) (P (behind i)) (S i)) (λ i. cond (sees c i) (Q (behind i)) (T i)) (suc k)
class-agree c P Q S T k first second [] h = by_test (sees c []) where
  by_test : (b : Bool) → cond b (P []) (S []) ≡ cond b (Q []) (T [])
  by_test true = first [] (omega arith)
  by_test false = second [] (omega arith)
class-agree c P Q S T k first second (x ∷ i) h = by_test (sees c (x ∷ i)) where
  by_test : (b : Bool) → cond b (P i) (S (x ∷ i)) ≡ cond b (Q i) (T (x ∷ i))
  by_test true = first i (omega arith)
  by_test false = second (x ∷ i) h

minus_of-agree : (P Q : Reader Expr) (k : ℕ) → Agree P Q k → Agree (r.minus_of P) (r.minus_of Q) k
unfolding r.minus_of
minus_of-agree P Q k agree i h =
    ap (λ z. cond (sees c.Number i) (and_then (negative_number i) (λ n. pure (Lit (value.Int n)))) (and_then z (λ y. pure (Neg y)))) (agree i h)

group_of-agree : (P Q : Reader Expr) (k : ℕ) → Agree P Q k → Agree (r.group_of P) (r.group_of Q) k
unfolding r.group_of
group_of-agree P Q k agree i h = ap (λ z. and_then z (λ y j. and_then (expect_if true (c.Sign s.Close) j) (λ _. pure y))) (agree i h)

unit_of-agree : (P Q S T : Reader Expr) (k : ℕ) → Agree P Q k → Agree S T k → Agree (r.unit_of P S) (r.unit_of Q T) (suc k)
unfolding r.unit_of
unit_of-agree P Q S T k inner whole =
    class-agree (c.Sign s.Minus) (r.minus_of P) (r.minus_of Q) _ _ k (minus_of-agree P Q k inner)
    (class-agree (c.Sign s.Open) (r.group_of S) (r.group_of T) r.leaf r.leaf k (group_of-agree S T k whole) (λ i h. refl))

negation_of-agree : (P Q S T : Reader Expr) (k : ℕ) → Agree P Q k → Agree S T (suc k) → Agree (r.negation_of P S) (r.negation_of Q T) (suc k)
unfolding r.negation_of
negation_of-agree P Q S T k inner test =
    class-agree (c.Reserved w.Not) (λ j. and_then (P j) (λ e. pure (Not e))) (λ j. and_then (Q j) (λ e. pure (Not e))) S T k
    (λ i h. ap (λ z. and_then z (λ e. pure (Not e))) (inner i h)) test

module _ (P Q : Reader Expr) (k : ℕ) (agree : Agree P Q k) (good : (i : Input) → Good (part unit) P i) (n m : ℕ) (hn : k ≤ n) (hm : k ≤ m) where
  tests_of-agree : Agree (r.tests_of P n) (r.tests_of Q m) k
  tests_of-agree =
      test_of-agree (r.sums_of P n) (r.sums_of Q m) k
      (chain-agree level.Sum (r.products_of P n) (r.products_of Q m) k
      (chain-agree level.Product P Q k agree (good_shrinks (part unit) P good) n m hn hm)
      (good_shrinks (part (row level.Product)) (r.products_of P n) (good_chain level.Product P good n)) n m hn hm)
      (good_shrinks (part (row level.Sum)) (r.sums_of P n) (good_chain level.Sum (r.products_of P n) (good_chain level.Product P good n) n))

whole_of-agree : (P Q : Reader Expr) (k : ℕ) → Agree P Q k → ((i : Input) → Good (part negation) P i) → (n m : ℕ) → k ≤ n → k ≤ m → Agree (r.whole_of P n) (r.whole_of Q m) k
whole_of-agree P Q k agree good n m hn hm =
    chain-agree level.Or (r.chain level.And P n) (r.chain level.And Q m) k
    (chain-agree level.And P Q k agree (good_shrinks (part negation) P good) n m hn hm)
    (good_shrinks (part (row level.And)) (r.chain level.And P n) (good_chain level.And P good n)) n m hn hm

-- with room for one symbol more each level agrees as the levels below do
module _ (n m : ℕ) (k : ℕ) (units : Agree (r.unit n) (r.unit m) k) (negations : Agree (r.negation n) (r.negation m) k) (wholes : Agree (r.whole n) (r.whole m) k) (hn : k ≤ n) (hm : k ≤ m) where
  abbrev inner : ℕ → Reader Expr
  inner n = r.unit_of (r.unit n) (r.whole n)

  good_inner : (n : ℕ) (i : Input) → Good (part unit) (inner n) i
  good_inner n = good_unit_of (r.unit n) (r.whole n) (good_unit n) (good_whole n)

  unit-next : Agree (r.unit (suc n)) (r.unit (suc m)) (suc k)
  unfolding r.unit
  unit-next = unit_of-agree (r.unit n) (r.unit m) (r.whole n) (r.whole m) k units wholes

  tests-next : Agree (r.tests_of (inner n) (suc n)) (r.tests_of (inner m) (suc m)) (suc k)
  tests-next = tests_of-agree (inner n) (inner m) (suc k) (unit_of-agree (r.unit n) (r.unit m) (r.whole n) (r.whole m) k units wholes) (good_inner n) (suc n) (suc m) (omega arith) (omega arith)

  negation-next : Agree (r.negation (suc n)) (r.negation (suc m)) (suc k)
  unfolding r.unit
  negation-next = negation_of-agree (r.negation n) (r.negation m) (r.tests_of (inner n) (suc n)) (r.tests_of (inner m) (suc m)) k negations tests-next

  whole-next : Agree (r.whole (suc n)) (r.whole (suc m)) (suc k)
  unfolding r.unit
  whole-next =
      whole_of-agree (r.negation_of (r.negation n) (r.tests_of (inner n) (suc n))) (r.negation_of (r.negation m) (r.tests_of (inner m) (suc m))) (suc k)
      negation-next
      (good_negation_of (r.negation n) (r.tests_of (inner n) (suc n)) (good_negation n) (good_tests_of (inner n) (suc n) (good_inner n)))
      (suc n) (suc m) (omega arith) (omega arith)

-- nothing is read of nothing, whatever the room
module _ where
  unit_none : (n : ℕ) → r.unit n [] ≡ Err []
  unfolding r.unit r.unit_of r.leaf r.column any_name named sees
  unit_none zero = refl
  unit_none (suc n) = refl

  negation_none : (n : ℕ) → r.negation n [] ≡ Err []
  unfolding r.unit r.negation_of r.test_of r.chain r.unit_of r.leaf r.column any_name named sees
  negation_none zero = refl
  negation_none (suc n) = refl

  whole_none : (n : ℕ) → r.whole n [] ≡ Err []
  unfolding r.unit r.negation_of r.test_of r.chain r.unit_of r.leaf r.column any_name named sees
  whole_none zero = refl
  whole_none (suc n) = refl

record AllAgree (n m k : ℕ) : Type 0 where
  units : Agree (r.unit n) (r.unit m) k
  negations : Agree (r.negation n) (r.negation m) k
  wholes : Agree (r.whole n) (r.whole m) k

none_left : (P Q : Reader Expr) → P [] ≡ Err [] → Q [] ≡ Err [] → Agree P Q 0
none_left P Q h g [] l = h ∙ sym g
none_left P Q h g (x ∷ i) l = absurd (omega arith)

all_agree : (k n m : ℕ) → k ≤ n → k ≤ m → AllAgree n m k
all_agree zero n m hn hm = record {
  units = none_left (r.unit n) (r.unit m) (unit_none n) (unit_none m);
  negations = none_left (r.negation n) (r.negation m) (negation_none n) (negation_none m);
  wholes = none_left (r.whole n) (r.whole m) (whole_none n) (whole_none m);
}
all_agree (suc k) zero m hn hm = absurd (omega arith)
all_agree (suc k) (suc n) zero hn hm = absurd (omega arith)
all_agree (suc k) (suc n) (suc m) hn hm =
    let a = all_agree k n m (omega arith) (omega arith) in
    record {
      units = unit-next n m k a.units a.negations a.wholes (omega arith) (omega arith);
      negations = negation-next n m k a.units a.negations a.wholes (omega arith) (omega arith);
      wholes = whole-next n m k a.units a.negations a.wholes (omega arith) (omega arith);
    }

-- with as much room as symbols an expression is read as with more
pub same_whole : (n m : ℕ) (i : Input) → length i ≤ n → length i ≤ m → r.whole n i ≡ r.whole m i
same_whole n m i hn hm = (all_agree (length i) n m hn hm).wholes i (omega arith)
