-- What it means that a reader follows a rule, and how readers are put together.
use Rattle.std.proofs.Common.{◌≡◌, ℕ, suc, ◌-◌, Bool, true, false, cond, [], ◌∷◌, ◌++◌, length, Ok, Err, refl, sym, ◌∙◌, ap, subst, arith, append_assoc, length-append}
use Rattle.sql_words.specs.declared.tokens.Class.{Class}
use Rattle.sql_front.specs.Input.{Outcome, Reader, and_then, pure, expect_if, eat, after}
use Rattle.sql_front.specs.Rules.{Rule, nothing, the_if, Both}
use Rattle.sql_front.specs.Symbols.{Symbol, Input, class_of, same_class, sees, behind}
use Rattle.sql_front.proofs.Classes.{same_class-true}

-- both are at their end, or the same symbol comes next in both
abbrev pub SameHead : Input → Input → Type 0
SameHead [] [] = Unit {0}
SameHead [] (y ∷ j) = ⊥
SameHead (x ∷ i) [] = ⊥
SameHead (x ∷ i) (y ∷ j) = x ≡ y

pub SameHead-refl : (i : Input) → SameHead i i
SameHead-refl [] = tt
SameHead-refl (x ∷ i) = refl

pub SameHead-append : (t i j : Input) → SameHead i j → SameHead (t ++ i) (t ++ j)
SameHead-append [] i j h = h
SameHead-append (x ∷ t) i j h = refl

pub SameHead-sym : (i j : Input) → SameHead i j → SameHead j i
SameHead-sym [] [] h = tt
SameHead-sym [] (y ∷ j) h = h
SameHead-sym (x ∷ i) [] h = h
SameHead-sym (x ∷ i) (y ∷ j) h = sym h

pub sees_same : (c : Class) (i j : Input) → SameHead i j → sees c i ≡ sees c j
unfolding sees
sees_same c [] [] h = refl
sees_same c [] (y ∷ j) h = absurd h
sees_same c (x ∷ i) [] h = absurd h
sees_same c (x ∷ i) (y ∷ j) h = ap (λ z. same_class c (class_of z)) h

-- the next symbol is of the class
pub sees-true : (c : Class) (i : Input) → sees c i ≡ true → (x : Symbol) × (j : Input) × (i ≡ x ∷ j) × (class_of x ≡ c)
unfolding sees
sees-true c [] h = absurd cc
sees-true c (x ∷ i) h = (x, i, refl, sym (same_class-true c (class_of x) h))

-- A run of a reader: what it took, what it left, and that it does the same whatever stands behind the next
-- symbol.
pub record Runs {X : Type 0} (P : Reader X) (i : Input) (out : Input → Outcome X) (r : Input) : Type 0 where
  pub taken : Input
  pub whole : i ≡ taken ++ r
  pub again : (q : Input) → SameHead r q → P (taken ++ q) ≡ out q

abbrev pub gives : {X : Type 0} → X → Input → Outcome X
gives x r = Ok (x, r)

abbrev pub gives_up : {X : Type 0} → Input → Outcome X
gives_up r = Err r

pub runs_to : {X : Type 0} {P : Reader X} {i r : Input} {out : Input → Outcome X} → Runs P i out r → P i ≡ out r
runs_to {X} {P} {i} {r} u = ap P u.whole ∙ u.again r (SameHead-refl r)

-- The reader follows the rule here: it takes what the rule means, or stops where what it took begins
-- something that the rule means.
pub data Good {X : Type 0} (R : Rule X) (P : Reader X) (i : Input) : Type 0 where
  takes : (x : X) (r : Input) (u : Runs P i (gives x) r) → ((k : ℕ) → R k u.taken x) → Good R P i
  stops : (r : Input) (u : Runs P i gives_up r) (more : Input) (x : X) → R (length u.taken) (u.taken ++ more) x → Good R P i

-- what a rule means begins somewhere
abbrev pub Begins : {X : Type 0} → Rule X → Type 0
Begins {X} R = (w : Input) × (x : X) × R 0 w x

pub weaker : {X : Type 0} {R S : Rule X} {P : Reader X} {i : Input} → ((k : ℕ) (ts : Input) (x : X) → R k ts x → S k ts x) → Good R P i → Good S P i
weaker f (takes x r u h) = takes x r u (λ k. f k u.taken x (h k))
weaker f (stops r u more x h) = stops r u more x (f (length u.taken) (u.taken ++ more) x h)

-- the same reader, written otherwise
pub same_reader : {X : Type 0} {R : Rule X} {P Q : Reader X} {i : Input} → ((j : Input) → Q j ≡ P j) → Good R P i → Good R Q i
same_reader f (takes x r u h) = takes x r (record { taken = u.taken; whole = u.whole; again = λ q s. f (u.taken ++ q) ∙ u.again q s }) h
same_reader f (stops r u more x h) = stops r (record { taken = u.taken; whole = u.whole; again = λ q s. f (u.taken ++ q) ∙ u.again q s }) more x h

pub good_pure : {X : Type 0} (x : X) (i : Input) → Good (nothing x) (pure x) i
good_pure x i = takes x i (record { taken = []; whole = refl; again = λ q s. refl }) (λ k. (refl, refl))

module _ {X Y : Type 0} (P : Reader X) (Q : X → Reader Y) where
  abbrev bound : Reader Y
  bound = λ i. and_then (P i) Q

  -- a run of the first and a run of the second are a run of both
  unfoldable pub runs_both : {i r z : Input} {x : X} {out : Input → Outcome Y} → Runs P i (gives x) r → Runs (Q x) r out z → Runs bound i out z
  runs_both {i} {r} {z} {x} u v = record {
    taken = u.taken ++ v.taken;
    whole = u.whole ∙ ap (λ q. u.taken ++ q) v.whole ∙ sym (append_assoc u.taken v.taken z);
    again = λ q s.
        ap bound (append_assoc u.taken v.taken q)
        ∙ ap (λ o. and_then o Q) (u.again (v.taken ++ q) (subst (λ e. SameHead e (v.taken ++ q)) (sym v.whole) (SameHead-append v.taken z q s)))
        ∙ v.again q s;
  }

  unfoldable pub runs_first : {i r : Input} → Runs P i gives_up r → Runs bound i gives_up r
  runs_first u = record { taken = u.taken; whole = u.whole; again = λ q s. ap (λ o. and_then o Q) (u.again q s) }

-- two readers one behind the other follow two rules one behind the other
pub good_both : {X Y : Type 0} (R : Rule X) (S : X → Rule Y) (P : Reader X) (Q : X → Reader Y)
    → ((x : X) → Begins (S x)) → ((i : Input) → Good R P i) → ((x : X) (i : Input) → Good (S x) (Q x) i)
    → (i : Input) → Good (Both R S) (λ j. and_then (P j) Q) i
unfolding runs_both runs_first
good_both {X} {Y} R S P Q begins first second i = by_first (first i) where
  by_second : (x : X) (r : Input) (u : Runs P i (gives x) r) → ((k : ℕ) → R k u.taken x) → Good (S x) (Q x) r → Good (Both R S) (λ j. and_then (P j) Q) i
  by_second x r u h (takes y z v g) = takes y z (runs_both P Q u v)
      (λ k. record { value = x; front = u.taken; back = v.taken; whole = refl; first = h k; second = g (k - length u.taken) })
  by_second x r u h (stops z v more y g) = stops z (runs_both P Q u v) more y
      (let k : ℕ = length (u.taken ++ v.taken) in
      let left : k - length u.taken ≡ length v.taken = omega (arith, length-append u.taken v.taken) in
      record {
        value = x;
        front = u.taken;
        back = v.taken ++ more;
        whole = append_assoc u.taken v.taken more;
        first = h k;
        second = subst (λ n. S x n (v.taken ++ more) y) (sym left) g;
      })

  by_first : Good R P i → Good (Both R S) (λ j. and_then (P j) Q) i
  by_first (takes x r u h) = by_second x r u h (second x r)
  by_first (stops r u more x h) =
      let b = begins x in
      stops r (runs_first P Q u) (more ++ b.0) b.1
      (let k : ℕ = length u.taken in
      let none : 0 ≡ k - length (u.taken ++ more) = omega (arith, length-append u.taken more) in
      record {
        value = x;
        front = u.taken ++ more;
        back = b.0;
        whole = sym (append_assoc u.taken more b.0);
        first = h;
        second = subst (λ n. S x n b.0 b.1) none b.2;
      })

pub begins_both : {X Y : Type 0} {R : Rule X} {S : X → Rule Y} → Begins R → ((x : X) → Begins (S x)) → Begins (Both R S)
begins_both {X} {Y} {R} {S} b f =
    let e = f b.1 in (
      b.0 ++ e.0,
      e.1,
      record {
        value = b.1;
        front = b.0;
        back = e.0;
        whole = refl;
        first = b.2;
        second = let none : 0 ≡ 0 - length b.0 = omega arith in subst (λ n. S b.1 n e.0 e.1) none e.2;
      },
    )

-- by the class of the next symbol
module _ {X : Type 0} (c : Class) (P Q : Reader X) where
  abbrev pub by_class : Reader X
  by_class = λ i. cond (sees c i) (P (behind i)) (Q i)

  runs_behind : {i j r : Input} {x : Symbol} {out : Input → Outcome X} → i ≡ x ∷ j → sees c i ≡ true → Runs P j out r → Runs by_class i out r
  runs_behind {i} {j} {r} {x} {out} e t u = record {
    taken = x ∷ u.taken;
    whole = e ∙ ap (λ q. x ∷ q) u.whole;
    again = λ q s.
        ap (λ b. cond b (P (u.taken ++ q)) (Q (x ∷ u.taken ++ q))) (sees_same c (x ∷ u.taken ++ q) (x ∷ j) refl ∙ ap (sees c) (sym e) ∙ t)
        ∙ u.again q s;
  }

  runs_else : {i r : Input} {out : Input → Outcome X} → sees c i ≡ false → Runs Q i out r → Runs by_class i out r
  runs_else {i} {r} {out} t u = record {
    taken = u.taken;
    whole = u.whole;
    again = λ q s.
        ap (λ b. cond b (P (behind (u.taken ++ q))) (Q (u.taken ++ q)))
        (sees_same c (u.taken ++ q) (u.taken ++ r) (SameHead-append u.taken q r (SameHead-sym r q s)) ∙ ap (sees c) (sym u.whole) ∙ t)
        ∙ u.again q s;
  }

-- two readers by the class of the next symbol follow two rules, one with a symbol of the class before it
pub good_by_class : {X : Type 0} (c : Class) (R S T : Rule X) (P Q : Reader X)
    → ((s : Symbol) (k : ℕ) (ts : Input) (x : X) → class_of s ≡ c → R (k - 1) ts x → T k (s ∷ ts) x)
    → ((k : ℕ) (ts : Input) (x : X) → S k ts x → T k ts x)
    → ((i : Input) → Good R P i) → ((i : Input) → Good S Q i)
    → (i : Input) → Good T (λ j. cond (sees c j) (P (behind j)) (Q j)) i
unfolding runs_behind runs_else
good_by_class {X} c R S T P Q with_symbol without first second i = by_test (sees c i) refl where
  by_first : (s : Symbol) (j : Input) → i ≡ s ∷ j → class_of s ≡ c → sees c i ≡ true → Good R P j → Good T (by_class c P Q) i
  by_first s j e is_c t (takes x r u h) = takes x r (runs_behind c P Q e t u) (λ k. with_symbol s k u.taken x is_c (h (k - 1)))
  by_first s j e is_c t (stops r u more x h) = stops r (runs_behind c P Q e t u) more x
      (let less : length u.taken ≡ suc (length u.taken) - 1 = omega arith in
      with_symbol s (suc (length u.taken)) (u.taken ++ more) x is_c (subst (λ n. R n (u.taken ++ more) x) less h))

  by_second : sees c i ≡ false → Good S Q i → Good T (by_class c P Q) i
  by_second t (takes x r u h) = takes x r (runs_else c P Q t u) (λ k. without k u.taken x (h k))
  by_second t (stops r u more x h) = stops r (runs_else c P Q t u) more x (without (length u.taken) (u.taken ++ more) x h)

  by_test : (b : Bool) → sees c i ≡ b → Good T (by_class c P Q) i
  by_test true t = let s = sees-true c i t in by_first s.0 s.1 s.2 s.3 t (first s.1)
  by_test false t = by_second t (second i)

-- a symbol of the class, where the condition allows it
pub good_expect_if : (allowed : Bool) (c : Class) (t : Symbol) → ((s : Symbol) → class_of s ≡ c → s ≡ t) → class_of t ≡ c
    → (i : Input) → Good (the_if allowed t) (expect_if allowed c) i
unfolding expect_if
good_expect_if allowed c t only is_c i = by_test (sees c i) refl allowed refl where
  refused : (r : Input) → SameHead i r → sees c i ≡ false → expect_if allowed c r ≡ Err r
  refused r s e = ap (λ b. cond b (cond allowed (Ok (tt, behind r)) (Err r)) (Err r)) (sees_same c r i (SameHead-sym i r s) ∙ e)

  by_test : (b : Bool) → sees c i ≡ b → (a : Bool) → allowed ≡ a → Good (the_if allowed t) (expect_if allowed c) i
  by_test false e a g = stops i (record { taken = []; whole = refl; again = λ q s. refused q s e }) (t ∷ []) tt (refl, λ h. absurd (omega arith))
  by_test true e true g =
      let s = sees-true c i e in
      let same : s.0 ≡ t = only s.0 s.3 in
      takes tt s.1 (record {
        taken = t ∷ [];
        whole = s.2 ∙ ap (λ x. x ∷ s.1) same;
        again = λ q h. ap (λ b. cond b (cond allowed (Ok (tt, q)) (Err (t ∷ q))) (Err (t ∷ q))) (sees_same c (t ∷ q) i (subst (λ j. SameHead (t ∷ q) j) (sym s.2) (sym same)) ∙ e)
            ∙ ap (λ b. cond b (Ok (tt, q)) (Err (t ∷ q))) g;
      })
      (λ k. (refl, λ h. g))
  by_test true e false g = stops i (record {
    taken = [];
    whole = refl;
    again = λ q h. ap (λ b. cond b (cond allowed (Ok (tt, behind q)) (Err q)) (Err q)) (sees_same c q i (SameHead-sym i q h) ∙ e)
        ∙ ap (λ b. cond b (Ok (tt, behind q)) (Err q)) g;
  })
      (t ∷ []) tt (refl, λ h. absurd (omega arith))

-- the same where both readers take the symbol themselves
module _ {X : Type 0} (c : Class) (P Q : Reader X) where
  abbrev pub either_class : Reader X
  either_class = λ i. cond (sees c i) (P i) (Q i)

  unfoldable pub either_runs : {i r : Input} {out : Input → Outcome X} (b : Bool) → sees c i ≡ b → Runs (λ j. cond b (P j) (Q j)) i out r → Runs either_class i out r
  either_runs {i} {r} {out} b t u = record {
    taken = u.taken;
    whole = u.whole;
    again = λ q s.
        ap (λ d. cond d (P (u.taken ++ q)) (Q (u.taken ++ q)))
        (sees_same c (u.taken ++ q) (u.taken ++ r) (SameHead-append u.taken q r (SameHead-sym r q s)) ∙ ap (sees c) (sym u.whole) ∙ t)
        ∙ u.again q s;
  }

pub good_choice : {X : Type 0} (c : Class) (R S T : Rule X) (P Q : Reader X)
    → ((k : ℕ) (ts : Input) (x : X) → R k ts x → T k ts x) → ((k : ℕ) (ts : Input) (x : X) → S k ts x → T k ts x)
    → ((i : Input) → Good R P i) → ((i : Input) → Good S Q i) → (i : Input) → Good T (λ j. cond (sees c j) (P j) (Q j)) i
unfolding either_runs
good_choice {X} c R S T P Q f g first second i = by_test (sees c i) refl where
  by_first : sees c i ≡ true → Good R P i → Good T (either_class c P Q) i
  by_first t (takes x r u h) = takes x r (either_runs c P Q true t u) (λ k. f k u.taken x (h k))
  by_first t (stops r u more x h) = stops r (either_runs c P Q true t u) more x (f (length u.taken) (u.taken ++ more) x h)

  by_second : sees c i ≡ false → Good S Q i → Good T (either_class c P Q) i
  by_second t (takes x r u h) = takes x r (either_runs c P Q false t u) (λ k. g k u.taken x (h k))
  by_second t (stops r u more x h) = stops r (either_runs c P Q false t u) more x (g (length u.taken) (u.taken ++ more) x h)

  by_test : (b : Bool) → sees c i ≡ b → Good T (either_class c P Q) i
  by_test true t = by_first t (first i)
  by_test false t = by_second t (second i)

-- takes one symbol of the class, if it comes next
pub good_eat : {X : Type 0} (c : Class) (R S T : Rule X) (P : Bool → Reader X)
    → ((s : Symbol) (k : ℕ) (ts : Input) (x : X) → class_of s ≡ c → R (k - 1) ts x → T k (s ∷ ts) x)
    → ((k : ℕ) (ts : Input) (x : X) → S k ts x → T k ts x)
    → ((i : Input) → Good R (P true) i) → ((i : Input) → Good S (P false) i)
    → (i : Input) → Good T (λ j. and_then (eat c j) P) i
unfolding after
good_eat {X} c R S T P f g first second i = same_reader there (good_by_class c R S T (P true) (P false) f g first second i) where
  by_test : (j : Input) (b : Bool) → P b (cond b (behind j) j) ≡ cond b (P true (behind j)) (P false j)
  by_test j true = refl
  by_test j false = refl

  there : (j : Input) → P (sees c j) (after c j) ≡ cond (sees c j) (P true (behind j)) (P false j)
  there j = by_test j (sees c j)

-- ---- readers of one symbol

module _ {X : Type 0} {R : Rule X} {P : Reader X} where
  pub at_end : P [] ≡ Err [] → (more : Input) (x : X) → R 0 more x → Good R P []
  at_end e more x h = stops [] (record { taken = []; whole = refl; again = go }) more x h where
    go : (q : Input) → SameHead [] q → P q ≡ Err q
    go [] g = e
    go (y ∷ q) g = absurd g

  pub refusing : (s : Symbol) (i : Input) → ((q : Input) → P (s ∷ q) ≡ Err (s ∷ q)) → (more : Input) (x : X) → R 0 more x → Good R P (s ∷ i)
  refusing s i e more x h = stops (s ∷ i) (record { taken = []; whole = refl; again = go }) more x h where
    go : (q : Input) → SameHead (s ∷ i) q → P q ≡ Err q
    go [] g = absurd g
    go (y ∷ q) g = ap (λ z. P (z ∷ q)) (sym g) ∙ e q ∙ ap (λ z. Err (z ∷ q)) g

  pub taking : (s : Symbol) (i : Input) (x : X) → ((q : Input) → P (s ∷ q) ≡ Ok (x, q)) → ((k : ℕ) → R k (s ∷ []) x) → Good R P (s ∷ i)
  taking s i x e h = takes x i (record { taken = s ∷ []; whole = refl; again = λ q g. e q }) h
