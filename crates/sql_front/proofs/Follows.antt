-- What it means that a reader does all that a rule says, and how such readers are put together.
use Rattle.std.proofs.Common.{◌≡◌, ℕ, zero, suc, ◌-◌, ◌<◌, ◌≤◌, ◌⊎◌, inl, inr, Bool, true, false, cond, List, [], ◌∷◌, ◌++◌, length, Ok, Err, refl, sym, ◌∙◌, ap, subst, arith, append_assoc, length-append}
use Rattle.sql_words.specs.declared.tokens.Class.{Class}
use Rattle.sql_front.specs.Input.{Outcome, Reader, and_then, pure, expect_if, eat, after}
use Rattle.sql_front.specs.Rules.{Rule, nothing, the_if, the, Both, ◌or◌}
use Rattle.sql_front.specs.Symbols.{Symbol, Input, class_of, sees, behind}
use Rattle.sql_front.proofs.Classes.{same_class-refl, same_class-false}
use Rattle.sql_front.proofs.Exact.{SameHead, SameHead-append, SameHead-sym, Runs, Good, takes, stops, Begins, weaker, same_reader, good_pure, good_both, begins_both, good_eat, good_expect_if}

-- Symbols that a rule takes are read, or the reader refuses one of them that the first k symbols are not held
-- to.
pub data Judged {X : Type 0} (P : Reader X) (k : ℕ) (p : Input) (x : X) (r : Input) : Type 0 where
  reads : P (p ++ r) ≡ Ok (x, r) → Judged P k p x r
  falls : (q : Input) (t : Symbol) (m : Input) → p ≡ q ++ t ∷ m → k ≤ length q → P (p ++ r) ≡ Err (t ∷ (m ++ r)) → Judged P k p x r

-- What the reader takes is what the rule means, it stops only where nothing that the rule means goes on, and
-- it reads all that the rule means before what may stand behind it.
pub record Follows {X : Type 0} (R : Rule X) (P : Reader X) (Heads Stops : Input → Type 0) : Type 0 where
  pub good : (i : Input) → Good R P i
  pub begins : Begins R
  pub judge : (k : ℕ) (p : Input) (x : X) (r : Input) → R k p x → Stops r → Judged P k p x r
  pub heads : (k : ℕ) (p : Input) (x : X) (r : Input) → R k p x → Stops r → Heads (p ++ r)

-- nothing comes next, or a symbol of the kind
abbrev pub Heading : (Symbol → Type 0) → Input → Type 0
Heading F [] = Unit {0}
Heading F (x ∷ i) = F x

-- a symbol of the kind comes next
abbrev pub Starting : (Symbol → Type 0) → Input → Type 0
Starting F [] = ⊥
Starting F (x ∷ i) = F x

pub starting_heading : (F : Symbol → Type 0) → (i : Input) → Starting F i → Heading F i
starting_heading F [] h = absurd h
starting_heading F (x ∷ i) h = h

abbrev pub Among : List Symbol → Symbol → Type 0
Among [] x = ⊥
Among (s ∷ ss) x = (x ≡ s) ⊎ Among ss x

-- nothing comes next, or one of these symbols
abbrev pub Next : List Symbol → Input → Type 0
Next ss = Heading (Among ss)

-- one of these symbols comes next
abbrev pub First : List Symbol → Input → Type 0
First ss = Starting (Among ss)

abbrev pub Anything : Input → Type 0
Anything i = Unit {0}

pub heading : {F : Symbol → Type 0} (G : Input → Type 0) → G [] → ((x : Symbol) (i : Input) → F x → G (x ∷ i)) → (i : Input) → Heading F i → G i
heading G none some [] h = none
heading G none some (x ∷ i) h = some x i h

pub heading_all : {F G : Symbol → Type 0} → ((x : Symbol) → F x → G x) → (i : Input) → Heading F i → Heading G i
heading_all f [] h = tt
heading_all f (x ∷ i) h = f x h

-- none of the symbols is of the class
pub sees_no : {F : Symbol → Type 0} (c : Class) → ((x : Symbol) → F x → c ≡ class_of x → ⊥) → (i : Input) → Heading F i → sees c i ≡ false
unfolding sees
sees_no c f [] h = refl
sees_no c f (x ∷ i) h = same_class-false c (class_of x) (f x h)

pub sees_it : (t : Symbol) (i : Input) → sees (class_of t) (t ∷ i) ≡ true
unfolding sees
sees_it t i = same_class-refl (class_of t)

-- the same with other bounds
pub follows_within : {X : Type 0} {R : Rule X} {P : Reader X} {H S G T : Input → Type 0} → Follows R P H S → ((r : Input) → T r → S r) → ((i : Input) → H i → G i) → Follows R P G T
follows_within f ends starts = record {
  good = f.good;
  begins = f.begins;
  judge = λ k p x r m h. f.judge k p x r m (ends r h);
  heads = λ k p x r m h. starts (p ++ r) (f.heads k p x r m (ends r h));
}

-- the same rule and reader, written otherwise
pub follows_as : {X : Type 0} {R S : Rule X} {P Q : Reader X} {H T : Input → Type 0} → ((k : ℕ) (p : Input) (x : X) → R k p x → S k p x) → ((k : ℕ) (p : Input) (x : X) → S k p x → R k p x)
    → ((j : Input) → Q j ≡ P j) → Follows R P H T → Follows S Q H T
follows_as {X} {R} {S} {P} {Q} {H} {T} to from same f = record {
  good = λ i. weaker to (same_reader same (f.good i));
  begins = (f.begins.0, f.begins.1, to 0 f.begins.0 f.begins.1 f.begins.2);
  judge = λ k p x r m h. by_case k p x r (f.judge k p x r (from k p x m) h);
  heads = λ k p x r m h. f.heads k p x r (from k p x m) h;
} where
  by_case : (k : ℕ) (p : Input) (x : X) (r : Input) → Judged P k p x r → Judged Q k p x r
  by_case k p x r (reads e) = reads (same (p ++ r) ∙ e)
  by_case k p x r (falls q t m e h g) = falls q t m e h (same (p ++ r) ∙ g)

pub follows_pure : {X : Type 0} (x : X) (S : Input → Type 0) → Follows (nothing x) (pure x) S S
follows_pure {X} x S = record {
  good = good_pure x;
  begins = ([], x, (refl, refl));
  judge = λ k p y r m h. reads (ap (λ q. Ok (x, q ++ r)) m.0 ∙ ap (λ z. Ok (z, r)) m.1);
  heads = λ k p y r m h. subst (λ q. S (q ++ r)) (sym m.0) h;
}

-- one behind the other
pub follows_both : {X Y : Type 0} {R : Rule X} {S : X → Rule Y} {P : Reader X} {Q : X → Reader Y} {H T G U : Input → Type 0}
    → Follows R P H T → ((x : X) → Follows (S x) (Q x) G U) → ((r : Input) → G r → T r) → Follows (Both R S) (λ i. and_then (P i) Q) H U
follows_both {X} {Y} {R} {S} {P} {Q} {H} {T} {G} {U} f g fits = record {
  good = good_both R S P Q (λ x. (g x).begins) f.good (λ x. (g x).good);
  begins = begins_both f.begins (λ x. (g x).begins);
  judge = λ k p y r m h. by_first k p y r m h (f.judge k m.front m.value (m.back ++ r) m.first (behind_first k p y r m h));
  heads = λ k p y r m h. subst H (sym (joined k p y r m)) (f.heads k m.front m.value (m.back ++ r) m.first (behind_first k p y r m h));
} where
  behind_first : (k : ℕ) (p : Input) (y : Y) (r : Input) (m : Both R S k p y) → U r → T (m.back ++ r)
  behind_first k p y r m h = fits (m.back ++ r) ((g m.value).heads (k - length m.front) m.back y r m.second h)

  joined : (k : ℕ) (p : Input) (y : Y) (r : Input) (m : Both R S k p y) → p ++ r ≡ m.front ++ (m.back ++ r)
  joined k p y r m = ap (λ q. q ++ r) m.whole ∙ append_assoc m.front m.back r

  bound : Reader Y
  bound i = and_then (P i) Q

  by_second : (k : ℕ) (p : Input) (y : Y) (r : Input) (m : Both R S k p y) → P (m.front ++ (m.back ++ r)) ≡ Ok (m.value, m.back ++ r)
      → Judged (Q m.value) (k - length m.front) m.back y r → Judged (λ i. and_then (P i) Q) k p y r
  by_second k p y r m e (reads a) = reads (ap (λ i. and_then (P i) Q) (joined k p y r m) ∙ ap (λ o. and_then o Q) e ∙ a)
  by_second k p y r m e (falls q t n a less b) = falls (m.front ++ q) t n
      (m.whole ∙ ap (λ z. m.front ++ z) a ∙ sym (append_assoc m.front q (t ∷ n)))
      (omega (arith, length-append m.front q))
      (ap (λ i. and_then (P i) Q) (joined k p y r m) ∙ ap (λ o. and_then o Q) e ∙ b)

  by_first : (k : ℕ) (p : Input) (y : Y) (r : Input) (m : Both R S k p y) → U r → Judged P k m.front m.value (m.back ++ r) → Judged (λ i. and_then (P i) Q) k p y r
  by_first k p y r m h (reads e) = by_second k p y r m e ((g m.value).judge (k - length m.front) m.back y r m.second h)
  by_first k p y r m h (falls q t n a less b) = falls q t (n ++ m.back)
      (m.whole ∙ ap (λ z. z ++ m.back) a ∙ append_assoc q (t ∷ n) m.back)
      less
      (ap (λ i. and_then (P i) Q) (joined k p y r m) ∙ ap (λ o. and_then o Q) b ∙ ap (λ z. Err (t ∷ z)) (sym (append_assoc n m.back r)))

-- a symbol that a condition may forbid
pub follows_the_if : (allowed : Bool) (t : Symbol) → ((s : Symbol) → class_of s ≡ class_of t → s ≡ t) → Follows (the_if allowed t) (expect_if allowed (class_of t)) (First (t ∷ [])) Anything
unfolding expect_if
follows_the_if allowed t only = record {
  good = good_expect_if allowed (class_of t) t only refl;
  begins = (t ∷ [], tt, (refl, λ h. absurd (omega arith)));
  judge = λ k p x r m h. by_case k p x r m allowed refl;
  heads = λ k p x r m h. subst (λ q. First (t ∷ []) (q ++ r)) (sym m.0) (inl refl);
} where
  seen : (r : Input) → expect_if allowed (class_of t) (t ∷ r) ≡ cond allowed (Ok (tt, r)) (Err (t ∷ r))
  seen r = ap (λ b. cond b (cond allowed (Ok (tt, r)) (Err (t ∷ r))) (Err (t ∷ r))) (sees_it t r)

  by_case : (k : ℕ) (p : Input) (x : Unit {0}) (r : Input) → the_if allowed t k p x → (a : Bool) → allowed ≡ a → Judged (expect_if allowed (class_of t)) k p x r
  by_case k p x r m true e = reads (ap (λ q. expect_if allowed (class_of t) (q ++ r)) m.0 ∙ seen r ∙ ap (λ b. cond b (Ok (tt, r)) (Err (t ∷ r))) e)
  by_case k p x r m false e = falls [] t [] m.0 (none k m.1) (ap (λ q. expect_if allowed (class_of t) (q ++ r)) m.0 ∙ seen r ∙ ap (λ b. cond b (Ok (tt, r)) (Err (t ∷ r))) e) where
    none : (k : ℕ) → (0 < k → allowed ≡ true) → k ≤ 0
    none zero f = omega arith
    none (suc k) f = absurd (apart e (f (omega arith))) where
      apart : allowed ≡ false → allowed ≡ true → ⊥
      apart a b = cc

pub follows_the : (t : Symbol) → ((s : Symbol) → class_of s ≡ class_of t → s ≡ t) → Follows (the t) (expect_if true (class_of t)) (First (t ∷ [])) Anything
follows_the t only = follows_as (λ k p x m. m.0) (λ k p x m. (m, λ h. refl)) (λ j. refl) (follows_the_if true t only)

-- by a symbol that comes next or not
pub follows_eat : {X : Type 0} {R S : Rule X} {H G U T : Input → Type 0} (P : Bool → Reader X) (t : Symbol) → ((s : Symbol) → class_of s ≡ class_of t → s ≡ t)
    → Follows R (P true) H T → Follows S (P false) G T → ((i : Input) → G i → sees (class_of t) i ≡ false) → ((i : Input) → U (t ∷ i)) → ((i : Input) → G i → U i)
    → Follows (Both (the t) (λ _. R) or S) (λ j. and_then (eat (class_of t) j) P) U T
unfolding after
follows_eat {X} {R} {S} {H} {G} {U} {T} P t only f g apart first second = record {
  good = good_eat (class_of t) R S (Both (the t) (λ _. R) or S) P with_symbol (λ k ts x m. inr m) f.good g.good;
  begins = (g.begins.0, g.begins.1, inr g.begins.2);
  judge = by_side;
  heads = heads_side;
} where
  with_symbol : (s : Symbol) (k : ℕ) (ts : Input) (x : X) → class_of s ≡ class_of t → R (k - 1) ts x → (Both (the t) (λ _. R) or S) k (s ∷ ts) x
  with_symbol s k ts x e m = inl (record { value = tt; front = t ∷ []; back = ts; whole = ap (λ z. z ∷ ts) (only s e); first = refl; second = m })

  heads_side : (k : ℕ) (p : Input) (x : X) (r : Input) → (Both (the t) (λ _. R) or S) k p x → T r → U (p ++ r)
  heads_side k p x r (inl m) h = subst (λ q. U (q ++ r)) (sym (m.whole ∙ ap (λ z. z ++ m.back) m.first)) (first (m.back ++ r))
  heads_side k p x r (inr m) h = second (p ++ r) (g.heads k p x r m h)

  bound : Reader X
  bound j = and_then (eat (class_of t) j) P

  there : (j : Input) → and_then (eat (class_of t) (t ∷ j)) P ≡ P true j
  there j = ap (λ b. P b (cond b j (t ∷ j))) (sees_it t j)

  not_there : (j : Input) → sees (class_of t) j ≡ false → and_then (eat (class_of t) j) P ≡ P false j
  not_there j e = ap (λ b. P b (cond b (behind j) j)) e

  by_first : (k : ℕ) (p : Input) (x : X) (r q : Input) → p ≡ t ∷ q → Judged (P true) (k - 1) q x r → Judged (λ j. and_then (eat (class_of t) j) P) k p x r
  by_first k p x r q e (reads a) = reads (ap (λ z. and_then (eat (class_of t) (z ++ r)) P) e ∙ there (q ++ r) ∙ a)
  by_first k p x r q e (falls d s m a less b) = falls (t ∷ d) s m (e ∙ ap (λ z. t ∷ z) a) (omega arith) (ap (λ z. and_then (eat (class_of t) (z ++ r)) P) e ∙ there (q ++ r) ∙ b)

  by_second : (k : ℕ) (p : Input) (x : X) (r : Input) → sees (class_of t) (p ++ r) ≡ false → Judged (P false) k p x r → Judged (λ j. and_then (eat (class_of t) j) P) k p x r
  by_second k p x r e (reads a) = reads (not_there (p ++ r) e ∙ a)
  by_second k p x r e (falls d s m a less b) = falls d s m a less (not_there (p ++ r) e ∙ b)

  by_side : (k : ℕ) (p : Input) (x : X) (r : Input) → (Both (the t) (λ _. R) or S) k p x → T r → Judged (λ j. and_then (eat (class_of t) j) P) k p x r
  by_side k p x r (inl m) h =
      let one : length m.front ≡ 1 = ap length m.first in
      by_first k p x r m.back (m.whole ∙ ap (λ z. z ++ m.back) m.first) (f.judge (k - 1) m.back x r (subst (λ n. R (k - n) m.back x) one m.second) h)
  by_side k p x r (inr m) h = by_second k p x r (apart (p ++ r) (g.heads k p x r m h)) (g.judge k p x r m h)

-- a symbol of a kind that is taken where it meets a condition
pub follows_one : {X : Type 0} {R : Rule X} {P : Reader X} (F : Symbol → Type 0) → ((i : Input) → Good R P i) → Begins R
    → ((k : ℕ) (p : Input) (x : X) → R k p x → (s : Symbol) × (p ≡ s ∷ []) × F s × (((r : Input) → P (s ∷ r) ≡ Ok (x, r)) ⊎ ((k ≤ 0) × ((r : Input) → P (s ∷ r) ≡ Err (s ∷ r)))))
    → Follows R P (Starting F) Anything
follows_one {X} {R} {P} F good begins one = record {
  good = good;
  begins = begins;
  judge = λ k p x r m h. by_case k p x r (one k p x m);
  heads = λ k p x r m h. let o = one k p x m in subst (λ q. Starting F (q ++ r)) (sym o.1) o.2;
} where
  by_case : (k : ℕ) (p : Input) (x : X) (r : Input) → (s : Symbol) × (p ≡ s ∷ []) × F s × (((r : Input) → P (s ∷ r) ≡ Ok (x, r)) ⊎ ((k ≤ 0) × ((r : Input) → P (s ∷ r) ≡ Err (s ∷ r)))) → Judged P k p x r
  by_case k p x r (s, e, f, inl g) = reads (ap (λ q. P (q ++ r)) e ∙ g r)
  by_case k p x r (s, e, f, inr g) = falls [] s [] e g.0 (ap (λ q. P (q ++ r)) e ∙ g.1 r)

-- by a test on what comes next
module _ {X : Type 0} (test : Input → Bool) (same : (i j : Input) → SameHead i j → test i ≡ test j) (P Q : Reader X) where
  abbrev chosen : Reader X
  chosen = λ i. cond (test i) (P i) (Q i)

  chosen_runs : {i r : Input} {out : Input → Outcome X} (b : Bool) → test i ≡ b → Runs (λ j. cond b (P j) (Q j)) i out r → Runs chosen i out r
  chosen_runs {i} {r} {out} b t u = record {
    taken = u.taken;
    whole = u.whole;
    again = λ q s.
        ap (λ d. cond d (P (u.taken ++ q)) (Q (u.taken ++ q)))
        (same (u.taken ++ q) (u.taken ++ r) (SameHead-append u.taken q r (SameHead-sym r q s)) ∙ ap test (sym u.whole) ∙ t)
        ∙ u.again q s;
  }

  good_chosen : (R S : Rule X) → ((i : Input) → Good R P i) → ((i : Input) → Good S Q i) → (i : Input) → Good (R or S) chosen i
  unfolding chosen_runs
  good_chosen R S first second i = by_test (test i) refl where
    by_first : test i ≡ true → Good R P i → Good (R or S) chosen i
    by_first t (takes x r u h) = takes x r (chosen_runs true t u) (λ k. inl (h k))
    by_first t (stops r u more x h) = stops r (chosen_runs true t u) more x (inl h)

    by_second : test i ≡ false → Good S Q i → Good (R or S) chosen i
    by_second t (takes x r u h) = takes x r (chosen_runs false t u) (λ k. inr (h k))
    by_second t (stops r u more x h) = stops r (chosen_runs false t u) more x (inr h)

    by_test : (b : Bool) → test i ≡ b → Good (R or S) chosen i
    by_test true t = by_first t (first i)
    by_test false t = by_second t (second i)

  pub follows_choice : {R S : Rule X} {H G U T : Input → Type 0} → Follows R P H T → Follows S Q G T → ((i : Input) → H i → test i ≡ true) → ((i : Input) → G i → test i ≡ false)
      → ((i : Input) → H i → U i) → ((i : Input) → G i → U i) → Follows (R or S) (λ j. cond (test j) (P j) (Q j)) U T
  follows_choice {R} {S} {H} {G} {U} {T} f g passes other first second = record {
    good = good_chosen R S f.good g.good;
    begins = (f.begins.0, f.begins.1, inl f.begins.2);
    judge = by_side;
    heads = heads_side;
  } where
    heads_side : (k : ℕ) (p : Input) (x : X) (r : Input) → (R or S) k p x → T r → U (p ++ r)
    heads_side k p x r (inl m) h = first (p ++ r) (f.heads k p x r m h)
    heads_side k p x r (inr m) h = second (p ++ r) (g.heads k p x r m h)

    by_first : (k : ℕ) (p : Input) (x : X) (r : Input) → test (p ++ r) ≡ true → Judged P k p x r → Judged (λ j. cond (test j) (P j) (Q j)) k p x r
    by_first k p x r t (reads e) = reads (ap (λ b. cond b (P (p ++ r)) (Q (p ++ r))) t ∙ e)
    by_first k p x r t (falls q d m a less e) = falls q d m a less (ap (λ b. cond b (P (p ++ r)) (Q (p ++ r))) t ∙ e)

    by_second : (k : ℕ) (p : Input) (x : X) (r : Input) → test (p ++ r) ≡ false → Judged Q k p x r → Judged (λ j. cond (test j) (P j) (Q j)) k p x r
    by_second k p x r t (reads e) = reads (ap (λ b. cond b (P (p ++ r)) (Q (p ++ r))) t ∙ e)
    by_second k p x r t (falls q d m a less e) = falls q d m a less (ap (λ b. cond b (P (p ++ r)) (Q (p ++ r))) t ∙ e)

    by_side : (k : ℕ) (p : Input) (x : X) (r : Input) → (R or S) k p x → T r → Judged (λ j. cond (test j) (P j) (Q j)) k p x r
    by_side k p x r (inl m) h = by_first k p x r (passes (p ++ r) (f.heads k p x r m h)) (f.judge k p x r m h)
    by_side k p x r (inr m) h = by_second k p x r (other (p ++ r) (g.heads k p x r m h)) (g.judge k p x r m h)
