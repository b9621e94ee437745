-- Lists of items that are read by their rules.
use Rattle.std.proofs.Common.{◌≡◌, ℕ, zero, suc, ◌-◌, ◌≤◌, Bool, true, false, cond, List, [], ◌∷◌, ◌++◌, length, Ok, Err, refl, sym, ◌∙◌, ap, subst, arith, append_assoc, length-append}
use Rattle.sql_words.specs.declared.signs.Sign.TheVariants as s
use Rattle.sql_words.specs.declared.tokens.Class.TheVariants as c
use Rattle.sql_front.specs.Input.{Outcome, Reader, and_then, pure, after, further, listed}
use Rattle.sql_front.specs.Rules.{Rule, nothing, Both, Further, none, another, a_list}
use Rattle.sql_front.specs.Symbols.{Symbol, sign, Input, class_of, sees, behind}
use Rattle.sql_front.proofs.Exact.{Good, weaker, good_pure, good_both, good_eat}
use Rattle.sql_front.proofs.ExprRoom.{good_shrinks}
use Rattle.sql_front.proofs.SymbolFacts.{sign_is}
use Rattle.sql_front.proofs.Stable.{good_bounded}
use Rattle.sql_front.proofs.Follows.{Judged, reads, falls, Follows, sees_it, follows_both}

judged_bounded : {X : Type 0} (F : ℕ → Reader X) (k : ℕ) (p : Input) (x : X) (r : Input) → Judged (F (length (p ++ r))) k p x r → Judged (λ i. F (length i) i) k p x r
judged_bounded F k p x r (reads e) = reads e
judged_bounded F k p x r (falls q t m a less e) = falls q t m a less e

module _ {X : Type 0} (item : List X → Rule X) (P : List X → Reader X) {H T : Input → Type 0} (follows : (before : List X) → Follows (item before) (P before) H T) where
  -- with any bound on how many are read
  good_further : (n : ℕ) (before : List X) (i : Input) → Good (Further item before) (further P n before) i
  unfolding further
  good_further zero before i = weaker (λ k ts x h. subst (λ q. Further item before k q x) (sym h.0) (subst (λ y. Further item before k [] y) h.1 none)) (good_pure before i)
  good_further (suc n) before i =
      good_eat (c.Sign s.Comma) (Both (item before) (λ x. Further item (before ++ x ∷ []))) (nothing before) (Further item before)
      (λ b. cond b (λ j. and_then (P before j) (λ x. further P n (before ++ x ∷ []))) (pure before))
      with_comma without (good_both (item before) (λ x. Further item (before ++ x ∷ [])) (P before) (λ x. further P n (before ++ x ∷ [])) (λ x. ([], before ++ x ∷ [], none)) (follows before).good (λ x. good_further n (before ++ x ∷ [])))
      (good_pure before) i
    where
      with_comma : (t : Symbol) (k : ℕ) (ts : Input) (x : List X) → class_of t ≡ c.Sign s.Comma → Both (item before) (λ x. Further item (before ++ x ∷ [])) (k - 1) ts x → Further item before k (t ∷ ts) x
      with_comma t k ts x e m =
          let less : k - 1 - length m.front ≡ k - suc (length m.front) = omega arith in
          let whole : t ∷ ts ≡ sign s.Comma ∷ m.front ++ m.back = ap (λ q. q ∷ ts) (sign_is s.Comma t e) ∙ ap (λ q. sign s.Comma ∷ q) m.whole in
          subst (λ q. Further item before k q x) (sym whole) (another m.first (subst (λ d. Further item (before ++ m.value ∷ []) d m.back x) less m.second))

      without : (k : ℕ) (ts : Input) (x : List X) → nothing before k ts x → Further item before k ts x
      without k ts x h = subst (λ q. Further item before k q x) (sym h.0) (subst (λ y. Further item before k [] y) h.1 none)

  -- more bounds than symbols make no difference
  further_same : (n m : ℕ) (before : List X) (i : Input) → length i ≤ n → length i ≤ m → further P n before i ≡ further P m before i
  unfolding further after sees
  further_same zero zero before i hn hm = refl
  further_same zero (suc m) before [] hn hm = refl
  further_same zero (suc m) before (t ∷ i) hn hm = absurd (omega arith)
  further_same (suc n) zero before [] hn hm = refl
  further_same (suc n) zero before (t ∷ i) hn hm = absurd (omega arith)
  further_same (suc n) (suc m) before [] hn hm = refl
  further_same (suc n) (suc m) before (t ∷ i) hn hm = by_test (sees (c.Sign s.Comma) (t ∷ i)) (further_same n m) where
    by_item : (z : Outcome X) → P before i ≡ z → ((before : List X) (i : Input) → length i ≤ n → length i ≤ m → further P n before i ≡ further P m before i)
        → and_then z (λ x. further P n (before ++ x ∷ [])) ≡ and_then z (λ x. further P m (before ++ x ∷ []))
    by_item (Ok p) e more =
        let fewer = good_shrinks (item before) (P before) (follows before).good i p.0 p.1 e in
        more (before ++ p.0 ∷ []) p.1 (omega arith) (omega arith)
    by_item (Err q) e more = refl

    by_test : (b : Bool) → ((before : List X) (i : Input) → length i ≤ n → length i ≤ m → further P n before i ≡ further P m before i)
        → cond {A = Reader (List X)} b (λ j. and_then (P before j) (λ x. further P n (before ++ x ∷ []))) (pure before) (cond b i (t ∷ i))
        ≡ cond {A = Reader (List X)} b (λ j. and_then (P before j) (λ x. further P m (before ++ x ∷ []))) (pure before) (cond b i (t ∷ i))
    by_test true more = by_item (P before i) refl more
    by_test false more = refl

  -- a comma goes on with the list, and an item ends there
  module _ {U : Input → Type 0} (within : (r : Input) → U r → T r) (ends : (r : Input) → U r → sees (c.Sign s.Comma) r ≡ false) (comma : (r : Input) → T (sign s.Comma ∷ r)) where
    heads_further : {before xs : List X} {k : ℕ} {p : Input} → Further item before k p xs → (r : Input) → U r → T (p ++ r)
    heads_further none r h = within r h
    heads_further (another {a = a} {b = b} m n) r h = comma ((a ++ b) ++ r)

    pub judge_further : {before xs : List X} {k : ℕ} {p : Input} → Further item before k p xs → (n : ℕ) → length p ≤ n → (r : Input) → U r → Judged (further P n before) k p xs r
    unfolding further after
    judge_further none zero fits r h = reads refl
    judge_further {before} none (suc n) fits r h = reads (ap (λ b. cond {A = Reader (List X)} b (λ j. and_then (P before j) (λ x. further P n (before ++ x ∷ []))) (pure before) (cond b (behind r) r)) (ends r h))
    judge_further (another m k) zero fits r h = absurd (omega arith)
    judge_further {before} {xs} {k} (another {a = a} {b = b} {x = x} m o) (suc n) fits r h =
        by_item ((follows before).judge (k - 1) a x (b ++ r) m (heads_further o r h)) (judge_further o n (omega (arith, length-append a b)) r h)
      where
        seen : (q : Input) → further P (suc n) before (sign s.Comma ∷ q) ≡ and_then (P before q) (λ y. further P n (before ++ y ∷ []))
        seen q = ap (λ d. cond {A = Reader (List X)} d (λ j. and_then (P before j) (λ y. further P n (before ++ y ∷ []))) (pure before) (cond d q (sign s.Comma ∷ q))) (sees_it (sign s.Comma) q)

        start : further P (suc n) before (sign s.Comma ∷ ((a ++ b) ++ r)) ≡ and_then (P before (a ++ (b ++ r))) (λ y. further P n (before ++ y ∷ []))
        start = ap (λ q. further P (suc n) before (sign s.Comma ∷ q)) (append_assoc a b r) ∙ seen (a ++ (b ++ r))

        by_rest : P before (a ++ (b ++ r)) ≡ Ok (x, b ++ r) → Judged (further P n (before ++ x ∷ [])) (k - suc (length a)) b xs r → Judged (further P (suc n) before) k (sign s.Comma ∷ a ++ b) xs r
        by_rest e (reads g) = reads (start ∙ ap (λ z. and_then z (λ y. further P n (before ++ y ∷ []))) e ∙ g)
        by_rest e (falls q t l w less g) = falls (sign s.Comma ∷ a ++ q) t l
            (ap (λ z. sign s.Comma ∷ a ++ z) w ∙ ap (λ z. sign s.Comma ∷ z) (sym (append_assoc a q (t ∷ l))))
            (omega (arith, length-append a q))
            (start ∙ ap (λ z. and_then z (λ y. further P n (before ++ y ∷ []))) e ∙ g)

        by_item : Judged (P before) (k - 1) a x (b ++ r) → Judged (further P n (before ++ x ∷ [])) (k - suc (length a)) b xs r → Judged (further P (suc n) before) k (sign s.Comma ∷ a ++ b) xs r
        by_item (reads e) rest = by_rest e rest
        by_item (falls q t l w less g) rest = falls (sign s.Comma ∷ q) t (l ++ b)
            (ap (λ z. sign s.Comma ∷ z ++ b) w ∙ ap (λ z. sign s.Comma ∷ z) (append_assoc q (t ∷ l) b))
            (omega arith)
            (start ∙ ap (λ z. and_then z (λ y. further P n (before ++ y ∷ []))) g ∙ ap (λ z. Err (t ∷ z)) (sym (append_assoc l b r)))

    follows_further : (before : List X) → Follows (Further item before) (λ i. further P (length i) before i) T U
    follows_further before = record {
      good = good_bounded (Further item before) (λ n. further P n before) (λ n. good_further n before) (λ n m. further_same n m before);
      begins = ([], before, none);
      judge = λ k p x r m h. judged_bounded (λ n. further P n before) k p x r (judge_further m (length (p ++ r)) (omega (arith, length-append p r)) r h);
      heads = λ k p x r m h. heads_further m r h;
    }

    pub follows_list : Follows (a_list item) (listed P) H U
    unfolding listed
    follows_list = follows_both (follows []) (λ x. follows_further (x ∷ [])) (λ r h. h)
