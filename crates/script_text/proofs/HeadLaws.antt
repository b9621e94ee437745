-- For the proofs: a first line is read as the shape that it says.
use Rattle.std.proofs.Common.{◌≡◌, ℕ, ◌≤◌, Bool, true, false, ◌&&◌, cond, nat_le, Some, None, List, [], ◌∷◌, codes, refl, ap, ◌∙◌, arith}
use Rattle.std.specs.Option.{option_and_then}
use Rattle.std.proofs.lemmas.Bool.Decides.{nat_tests}
use Rattle.cluster_model.specs.Limits.{IsInLimits}
use Rattle.cluster_model.specs.declared.shape.Shape.{Shape}
use Rattle.script_text.specs.Words.{is}
use Rattle.script_text.specs.Numbers.{number_of}
use Rattle.script_text.specs.Grammar.{AreSpelled}
use Rattle.script_text.specs.Heads.{within, are_shape_words, shape_from, shape_of}
use Rattle.script_text.specs.Scripts.{shape_pieces}
use Rattle.script_text.proofs.NumberLaws.{both}
use Rattle.script_text.proofs.Found.{OnFound, on-none, on-some, found, is-text, mapped, weaker}

-- a number within the bounds
within-is : (w : List ℕ) (low high : ℕ) → OnFound (λ n. (number_of w ≡ Some n) × (low ≤ n) × (n ≤ high)) (within w low high)
unfolding within
within-is w low high =
    let P : ℕ → Type 0 = λ n. (number_of w ≡ Some n) × (low ≤ n) × (n ≤ high) in
    mapped P (λ n. number_of w ≡ Some n) (number_of w) _ (found (number_of w)) (λ n e. by_tests P n e (nat_le low n) (nat_le n high) refl refl) where
      by_tests : (P : ℕ → Type 0) (n : ℕ) → number_of w ≡ Some n → (a b : Bool) → nat_le low n ≡ a → nat_le n high ≡ b → OnFound (λ n. (number_of w ≡ Some n) × (low ≤ n) × (n ≤ high)) (cond (a && b) (Some n) None)
      by_tests P n e true true s t = on-some _ n (e, grind (arith, nat_tests), grind (arith, nat_tests))
      by_tests P n e true false s t = on-none _
      by_tests P n e false b s t = on-none _

within-some : (w : List ℕ) (low high n : ℕ) → number_of w ≡ Some n → low ≤ n → n ≤ high → within w low high ≡ Some n
unfolding within
within-some w low high n e a b =
    let s : nat_le low n ≡ true = grind (arith, nat_tests) in
    let t : nat_le n high ≡ true = grind (arith, nat_tests) in
    ap (option_and_then (λ m. cond (nat_le low m && nat_le m high) (Some m) None)) e
    ∙ ap (λ (p : Bool). cond (p && nat_le n high) (Some n) None) s ∙ ap (λ (p : Bool). cond p (Some n) None) t

-- the numbers of a first line
abbrev Numbers : List ℕ → List ℕ → List ℕ → List ℕ → Shape → Type 0
Numbers n k m c s = (number_of n ≡ Some s.nodes) × (number_of k ≡ Some s.slabs) × (number_of m ≡ Some s.slots) × (number_of c ≡ Some s.cache) × IsInLimits s

shape_from-is : (n k m c : List ℕ) → OnFound (Numbers n k m c) (shape_from n k m c)
unfolding shape_from
shape_from-is n k m c =
    let P : Shape → Type 0 = Numbers n k m c in
    mapped P (λ x. (number_of n ≡ Some x) × (1 ≤ x) × (x ≤ 16)) (within n 1 16) _ (within-is n 1 16) (λ x e.
    mapped P (λ y. (number_of k ≡ Some y) × (1 ≤ y) × (y ≤ 16)) (within k 1 16) _ (within-is k 1 16) (λ y f.
    mapped P (λ z. (number_of m ≡ Some z) × (8 ≤ z) × (z ≤ 4096)) (within m 8 4096) _ (within-is m 8 4096) (λ z g.
    mapped P (λ w. (number_of c ≡ Some w) × (16 ≤ w) × (w ≤ 1024)) (within c 16 1024) _ (within-is c 16 1024) (λ w h.
    on-some P (record { nodes = x; slabs = y; slots = z; cache = w }) (e.0, f.0, g.0, h.0, (e.1, e.2, f.1, f.2, g.1, g.2, h.1, h.2))))))

shape_from-some : (n k m c : List ℕ) (s : Shape) → Numbers n k m c s → shape_from n k m c ≡ Some s
unfolding shape_from
shape_from-some n k m c s h =
    ap (option_and_then (λ x. option_and_then (λ y. option_and_then (λ z. option_and_then (λ w. Some (record { nodes = x; slabs = y; slots = z; cache = w })) (within c 16 1024)) (within m 8 4096)) (within k 1 16))) (within-some n 1 16 s.nodes h.0 h.4.0 h.4.1)
    ∙ ap (option_and_then (λ y. option_and_then (λ z. option_and_then (λ w. Some (record { nodes = s.nodes; slabs = y; slots = z; cache = w })) (within c 16 1024)) (within m 8 4096))) (within-some k 1 16 s.slabs h.1 h.4.2 h.4.3)
    ∙ ap (option_and_then (λ z. option_and_then (λ w. Some (record { nodes = s.nodes; slabs = s.slabs; slots = z; cache = w })) (within c 16 1024))) (within-some m 8 4096 s.slots h.2 h.4.4 h.4.5)
    ∙ ap (option_and_then (λ w. Some (record { nodes = s.nodes; slabs = s.slabs; slots = s.slots; cache = w }))) (within-some c 16 1024 s.cache h.3 h.4.6 h.4.7)

-- the words of a first line
abbrev AreWords : List ℕ → List ℕ → List ℕ → List ℕ → List ℕ → Type 0
AreWords a b d f i = (a ≡ codes "cluster") × (b ≡ codes "nodes") × (d ≡ codes "slabs") × (f ≡ codes "slots") × (i ≡ codes "cache")

words-are : (a b d f i : List ℕ) → are_shape_words a b d f i ≡ true → AreWords a b d f i
unfolding are_shape_words
words-are a b d f i h =
    let t = both (is a (codes "cluster")) (is b (codes "nodes") && (is d (codes "slabs") && (is f (codes "slots") && is i (codes "cache")))) h in
    let u = both (is b (codes "nodes")) (is d (codes "slabs") && (is f (codes "slots") && is i (codes "cache"))) t.1 in
    let v = both (is d (codes "slabs")) (is f (codes "slots") && is i (codes "cache")) u.1 in
    let w = both (is f (codes "slots")) (is i (codes "cache")) v.1 in
    (is-text a (codes "cluster") t.0, is-text b (codes "nodes") u.0, is-text d (codes "slabs") v.0, is-text f (codes "slots") w.0, is-text i (codes "cache") w.1)

words-test : (a b d f i : List ℕ) → AreWords a b d f i → are_shape_words a b d f i ≡ true
unfolding are_shape_words
words-test a b d f i h =
    ap (λ (x : List ℕ). are_shape_words x b d f i) h.0 ∙ ap (λ (x : List ℕ). are_shape_words (codes "cluster") x d f i) h.1
    ∙ ap (λ (x : List ℕ). are_shape_words (codes "cluster") (codes "nodes") x f i) h.2
    ∙ ap (λ (x : List ℕ). are_shape_words (codes "cluster") (codes "nodes") (codes "slabs") x i) h.3
    ∙ ap (λ (x : List ℕ). are_shape_words (codes "cluster") (codes "nodes") (codes "slabs") (codes "slots") x) h.4

-- what the words say of a shape
abbrev pub SaysShape : List (List ℕ) → Shape → Type 0
SaysShape ws s = AreSpelled (shape_pieces s) ws × IsInLimits s

nine : (a b c d e f g i j : List ℕ) → OnFound (SaysShape (a ∷ b ∷ c ∷ d ∷ e ∷ f ∷ g ∷ i ∷ j ∷ [])) (cond (are_shape_words a b d f i) (shape_from c e g j) None)
nine a b c d e f g i j = by_test (are_shape_words a b d f i) refl where
  by_test : (t : Bool) → are_shape_words a b d f i ≡ t → OnFound (SaysShape (a ∷ b ∷ c ∷ d ∷ e ∷ f ∷ g ∷ i ∷ j ∷ [])) (cond t (shape_from c e g j) None)
  by_test true h =
      let w = words-are a b d f i h in
      weaker (Numbers c e g j) (SaysShape (a ∷ b ∷ c ∷ d ∷ e ∷ f ∷ g ∷ i ∷ j ∷ [])) (shape_from c e g j)
      (λ s q. ((w.0, (w.1, (q.0, (w.2, (q.1, (w.3, (q.2, (w.4, (q.3, tt))))))))), q.4)) (shape_from-is c e g j)
  by_test false h = on-none (SaysShape (a ∷ b ∷ c ∷ d ∷ e ∷ f ∷ g ∷ i ∷ j ∷ []))

pub shape-sound : (ws : List (List ℕ)) → OnFound (SaysShape ws) (shape_of ws)
shape-sound [] = on-none _
shape-sound (a ∷ []) = on-none _
shape-sound (a ∷ b ∷ []) = on-none _
shape-sound (a ∷ b ∷ c ∷ []) = on-none _
shape-sound (a ∷ b ∷ c ∷ d ∷ []) = on-none _
shape-sound (a ∷ b ∷ c ∷ d ∷ e ∷ []) = on-none _
shape-sound (a ∷ b ∷ c ∷ d ∷ e ∷ f ∷ []) = on-none _
shape-sound (a ∷ b ∷ c ∷ d ∷ e ∷ f ∷ g ∷ []) = on-none _
shape-sound (a ∷ b ∷ c ∷ d ∷ e ∷ f ∷ g ∷ i ∷ []) = on-none _
shape-sound (a ∷ b ∷ c ∷ d ∷ e ∷ f ∷ g ∷ i ∷ j ∷ []) = nine a b c d e f g i j
shape-sound (a ∷ b ∷ c ∷ d ∷ e ∷ f ∷ g ∷ i ∷ j ∷ k ∷ more) = on-none _

pub shape-complete : (s : Shape) (ws : List (List ℕ)) → SaysShape ws s → shape_of ws ≡ Some s
shape-complete s [] h = absurd h.0
shape-complete s (a ∷ []) h = absurd h.0.1
shape-complete s (a ∷ b ∷ []) h = absurd h.0.1.1
shape-complete s (a ∷ b ∷ c ∷ []) h = absurd h.0.1.1.1
shape-complete s (a ∷ b ∷ c ∷ d ∷ []) h = absurd h.0.1.1.1.1
shape-complete s (a ∷ b ∷ c ∷ d ∷ e ∷ []) h = absurd h.0.1.1.1.1.1
shape-complete s (a ∷ b ∷ c ∷ d ∷ e ∷ f ∷ []) h = absurd h.0.1.1.1.1.1.1
shape-complete s (a ∷ b ∷ c ∷ d ∷ e ∷ f ∷ g ∷ []) h = absurd h.0.1.1.1.1.1.1.1
shape-complete s (a ∷ b ∷ c ∷ d ∷ e ∷ f ∷ g ∷ i ∷ []) h = absurd h.0.1.1.1.1.1.1.1.1
shape-complete s (a ∷ b ∷ c ∷ d ∷ e ∷ f ∷ g ∷ i ∷ j ∷ []) h =
    let p = h.0 in
    ap (λ (t : Bool). cond t (shape_from c e g j) None) (words-test a b d f i (p.0, p.1.0, p.1.1.1.0, p.1.1.1.1.1.0, p.1.1.1.1.1.1.1.0))
    ∙ shape_from-some c e g j s (p.1.1.0, p.1.1.1.1.0, p.1.1.1.1.1.1.0, p.1.1.1.1.1.1.1.1.0, h.1)
shape-complete s (a ∷ b ∷ c ∷ d ∷ e ∷ f ∷ g ∷ i ∷ j ∷ k ∷ more) h = absurd h.0.1.1.1.1.1.1.1.1.1
