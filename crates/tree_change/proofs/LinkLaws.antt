-- The pages of a tree with one page more, and its leaves' links.
use Rattle.std.proofs.Common.{◌≡◌, ◌≢◌, ◌<◌, ℕ, Bool, false, cond, eqb, List, [], ◌∷◌, ◌++◌, refl, sym, ap, ◌∙◌}
use Rattle.std.specs.Prelude.{filter, nat_eq}
use Rattle.std.specs.List.{AllByRecursion, IsDistinct}
use Rattle.std.proofs.lemmas.Bool.{ne_eqb}
use Rattle.std.proofs.lemmas.Map.Keys.{IsDistinct-head, IsDistinct-tail, IsDistinct-cons}
use Rattle.page_image.specs.Image.{Image}
use Rattle.bplus_tree.specs.Tree.{Linked}
use Rattle.tree_change.proofs.ListLaws.{all_front, all_back, all_join, all_weaker}
use Rattle.tree_change.proofs.NodeLaws.{Without}

pub distinct_more : (xs ys : List ℕ) (new : ℕ) → IsDistinct nat_eq (xs ++ ys) → Without new (xs ++ ys) → IsDistinct nat_eq (xs ++ (new ∷ ys))
distinct_more [] ys new d w =
    IsDistinct-cons eqb new ys (all_weaker (λ q. q ≢ new) (λ q. eqb new q ≡ false) (λ q h. ne_eqb new q (λ e. h (sym e))) ys w) d
distinct_more (x ∷ xs) ys new d w =
    let head = IsDistinct-head eqb x (xs ++ ys) d in
    let E = λ (q : ℕ). eqb x q ≡ false in
    IsDistinct-cons eqb x (xs ++ (new ∷ ys))
    (all_join E xs (new ∷ ys) (all_front E xs ys head) (ne_eqb x new w.0, all_back E xs ys head))
    (distinct_more xs ys new (IsDistinct-tail eqb x (xs ++ ys) d) w.1)

-- tests that agree on a list keep the same of it
pub filter_same : (p q : ℕ → Bool) (xs : List ℕ) → AllByRecursion (λ x. p x ≡ q x) xs → filter p xs ≡ filter q xs
filter_same p q [] h = refl
filter_same p q (x ∷ xs) h =
    let first : p x ≡ q x = h.0 in
    rw first (ap (λ (l : List ℕ). cond (q x) (x ∷ l) l) (filter_same p q xs h.1))

-- the same links at some leaves
abbrev pub SameNext : (ℕ → Image) → (ℕ → Image) → List ℕ → Type 0
SameNext pages others leaves = AllByRecursion (λ q. (others q).next ≡ (pages q).next) leaves

pub linked_on_same : (pages others : ℕ → Image) (leaves : List ℕ) → SameNext pages others leaves → Linked pages leaves → Linked others leaves
linked_on_same pages others [] s l = l
linked_on_same pages others (leaf ∷ []) s l = s.0 ∙ l
linked_on_same pages others (leaf ∷ (right ∷ rest)) s l = (s.0 ∙ l.0, l.1, linked_on_same pages others (right ∷ rest) s.1 l.2)

-- a new leaf behind one of the leaves
pub linked_more : (pages others : ℕ → Image) (a : List ℕ) (leaf new : ℕ) (b : List ℕ) → Linked pages (a ++ (leaf ∷ b))
    → (others leaf).next ≡ new → 0 < new → (others new).next ≡ (pages leaf).next → SameNext pages others a → SameNext pages others b
    → Linked others (a ++ (leaf ∷ (new ∷ b)))
linked_more pages others [] leaf new [] l n some e sa sb = (n, some, e ∙ l)
linked_more pages others [] leaf new (r ∷ rest) l n some e sa sb = (n, some, (e ∙ l.0, l.1, linked_on_same pages others (r ∷ rest) sb l.2))
linked_more pages others (x ∷ []) leaf new b l n some e sa sb = (sa.0 ∙ l.0, l.1, linked_more pages others [] leaf new b l.2 n some e tt sb)
linked_more pages others (x ∷ (y ∷ a)) leaf new b l n some e sa sb =
    (sa.0 ∙ l.0, l.1, linked_more pages others (y ∷ a) leaf new b l.2 n some e sa.1 sb)
