-- The pages of a tree: their numbers and kinds, and the links of its leaves.
use Rattle.std.proofs.Common.{◌≡◌, ◌≢◌, ℕ, zero, suc, false, eqb, List, [], ◌∷◌, ◌++◌, Option, Some, sym, ap, subst, ◌∙◌, inl, inr}
use Rattle.std.specs.Prelude.{◌⊎◌, nat_eq}
use Rattle.std.specs.List.{AllByRecursion, IsDistinct}
use Rattle.std.proofs.lemmas.Bool.{eqb-false}
use Rattle.std.proofs.lemmas.List.Elements.{filter_agree}
use Rattle.std.proofs.lemmas.Map.Keys.{IsDistinct-head, IsDistinct-tail}
use Rattle.page_image.specs.declared.kind.Kind.TheVariants.{Leaf, Inner}
use Rattle.page_image.specs.Image.{Image}
use Rattle.page_view.specs.Inner.{InnerItem}
use Rattle.bplus_tree.specs.Tree.{IsLeafPage, IsInnerPage, Parts, Stands, is_leaf, leaves_of, Linked}
use Rattle.tree_change.proofs.ListLaws.{all_back, all_join, all_weaker}
use Rattle.tree_change.proofs.PartLaws.{Child}
use Rattle.tree_change.proofs.SpotLaws.{SameAt}

pub parts_all : (C : Child) (P : ℕ → Type 0)
    → ((page : ℕ) (low high : Option (List ℕ)) (items : List (List ℕ)) (nodes : List ℕ) → C page low high items nodes → AllByRecursion P nodes)
    → (es : List InnerItem) (low high : Option (List ℕ)) (items : List (List ℕ)) (nodes : List ℕ) → Parts C es low high items nodes → AllByRecursion P nodes
parts_all C P each [] low high items nodes p = absurd p
parts_all C P each (e ∷ []) low high items nodes p = each e.child low high items nodes p
parts_all C P each (e ∷ (next ∷ rest)) low high items nodes p =
    subst (AllByRecursion P) (sym p.9)
    (all_join P p.2 p.3 (each e.child low (Some next.key) p.0 p.2 p.4) (parts_all C P each (next ∷ rest) (Some next.key) high p.1 p.3 p.7))

-- what holds of each leaf and each inner page holds of each page of the tree
pub stands_all : (pages : ℕ → Image) (P : ℕ → Type 0)
    → ((q : ℕ) (low high : Option (List ℕ)) (items : List (List ℕ)) → IsLeafPage (pages q) q low high items → P q)
    → ((q level : ℕ) (es : List InnerItem) → IsInnerPage (pages q) q level es → P q)
    → (level page : ℕ) (low high : Option (List ℕ)) (items : List (List ℕ)) (nodes : List ℕ) → Stands pages level page low high items nodes → AllByRecursion P nodes
stands_all pages P leaf inner zero page low high items nodes h =
    subst (AllByRecursion P) (sym h.1) (leaf page low high items h.0, tt)
stands_all pages P leaf inner (suc level) page low high items nodes h =
    subst (AllByRecursion P) (sym h.4) (
      inner page (suc level) h.0 h.2,
      parts_all (Stands pages level) P (λ p l hi its ns c. stands_all pages P leaf inner level p l hi its ns c) h.0 low high items h.1 h.3,
    )

-- a page of a tree has its number, and is a leaf or an inner page
pub record IsNode (pages : ℕ → Image) (q : ℕ) : Type 0 where
  pub number : (pages q).page ≡ q
  pub kind : ((pages q).kind ≡ Leaf) ⊎ ((pages q).kind ≡ Inner)

pub stands_nodes : (pages : ℕ → Image) (level page : ℕ) (low high : Option (List ℕ)) (items : List (List ℕ)) (nodes : List ℕ)
    → Stands pages level page low high items nodes → AllByRecursion (IsNode pages) nodes
stands_nodes pages level page low high items nodes h =
    stands_all pages (IsNode pages)
    (λ q low high items p. record { number = p.number; kind = inl p.kind }) (λ q level es p. record { number = p.number; kind = inr p.kind })
    level page low high items nodes h

-- ---- pages that differ

-- none of the numbers is this one
abbrev pub Without : ℕ → List ℕ → Type 0
Without page nodes = AllByRecursion (λ q. q ≢ page) nodes

pub distinct_front : (left : List ℕ) (page : ℕ) (rest : List ℕ) → IsDistinct nat_eq (left ++ (page ∷ rest)) → Without page left
distinct_front [] page rest d = tt
distinct_front (q ∷ left) page rest d =
    let h = all_back (λ y. eqb q y ≡ false) left (page ∷ rest) (IsDistinct-head eqb q (left ++ (page ∷ rest)) d) in
    (eqb-false q page h.0, distinct_front left page rest (IsDistinct-tail eqb q (left ++ (page ∷ rest)) d))

pub distinct_back : (left : List ℕ) (page : ℕ) (rest : List ℕ) → IsDistinct nat_eq (left ++ (page ∷ rest)) → Without page rest
distinct_back [] page rest d =
    all_weaker (λ y. eqb page y ≡ false) (λ q. q ≢ page) (λ y h e. eqb-false page y h (sym e)) rest (IsDistinct-head eqb page rest d)
distinct_back (q ∷ left) page rest d = distinct_back left page rest (IsDistinct-tail eqb q (left ++ (page ∷ rest)) d)

-- pages that only differ at one page are the same at other pages of a tree
pub same_without : (pages others : ℕ → Image) (page : ℕ) → ((q : ℕ) → (pages q).page ≢ page → others q ≡ pages q)
    → (nodes : List ℕ) → AllByRecursion (IsNode pages) nodes → Without page nodes → SameAt pages others nodes
same_without pages others page same [] all w = tt
same_without pages others page same (q ∷ nodes) all w = (
  same q (λ e. w.0 (sym all.0.number ∙ e)),
  same_without pages others page same nodes all.1 w.1,
)

-- ---- the links of leaves

pub leaves_same : (pages others : ℕ → Image) → ((q : ℕ) → (others q).kind ≡ (pages q).kind) → (nodes : List ℕ) → leaves_of others nodes ≡ leaves_of pages nodes
leaves_same pages others kinds nodes =
    filter_agree (λ q. is_leaf (others q).kind) (λ q. is_leaf (pages q).kind) (λ q. ap is_leaf (kinds q)) nodes

pub linked_same : (pages others : ℕ → Image) → ((q : ℕ) → (others q).next ≡ (pages q).next) → (leaves : List ℕ) → Linked pages leaves → Linked others leaves
linked_same pages others nexts [] l = l
linked_same pages others nexts (leaf ∷ []) l = nexts leaf ∙ l
linked_same pages others nexts (leaf ∷ (right ∷ rest)) l = (nexts leaf ∙ l.0, l.1, linked_same pages others nexts (right ∷ rest) l.2)
