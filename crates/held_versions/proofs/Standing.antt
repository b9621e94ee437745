-- For the proofs: a tree stays where its pages do.
use Rattle.std.proofs.Common.{◌≡◌, ℕ, zero, suc, Bool, true, false, cond, List, [], ◌∷◌, ◌++◌, Option, Some, None, refl, sym, ap, subst, ◌∙◌}
use Rattle.std.specs.Prelude.{Contains}
use Rattle.std.specs.List.{AllByRecursion}
use Rattle.std.proofs.lemmas.List.Elements.{All-from_recursion, All-contains}
use Rattle.page_image.specs.Image.{Image}
use Rattle.page_view.specs.Inner.{InnerItem}
use Rattle.bplus_tree.specs.Tree.{IsInnerPage, IsLeafPage, Linked, Parts, Stands, Tree, is_leaf, leaves_of}
use Rattle.bplus_tree.proofs.Order.{all_map, all_join, all_left, all_right}
use Rattle.held_versions.specs.Keeping.{KeepsTrees, is_of_tree}

abbrev Child : Type 1
Child = ℕ → Option (List ℕ) → Option (List ℕ) → List (List ℕ) → List ℕ → Type 0

-- ---- the pages of a tree are of trees

parts_all : (C : Child) (P : ℕ → Type 0)
    → ((page : ℕ) (low high : Option (List ℕ)) (items : List (List ℕ)) (nodes : List ℕ)
    → C page low high items nodes → AllByRecursion P nodes)
    → (es : List InnerItem) (low high : Option (List ℕ)) (items : List (List ℕ)) (nodes : List ℕ)
    → Parts C es low high items nodes → AllByRecursion P nodes
parts_all C P f [] low high items nodes h = absurd h
parts_all C P f (e ∷ []) low high items nodes h = f e.child low high items nodes h
parts_all C P f (e ∷ (next ∷ rest)) low high items nodes h =
    subst (AllByRecursion P) (sym h.9)
    (all_join P h.2 h.3 (f e.child low (Some next.key) h.0 h.2 h.4)
    (parts_all C P f (next ∷ rest) (Some next.key) high h.1 h.3 h.7))

abbrev IsOfTree : (ℕ → Image) → ℕ → Type 0
IsOfTree pages q = is_of_tree (pages q).kind ≡ true

nodes_of_tree : (pages : ℕ → Image) (level page : ℕ) (low high : Option (List ℕ))
    (items : List (List ℕ)) (nodes : List ℕ)
    → Stands pages level page low high items nodes → AllByRecursion (IsOfTree pages) nodes
nodes_of_tree pages zero page low high items nodes h =
    subst (AllByRecursion (IsOfTree pages)) (sym h.1) (ap is_of_tree h.0.kind, tt)
nodes_of_tree pages (suc level) page low high items nodes h =
    subst (AllByRecursion (IsOfTree pages)) (sym h.4) (
      ap is_of_tree h.2.kind,
      parts_all (Stands pages level) (IsOfTree pages)
          (λ p l hi its ns s. nodes_of_tree pages level p l hi its ns s) h.0 low high items h.1 h.3,
    )

pub all_of_tree : (pages : ℕ → Image) (root : ℕ) (items : List (List ℕ))
    (tree : Tree pages root items) → AllByRecursion (IsOfTree pages) tree.nodes
all_of_tree pages root items tree =
    nodes_of_tree pages tree.level root None None items tree.nodes tree.stands

pub node_of_tree : (pages : ℕ → Image) (root : ℕ) (items : List (List ℕ))
    (tree : Tree pages root items) (q : ℕ) → Contains tree.nodes q
    → is_of_tree (pages q).kind ≡ true
node_of_tree pages root items tree q member =
    All-contains (IsOfTree pages) tree.nodes q
    (All-from_recursion (IsOfTree pages) tree.nodes (all_of_tree pages root items tree)) member

-- ---- pages that are as they were at the nodes of a tree

abbrev pub SameAt : (ℕ → Image) → (ℕ → Image) → List ℕ → Type 0
SameAt old new nodes = AllByRecursion (λ q. new q ≡ old q) nodes

parts_kept : (C D : Child) (P : ℕ → Type 0)
    → ((page : ℕ) (low high : Option (List ℕ)) (items : List (List ℕ)) (nodes : List ℕ)
    → AllByRecursion P nodes → C page low high items nodes → D page low high items nodes)
    → (es : List InnerItem) (low high : Option (List ℕ)) (items : List (List ℕ)) (nodes : List ℕ)
    → AllByRecursion P nodes → Parts C es low high items nodes → Parts D es low high items nodes
parts_kept C D P f [] low high items nodes all h = absurd h
parts_kept C D P f (e ∷ []) low high items nodes all h = f e.child low high items nodes all h
parts_kept C D P f (e ∷ (next ∷ rest)) low high items nodes all h =
    let both : AllByRecursion P (h.2 ++ h.3) = subst (AllByRecursion P) h.9 all in (
      h.0,
      h.1,
      h.2,
      h.3,
      f e.child low (Some next.key) h.0 h.2 (all_left P h.2 h.3 both) h.4,
      h.5,
      h.6,
      parts_kept C D P f (next ∷ rest) (Some next.key) high h.1 h.3 (all_right P h.2 h.3 both) h.7,
      h.8,
      h.9,
    )

pub stands_same : (old new : ℕ → Image) (level page : ℕ) (low high : Option (List ℕ))
    (items : List (List ℕ)) (nodes : List ℕ) → SameAt old new nodes
    → Stands old level page low high items nodes → Stands new level page low high items nodes
stands_same old new zero page low high items nodes same h =
    let here : SameAt old new (page ∷ []) = subst (SameAt old new) h.1 same in
    (subst (λ (i : Image). IsLeafPage i page low high items) (sym here.0) h.0, h.1)
stands_same old new (suc level) page low high items nodes same h =
    let here : SameAt old new (page ∷ h.1) = subst (SameAt old new) h.4 same in (
      h.0,
      h.1,
      subst (λ (i : Image). IsInnerPage i page (suc level) h.0) (sym here.0) h.2,
      parts_kept (Stands old level) (Stands new level) (λ q. new q ≡ old q)
          (λ p l hi its ns all s. stands_same old new level p l hi its ns all s)
          h.0 low high items h.1 here.1 h.3,
      h.4,
    )

kept_by : (p q : Bool) (x : ℕ) (xs ys : List ℕ) → p ≡ q → xs ≡ ys
    → cond p (x ∷ xs) xs ≡ cond q (x ∷ ys) ys
kept_by p q x xs ys e f =
    ap (λ (b : Bool). cond b (x ∷ xs) xs) e ∙ ap (λ (l : List ℕ). cond q (x ∷ l) l) f

leaves_same : (old new : ℕ → Image) (nodes : List ℕ) → SameAt old new nodes
    → leaves_of new nodes ≡ leaves_of old nodes
leaves_same old new [] same = refl
leaves_same old new (q ∷ qs) same =
    kept_by (is_leaf (new q).kind) (is_leaf (old q).kind) q (leaves_of new qs) (leaves_of old qs)
    (ap (λ (i : Image). is_leaf i.kind) same.0) (leaves_same old new qs same.1)

kept_all : (P : ℕ → Type 0) (b : Bool) (x : ℕ) (xs : List ℕ) → P x → AllByRecursion P xs
    → AllByRecursion P (cond b (x ∷ xs) xs)
kept_all P true x xs h all = (h, all)
kept_all P false x xs h all = all

same_leaves : (old new : ℕ → Image) (nodes : List ℕ) → SameAt old new nodes
    → SameAt old new (leaves_of old nodes)
same_leaves old new [] same = tt
same_leaves old new (q ∷ qs) same =
    kept_all (λ p. new p ≡ old p) (is_leaf (old q).kind) q (leaves_of old qs) same.0
    (same_leaves old new qs same.1)

linked_same : (old new : ℕ → Image) (leaves : List ℕ) → SameAt old new leaves
    → Linked old leaves → Linked new leaves
linked_same old new [] same h = h
linked_same old new (leaf ∷ []) same h = ap (λ (i : Image). i.next) same.0 ∙ h
linked_same old new (leaf ∷ (right ∷ rest)) same h =
    (ap (λ (i : Image). i.next) same.0 ∙ h.0, h.1, linked_same old new (right ∷ rest) same.1 h.2)

pub tree_links : (old new : ℕ → Image) (nodes : List ℕ) → SameAt old new nodes
    → Linked old (leaves_of old nodes) → Linked new (leaves_of new nodes)
tree_links old new nodes same h =
    subst (Linked new) (sym (leaves_same old new nodes same))
    (linked_same old new (leaves_of old nodes) (same_leaves old new nodes same) h)

-- the tree stands, with the same nodes
abbrev pub kept_tree : (old new : ℕ → Image) (root : ℕ) (items : List (List ℕ))
    (tree : Tree old root items) → SameAt old new tree.nodes → Tree new root items
kept_tree old new root items tree same = record {
  level = tree.level;
  nodes = tree.nodes;
  low_enough = tree.low_enough;
  stands = stands_same old new tree.level root None None items tree.nodes same tree.stands;
  linked = tree_links old new tree.nodes same tree.linked;
  apart = tree.apart;
}

pub same_at : (old new : ℕ → Image) → KeepsTrees old new → (root : ℕ) (items : List (List ℕ))
    (tree : Tree old root items) → SameAt old new tree.nodes
same_at old new keeps root items tree =
    all_map (IsOfTree old) (λ q. new q ≡ old q) tree.nodes keeps (all_of_tree old root items tree)
