-- For the proofs: the trees after a group.
use Rattle.std.proofs.Common.{◌≡◌, ◌≢◌, ◌≤◌, ◌<◌, ℕ, true, List, [], ◌∷◌, ◌⊎◌, inl, inr, refl, sym, subst, ◌∙◌, arith}
use Rattle.std.specs.Prelude.{Contains}
use Rattle.std.specs.List.{AllByRecursion}
use Rattle.std.proofs.lemmas.Bool.{cases_eq}
use Rattle.std.proofs.lemmas.List.Elements.{Contains-append_right}
use Rattle.bplus_tree.specs.Tree.{Tree}
use Rattle.bplus_tree.proofs.Order.{all_map}
use Rattle.version_store.specs.Stores.{Store, put}
use Rattle.held_versions.specs.Holds.{Holds}
use Rattle.held_versions.specs.Keeping.{grown, is_of_tree}
use Rattle.held_versions.specs.Trees.{HasTrees, IsRoot}
use Rattle.held_versions.proofs.Parts.{put_elsewhere, put_there}
use Rattle.held_versions.proofs.Standing.{SameAt, all_of_tree, kept_tree, node_of_tree}
use Rattle.tree_timeline.specs.Types.{Items, Pages}
use Rattle.plan_steps.specs.Parts.{Restands}
use Rattle.plan_steps.proofs.Records.{Group, records_of, early}
use Rattle.plan_steps.proofs.Sites.{Sites, made_below, slotted_tree, tree_early, tree_kept}

-- ---- members

here : (x : ℕ) (xs : List ℕ) → Contains (x ∷ xs) x
here x xs = (0, omega arith, refl)

pub by_members : (P : ℕ → Type 0) (xs : List ℕ) → ((q : ℕ) → Contains xs q → P q)
    → AllByRecursion P xs
by_members P [] f = tt
by_members P (x ∷ xs) f =
    (f x (here x xs), by_members P xs (λ q c. f q (Contains-append_right (x ∷ []) xs q c)))

-- ---- trees side by side

module _ (items others : ℕ → Items) (old new : Pages) (S T : Store) (h : Holds items old S)
    (fresh : ℕ) where
  -- the page was one of the tree at this root
  abbrev pub Was : ℕ → ℕ → Type 0
  Was r q = (a : IsRoot S r) × Contains (h.trees.trees r a).nodes q

  -- a tree stands there, on its old pages, and one tree on new ones
  abbrev pub Again : ℕ → Type 0
  Again r =
      (now : Tree new r (others r))
      × ((q : ℕ) → Contains now.nodes q → Was r q ⊎ ((r ≡ fresh) × (S.pages ≤ q)))

  was_below : (r q : ℕ) → Was r q → q < S.pages
  was_below r q (a, c) =
      made_below items old S h q
      (slotted_tree (old q).kind (node_of_tree old r (items r) (h.trees.trees r a) q c))

  pub trees_by : ((r : ℕ) → IsRoot T r → Again r) → HasTrees others new T
  trees_by again = record {
    trees = λ r a. (again r a).0;
    apart = λ p q r a b c d. by_case p q r ((again q a).1 p c) ((again r b).1 p d);
  }
    where
      by_case : (p q r : ℕ) → Was q p ⊎ ((q ≡ fresh) × (S.pages ≤ p))
          → Was r p ⊎ ((r ≡ fresh) × (S.pages ≤ p)) → q ≡ r
      by_case p q r (inl (a, c)) (inl (b, d)) = h.trees.apart p q r a b c d
      by_case p q r (inl w) (inr (e, past)) =
          absurd (let below = was_below q p w in omega (arith, below, past))
      by_case p q r (inr (e, past)) (inl w) =
          absurd (let below = was_below r p w in omega (arith, below, past))
      by_case p q r (inr (e, past)) (inr (f, also)) = e ∙ sym f

-- ---- after a group of five parts

module _ (items : ℕ → Items) (pages : Pages) (S : Store) (h : Holds items pages S) (lsn : ℕ)
    (g : Group) (w : Sites items pages S h g) (root : ℕ) (is : IsRoot S root) (changed : Items)
    (node : (tree : Tree pages root (items root)) → Contains tree.nodes g.leaf)
    (stands : Restands pages (early lsn g pages) root (items root) changed) where
  abbrev after : Pages
  after = grown lsn (records_of g) pages

  abbrev StandsAs : (r : ℕ) → Tree pages r (items r) → Items → Type 0
  StandsAs r tree now = (t : Tree after r now) × (t.nodes ≡ tree.nodes)

  own_tree : (tree : Tree pages root (items root)) → StandsAs root tree changed
  own_tree tree =
      let s = stands tree in
      let same : SameAt (early lsn g pages) after s.0.nodes =
      subst (SameAt (early lsn g pages) after) (sym s.1)
      (all_map (λ q. is_of_tree (pages q).kind ≡ true) (λ q. after q ≡ early lsn g pages q) tree.nodes
      (λ q k. tree_early items pages S h lsn g w q k)
      (all_of_tree pages root (items root) tree)) in
      (kept_tree (early lsn g pages) after root changed s.0 same, s.1)

  other_tree : (r : ℕ) → r ≢ root → (a : IsRoot S r) → StandsAs r (h.trees.trees r a) (items r)
  other_tree r ne a =
      let tree = h.trees.trees r a in
      let leaf_there = node (h.trees.trees root is) in
      let same : SameAt pages after tree.nodes =
      by_members (λ q. after q ≡ pages q) tree.nodes
      (λ q c.
      tree_kept items pages S h lsn g w q (node_of_tree pages r (items r) tree q c)
      (λ e. ne (h.trees.apart g.leaf r root a is
      (subst (λ (p : ℕ). Contains tree.nodes p) e c) leaf_there))) in
      (kept_tree pages after r (items r) tree same, refl)

  -- each tree stands on its pages
  pub tree_again : (r : ℕ) (a : IsRoot S r)
      → (t : Tree after r (put items root changed r)) × (t.nodes ≡ (h.trees.trees r a).nodes)
  tree_again r a = by_case (cases_eq r root)
    where
      tree : Tree pages r (items r)
      tree = h.trees.trees r a

      by_case : (r ≡ root) ⊎ (r ≢ root) → StandsAs r tree (put items root changed r)
      by_case (inl e) =
          subst (λ (x : ℕ). (old : Tree pages x (items x)) → StandsAs x old (put items root changed x))
          (sym e)
          (λ old. subst (StandsAs root old) (sym (put_there items root changed)) (own_tree old))
          tree
      by_case (inr ne) =
          subst (StandsAs r tree) (sym (put_elsewhere items root changed r ne)) (other_tree r ne a)
