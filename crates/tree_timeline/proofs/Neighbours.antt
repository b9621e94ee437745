-- The leaf that a leaf names begins where this one ends.
use Rattle.std.proofs.Common.{◌≡◌, ◌≢◌, ◌<◌, ◌+◌, ℕ, zero, suc, true, List, [], ◌∷◌, ◌++◌, map, Some, None, refl, sym, ap, subst, ◌∙◌, arith, append_assoc, length}
use Rattle.std.specs.Prelude.{Contains}
use Rattle.std.specs.List.{AllByRecursion}
use Rattle.std.proofs.lemmas.List.{length-append}
use Rattle.bplus_tree.specs.Tree.{Beyond, Tree, is_leaf, leaves_of, Linked}
use Rattle.tree_timeline.specs.Fences.{Fence, layer, low_after}
use Rattle.tree_timeline.specs.Ranges.{height, Covers}
use Rattle.tree_timeline.specs.Types.{Key, Bound, Items, Pages}
use Rattle.tree_timeline.proofs.Heights.{Tall, row_tall, tall_height}
use Rattle.tree_timeline.proofs.Members.{covers_member}
use Rattle.tree_timeline.proofs.Places.{page_in, fence}
use Rattle.tree_timeline.proofs.Rows.{Row, layers, ones}

pub record Rest (pages : Pages) (l : ℕ) (f : Fence) (right : List Fence) : Type 0 where
  pub items : Items
  pub nodes : List ℕ
  pub row : Row pages l (f ∷ right) None items nodes

pub row_rest : (pages : Pages) (l : ℕ) (left : List Fence) (f : Fence) (right : List Fence)
    (items : Items) (nodes : List ℕ)
    → Row pages l (left ++ (f ∷ right)) None items nodes → Rest pages l f right
row_rest pages l [] f right items nodes r = record { items = items; nodes = nodes; row = r }
row_rest pages l (x ∷ []) f right items nodes r = row_rest pages l [] f right r.2 r.4 r.9
row_rest pages l (x ∷ (y ∷ left)) f right items nodes r =
    row_rest pages l (y ∷ left) f right r.2 r.4 r.9

-- the fence and what is right of it
pub right_of : (pages : Pages) (root : ℕ) (items : Items) (tree : Tree pages root items)
    (tall q : ℕ) (low high : Bound)
    (c : Covers pages root tall q low high) → Rest pages tall (fence low q) c.right
right_of pages root items tree tall q low high c =
    let m = covers_member pages root items tree tall q low high c in
    let l = layers pages root items tree.nodes tree.level c.depth tall tree.stands (c.deep ∙ m.2) in
    row_rest pages tall c.left (fence low q) c.right items l.own
    (subst (λ (fs : List Fence). Row pages tall fs None items l.own) (sym l.are ∙ c.are) l.row)

abbrev pub NextOf : ℕ → List Fence → Type 0
NextOf next [] = next ≡ 0
NextOf next (g ∷ fs) = (next ≡ g.page) × (0 < g.page)

linked_next : (pages : Pages) (left : List Fence) (f : Fence) (right : List Fence)
    → Linked pages (map page_in (left ++ (f ∷ right))) → NextOf (pages f.page).next right
linked_next pages [] f [] l = l
linked_next pages [] f (g ∷ right) l = (l.0, l.1)
linked_next pages (x ∷ []) f right l = linked_next pages [] f right l.2
linked_next pages (x ∷ (y ∷ left)) f right l = linked_next pages (y ∷ left) f right l.2

all_leaves : (pages : Pages) (fs : List Fence) → AllByRecursion (λ f. Tall pages zero f.page) fs
    → leaves_of pages (map page_in fs) ≡ map page_in fs
all_leaves pages [] a = refl
all_leaves pages (f ∷ fs) a = taken a.0 (all_leaves pages fs a.1)
  where
    taken : is_leaf (pages f.page).kind ≡ true → leaves_of pages (map page_in fs) ≡ map page_in fs
        → leaves_of pages (map page_in (f ∷ fs)) ≡ map page_in (f ∷ fs)
    taken e h = rw e (ap (λ (x : List ℕ). f.page ∷ x) h)

pub next_of : (pages : Pages) (root : ℕ) (items : Items) (tree : Tree pages root items) (q : ℕ)
    (low high : Bound)
    → (c : Covers pages root 0 q low high) → NextOf (pages q).next c.right
next_of pages root items tree q low high c =
    let m = covers_member pages root items tree 0 q low high c in
    let l = layers pages root items tree.nodes tree.level c.depth 0 tree.stands (c.deep ∙ m.2) in
    let t = row_tall pages 0 l.first l.rest None items l.own l.row in
    let are : leaves_of pages tree.nodes ≡ map page_in (c.left ++ (fence low q ∷ c.right)) =
    l.leaves
    ∙ (ap (leaves_of pages) (ones pages l.first l.rest None items l.own l.row)
    ∙ (all_leaves pages (l.first ∷ l.rest) t ∙ ap (map page_in) (sym l.are ∙ c.are))) in
    linked_next pages c.left (fence low q) c.right (subst (Linked pages) are tree.linked)

-- the leaf to the right begins where this one ends, and is not the root
pub record Neighbour (pages : Pages) (root next : ℕ) (low high : Bound) : Type 0 where
  pub key : Key
  pub beyond : Beyond low key
  pub high_is : high ≡ Some key
  pub end : Bound
  pub covers : Covers pages root 0 next high end
  pub below_root : next ≢ root

pub neighbour : (pages : Pages) (root : ℕ) (items : Items) (tree : Tree pages root items)
    (q next : ℕ) (low high : Bound)
    → Covers pages root 0 q low high → (pages q).next ≡ next → 0 < next
    → Neighbour pages root next low high
neighbour pages root items tree q next low high c e some =
    go c.right refl (next_of pages root items tree q low high c)
    (right_of pages root items tree 0 q low high c)
  where
    m : (Contains tree.nodes q) × Tall pages 0 q × (height (pages root) ≡ tree.level)
    m = covers_member pages root items tree 0 q low high c

    -- a tree of one page has one leaf
    one_page : (depth : ℕ) (a : List Fence) (g : Fence) (b : List Fence)
        → depth + 0 ≡ height (pages root) → layer pages root depth ≡ a ++ (fence low q ∷ (g ∷ b))
        → height (pages root) ≡ 0 → ⊥
    one_page zero a g b d are h = short a (ap length are)
      where
        short : (x : List Fence) → 1 ≡ length (x ++ (fence low q ∷ (g ∷ b))) → ⊥
        short x f = let l = length-append x (fence low q ∷ (g ∷ b)) in omega (arith, f, l)
    one_page (suc depth) a g b d are h = omega (arith, d, h)

    go : (right : List Fence) → c.right ≡ right → NextOf (pages q).next right
        → Rest pages 0 (fence low q) right → Neighbour pages root next low high
    go [] r n w = absurd (omega (arith, n, e, some))
    go (g ∷ fs) r n w =
        let same : g.page ≡ next = sym n.0 ∙ e in
        let are : layer pages root c.depth ≡ c.left ++ (fence low q ∷ (g ∷ fs)) =
        c.are ∙ ap (λ (x : List Fence). c.left ++ (fence low q ∷ x)) r in
        let high_is : high ≡ g.low = c.high_is ∙ ap low_after r in
        let c' : Covers pages root 0 g.page g.low (low_after fs) = record {
          depth = c.depth;
          left = c.left ++ (fence low q ∷ []);
          right = fs;
          deep = c.deep;
          are = are ∙ sym (append_assoc c.left (fence low q ∷ []) (g ∷ fs));
          high_is = refl;
        } in
        let own = covers_member pages root items tree 0 g.page g.low (low_after fs) c' in
        record {
          key = w.row.0;
          beyond = w.row.7;
          high_is = high_is ∙ w.row.5;
          end = low_after fs;
          covers =
              subst (λ (p : ℕ). Covers pages root 0 p high (low_after fs)) same
              (subst (λ (o : Bound). Covers pages root 0 g.page o (low_after fs)) (sym high_is) c');
          below_root = λ is. one_page c.depth c.left g fs c.deep are
              (tall_height pages 0 root (subst (Tall pages 0) (same ∙ is) own.1));
        }

-- no leaf to the right: the range has no end
pub no_neighbour : (pages : Pages) (root : ℕ) (items : Items) (tree : Tree pages root items) (q : ℕ)
    (low high : Bound)
    → Covers pages root 0 q low high → (pages q).next ≡ 0 → high ≡ None
no_neighbour pages root items tree q low high c e =
    go c.right refl (next_of pages root items tree q low high c)
  where
    go : (right : List Fence) → c.right ≡ right → NextOf (pages q).next right → high ≡ None
    go [] r n = c.high_is ∙ ap low_after r
    go (g ∷ fs) r n = absurd (omega (arith, n, e))
