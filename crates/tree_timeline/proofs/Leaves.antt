-- The items of a tree in the range of a leaf are those of the leaf.
use Rattle.std.proofs.Common.{◌≡◌, ℕ, List, [], ◌∷◌, ◌++◌, Some, None, refl, sym, ap, subst, ◌∙◌, append_assoc}
use Rattle.std.specs.List.{AllByRecursion}
use Rattle.std.specs.declared.cmp.Ordering.TheVariants.{Less}
use Rattle.std.proofs.lemmas.List.{append-nil}
use Rattle.page_view.specs.Keys.{key_in, key_cmp}
use Rattle.bplus_tree.proofs.Order.{less_upto, all_map, all_join}
use Rattle.bplus_tree.proofs.Ranges.{beyond_upto}
use Rattle.bplus_tree.specs.Found.{AllLess, AllMore}
use Rattle.bplus_tree.specs.Tree.{IsLeafPage, NotBelow, Beyond, Below, Stands, Tree}
use Rattle.tree_timeline.specs.Fences.{Fence, low_after}
use Rattle.tree_timeline.specs.Found.{of_key}
use Rattle.tree_timeline.specs.Ranges.{Covers}
use Rattle.tree_timeline.specs.Types.{Key, Bound, Items, Pages}
use Rattle.tree_timeline.proofs.KeyItems.{of_key-behind, of_key-before}
use Rattle.tree_timeline.proofs.Members.{covers_member}
use Rattle.tree_timeline.proofs.Places.{fence, same_head}
use Rattle.tree_timeline.proofs.Rows.{Row, layers}

-- the items of a tree, parted at one leaf
pub record LeafAt (pages : Pages) (first f : Fence) (right : List Fence)
    (items : Items) : Type 0 where
  pub before : Items
  pub own : Items
  pub after : Items
  pub items_are : items ≡ before ++ (own ++ after)
  pub leaf : IsLeafPage (pages f.page) f.page f.low (low_after right) own
  pub from : (k : Key) → NotBelow f.low k → NotBelow first.low k
  pub less : (k : Key) → NotBelow f.low k → AllLess k before
  pub more : (k : Key) → Below (low_after right) k → AllMore k after

all_from : (pages : Pages) (f : Fence) (right : List Fence) (items : Items) (nodes : List ℕ)
    → Row pages 0 (f ∷ right) None items nodes
    → AllByRecursion (λ item. NotBelow f.low (key_in item)) items
all_from pages f [] items nodes r = r.0.from
all_from pages f (g ∷ right) items nodes
    (key, first, others, left, rs, low, stands, beyond, below, row, its, nds) =
    subst (AllByRecursion (λ item. NotBelow f.low (key_in item))) (sym its)
    (all_join (λ item. NotBelow f.low (key_in item)) first others stands.0.from
    (all_map (λ item. NotBelow g.low (key_in item)) _ others
    (λ item h.
    beyond_upto f.low key (key_in item) beyond
    (subst (λ (o : Bound). NotBelow o (key_in item)) low h))
    (all_from pages g right others rs row)))

-- one leaf more to the left
further : (pages : Pages) (first x next f : Fence) (right : List Fence) (items : Items) (key : Key)
    (own others : Items) (ls : List ℕ)
    → first ≡ x → next.low ≡ Some key → Stands pages 0 x.page x.low (Some key) own ls
    → Beyond x.low key → items ≡ own ++ others
    → LeafAt pages next f right others → LeafAt pages first f right items
further pages first x next f right items key own others ls e low stands beyond its l = record {
  before = own ++ l.before;
  own = l.own;
  after = l.after;
  items_are =
      its
      ∙ (ap (λ (y : Items). own ++ y) l.items_are
      ∙ sym (append_assoc own l.before (l.own ++ l.after)));
  leaf = l.leaf;
  from =
      λ k h.
      subst (λ (g : Fence). NotBelow g.low k) (sym e) (beyond_upto x.low key k beyond (upto k h));
  less = λ k h.
      all_join (λ item. key_cmp (key_in item) k ≡ Less) own l.before
      (all_map (λ item. Below (Some key) (key_in item)) _ own
      (λ item b. less_upto (key_in item) key k b (upto k h)) stands.0.below) (l.less k h);
  more = l.more;
}
  where
    upto : (k : Key) → NotBelow f.low k → NotBelow (Some key) k
    upto k h = subst (λ (o : Bound). NotBelow o k) low (l.from k h)

leaf_at : (pages : Pages) (first : Fence) (rest left : List Fence) (f : Fence) (right : List Fence)
    (items : Items) (nodes : List ℕ)
    → first ∷ rest ≡ left ++ (f ∷ right) → Row pages 0 (left ++ (f ∷ right)) None items nodes
    → LeafAt pages first f right items
leaf_at pages first rest [] f [] items nodes e r = record {
  before = [];
  own = items;
  after = [];
  items_are = sym (append-nil items);
  leaf = r.0;
  from = λ k h. subst (λ (g : Fence). NotBelow g.low k) (sym (same_head first f rest [] e)) h;
  less = λ k h. tt;
  more = λ k h. tt;
}
leaf_at pages first rest [] f (g ∷ right) items nodes e
    (key, own, others, ls, rs, low, stands, beyond, below, row, its, nds) = record {
      before = [];
      own = own;
      after = others;
      items_are = its;
      leaf = subst (λ (o : Bound). IsLeafPage (pages f.page) f.page f.low o own) (sym low) stands.0;
      from =
          λ k h.
          subst (λ (x : Fence). NotBelow x.low k)
          (sym (same_head first f rest (g ∷ right) e)) h;
      less = λ k h. tt;
      more = λ k h.
          let b : key_cmp k key ≡ Less = subst (λ (o : Bound). Below o k) low h in
          all_map (λ item. NotBelow g.low (key_in item)) _ others
          (λ item n.
          less_upto k key (key_in item) b (subst (λ (o : Bound). NotBelow o (key_in item)) low n))
          (all_from pages g right others rs row);
    }
leaf_at pages first rest (x ∷ []) f right items nodes e
    (key, own, others, ls, rs, low, stands, beyond, below, row, its, nds) =
    further pages first x f f right items key own others ls
    (same_head first x rest (f ∷ right) e) low stands beyond its
    (leaf_at pages f right [] f right others rs refl row)
leaf_at pages first rest (x ∷ (y ∷ left)) f right items nodes e
    (key, own, others, ls, rs, low, stands, beyond, below, row, its, nds) =
    further pages first x y f right items key own others ls
    (same_head first x rest (y ∷ (left ++ (f ∷ right))) e) low stands beyond its
    (leaf_at pages y (left ++ (f ∷ right)) (y ∷ left) f right others rs refl row)

-- what is known of a leaf with its range
pub record LeafOf (pages : Pages) (items : Items) (q : ℕ) (low high : Bound) : Type 0 where
  pub leaf : IsLeafPage (pages q) q low high (pages q).items
  pub each : (k : Key) → NotBelow low k → Below high k → of_key k items ≡ of_key k (pages q).items

pub leaf_of : (pages : Pages) (root : ℕ) (items : Items) (tree : Tree pages root items) (q : ℕ)
    (low high : Bound)
    → Covers pages root 0 q low high → LeafOf pages items q low high
leaf_of pages root items tree q low high c =
    let m = covers_member pages root items tree 0 q low high c in
    let l = layers pages root items tree.nodes tree.level c.depth 0 tree.stands (c.deep ∙ m.2) in
    let e : l.first ∷ l.rest ≡ c.left ++ (fence low q ∷ c.right) = sym l.are ∙ c.are in
    let a =
    leaf_at pages l.first l.rest c.left (fence low q) c.right items l.own e
    (subst (λ (fs : List Fence). Row pages 0 fs None items l.own) e l.row) in
    let own : a.own ≡ (pages q).items = sym a.leaf.has in
    record {
      leaf = subst (λ (o : Bound). IsLeafPage (pages q) q low o (pages q).items) (sym c.high_is)
          (subst (IsLeafPage (pages q) q low (low_after c.right)) own a.leaf);
      each = λ k n b.
          let h : Below (low_after c.right) k = subst (λ (o : Bound). Below o k) c.high_is b in
          ap (of_key k) a.items_are
          ∙ (of_key-behind k a.before (a.own ++ a.after) (a.less k n)
          ∙ (of_key-before k a.own a.after (a.more k h) ∙ ap (of_key k) own));
    }
