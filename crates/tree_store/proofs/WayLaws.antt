-- A descent over the pages of a tree, on its way.
use Rattle.std.proofs.Common.{◌≡◌, ◌≢◌, ◌≤◌, ◌+◌, ◌-◌, ℕ, zero, suc, Bool, true, false, List, [], ◌∷◌, ◌++◌, length, map, Some, None, refl, sym, ap, subst, ◌∙◌, arith, inl, inr}
use Rattle.std.specs.Prelude.{◌⊎◌}
use Rattle.std.proofs.lemmas.List.{append_assoc, append-nil, map-append}
use Rattle.std.proofs.lemmas.Bool.{cases_lt}
use Rattle.std.proofs.lemmas.Bool.Decides.{nat_tests}
use Rattle.bplus_tree.specs.Forest.{IsFull}
use Rattle.page_image.specs.Meta.{page_count}
use Rattle.page_image.specs.declared.kind.Kind.TheVariants as kind
use Rattle.page_image.specs.Image.{Image, is_inner}
use Rattle.page_view.specs.declared.leaf.LeafItem.{LeafItem}
use Rattle.bplus_tree.specs.declared.want.Want.TheVariants.{Need, Leaf}
use Rattle.bplus_tree.specs.Tree.{Tree, Stands, Way}
use Rattle.bplus_tree.specs.Walk.{Walking, start, Told, Answers, Runs}
use Rattle.bplus_tree.specs.Found.{FindsLeaf}
use Rattle.tree_change.specs.Way.{IsWayTo}
use Rattle.tree_change.specs.Places.{page_on, leaf_on}
use Rattle.tree_change.specs.Room.{size_of, room_for, lacks_room}
use Rattle.tree_change.specs.Splits.{HaveRoom, SpaceFor}
use Rattle.tree_change.proofs.WayLaws.{leaf_rows, some_pages}
use Rattle.tree_change.proofs.RootTree.{root_is}
use Rattle.tree_store.specs.Rooms.{IsWayIn}

-- ---- the level of a tree is that of its root

levels_of : (pages : ℕ → Image) (root l m : ℕ) (its others : List (List ℕ)) (nodes more : List ℕ)
    → Stands pages l root None None its nodes → Stands pages m root None None others more → l ≡ m
levels_of pages root zero zero its others nodes more a b = refl
levels_of pages root zero (suc m) its others nodes more a b = absurd (let h : kind.Leaf ≡ kind.Inner = sym a.0.kind ∙ b.2.kind in cc)
levels_of pages root (suc l) zero its others nodes more a b = absurd (let h : kind.Inner ≡ kind.Leaf = sym a.2.kind ∙ b.0.kind in cc)
levels_of pages root (suc l) (suc m) its others nodes more a b = sym a.2.height ∙ b.2.height

pub same_level : (pages : ℕ → Image) (root : ℕ) (its others : List (List ℕ)) (t : Tree pages root its) (u : Tree pages root others) → t.level ≡ u.level
same_level pages root its others t u = levels_of pages root t.level u.level its others t.nodes u.nodes t.stands u.stands

-- ---- the pages that a descent was told of, and those that it will be told of

pub record OnWay (pages : ℕ → Image) (root : ℕ) (key : List ℕ) (path : List Image) (w : Walking) : Type 0 where
  pub items : List (List ℕ)
  pub tree : Tree pages root items
  pub done : List ℕ
  pub todo : List ℕ
  pub leaf : ℕ
  pub leads : Way pages tree.level root key (done ++ todo)
  pub read : path ≡ map pages done
  pub runs : Runs pages w (map Need todo ++ Leaf leaf ∷ [])

pub way_starts : (pages : ℕ → Image) (root : ℕ) (items : List (List ℕ)) (tree : Tree pages root items) (key : List ℕ) → FindsLeaf pages root items tree.level key
    → OnWay pages root key [] (start root (Some key) (Some key))
way_starts pages root items tree key f =
    record { items = items; tree = tree; done = []; todo = f.way ++ f.leaf ∷ []; leaf = f.leaf; leads = f.leads; read = refl; runs = f.runs }

needs_of : (pages : ℕ → Image) (w : Walking) (todo : List ℕ) (leaf p : ℕ) → Runs pages w (map Need todo ++ Leaf leaf ∷ []) → w.want ≡ Need p → Answers pages p
needs_of pages w [] leaf p r e = absurd (let h : Need p ≡ Leaf leaf = sym e ∙ r.0 in cc)
needs_of pages w (t ∷ ts) leaf p r e =
    let h : Need t ≡ Need p = sym r.0 ∙ e in
    let same : t ≡ p = cc in
    subst (Answers pages) same (r.1 t refl).0

pub way_needs : (pages : ℕ → Image) (root : ℕ) (key : List ℕ) (path : List Image) (w : Walking) (p : ℕ) → OnWay pages root key path w → w.want ≡ Need p → Answers pages p
way_needs pages root key path w p o e = needs_of pages w o.todo o.leaf p o.runs e

step_of : (pages : ℕ → Image) (root : ℕ) (key : List ℕ) (path : List Image) (w new : Walking) (items : List (List ℕ)) (tree : Tree pages root items) (done todo : List ℕ) (leaf p : ℕ)
    → Way pages tree.level root key (done ++ todo) → path ≡ map pages done → Runs pages w (map Need todo ++ Leaf leaf ∷ []) → w.want ≡ Need p → Told w (pages p) new
    → OnWay pages root key (path ++ pages p ∷ []) new
step_of pages root key path w new items tree done [] leaf p leads read r e told = absurd (let h : Need p ≡ Leaf leaf = sym e ∙ r.0 in cc)
step_of pages root key path w new items tree done (t ∷ ts) leaf p leads read r e told =
    let h : Need t ≡ Need p = sym r.0 ∙ e in
    let same : t ≡ p = cc in
    let told' : Told w (pages t) new = subst (λ (q : ℕ). Told w (pages q) new) (sym same) told in
    record {
      items = items;
      tree = tree;
      done = done ++ t ∷ [];
      todo = ts;
      leaf = leaf;
      leads = subst (Way pages tree.level root key) (sym (append_assoc done (t ∷ []) ts)) leads;
      read = ap (λ (q : ℕ). path ++ pages q ∷ []) (sym same) ∙ ap (λ (l : List Image). l ++ pages t ∷ []) read ∙ sym (map-append pages done (t ∷ []));
      runs = (r.1 t refl).1 new told';
    }

pub way_steps : (pages : ℕ → Image) (root : ℕ) (key : List ℕ) (path : List Image) (w new : Walking) (p : ℕ) → OnWay pages root key path w → w.want ≡ Need p → Told w (pages p) new
    → OnWay pages root key (path ++ pages p ∷ []) new
way_steps pages root key path w new p o e told = step_of pages root key path w new o.items o.tree o.done o.todo o.leaf p o.leads o.read o.runs e told

end_of : (pages : ℕ → Image) (root : ℕ) (key : List ℕ) (path : List Image) (w : Walking) (items : List (List ℕ)) (tree : Tree pages root items) (done todo : List ℕ) (leaf : ℕ)
    → Way pages tree.level root key (done ++ todo) → path ≡ map pages done → Runs pages w (map Need todo ++ Leaf leaf ∷ []) → ((p : ℕ) → w.want ≢ Need p)
    → IsWayIn pages root key path
end_of pages root key path w items tree done [] leaf leads read r none = record {
  numbers = done;
  way = λ its t.
      subst (λ (l : ℕ). Way pages l root key done) (same_level pages root items its tree t)
      (subst (Way pages tree.level root key) (append-nil done) leads);
  read = read;
}
end_of pages root key path w items tree done (t ∷ ts) leaf leads read r none = absurd (none t r.0)

pub way_ends : (pages : ℕ → Image) (root : ℕ) (key : List ℕ) (path : List Image) (w : Walking) → OnWay pages root key path w → ((p : ℕ) → w.want ≢ Need p) → IsWayIn pages root key path
way_ends pages root key path w o none = end_of pages root key path w o.items o.tree o.done o.todo o.leaf o.leads o.read o.runs none

-- ---- no space

no_space : (b : Bool) (root : Image) (count : ℕ) → ¬ SpaceFor b root count → (32768 ≤ count + 1) ⊎ (8 ≤ root.level)
no_space true root count h =
    elim (cases_lt root.level 8) [
      | inl low ↦ elim (cases_lt count 32767) [ inl less ↦ absurd (h (low, omega arith)) | inr more ↦ inl (omega arith) ]
      | inr high ↦ inr high
    ]
no_space false root count h = elim (cases_lt count 32768) [ inl less ↦ absurd (h (omega arith)) | inr more ↦ inl (omega arith) ]

pub full_from : (pages : ℕ → Image) (item : LeafItem) (key : List ℕ) (path : List Image) (w : IsWayTo key path) (meta : Image) → w.pages ≡ pages → meta ≡ pages 0
    → ¬ SpaceFor (lacks_room item (page_on path 0)) (page_on path 0) (page_count meta) → IsFull pages w.root
full_from pages item key path w meta same e h =
    let root = root_is key path w ∙ ap (λ (ps : ℕ → Image). ps w.root) same in
    let level = ap (λ (o : Image). o.level) root in
    let count = ap page_count e in
    let full = no_space (lacks_room item (page_on path 0)) (page_on path 0) (page_count meta) h in
    moved full level count
  where
    moved : (32768 ≤ page_count meta + 1) ⊎ (8 ≤ (page_on path 0).level) → (page_on path 0).level ≡ (pages w.root).level → page_count meta ≡ page_count (pages 0) → IsFull pages w.root
    moved (inl few) level count = inl (omega arith)
    moved (inr high) level count = inr (omega arith)

-- ---- room on the leaf

leaf_room : (item : LeafItem) (page : Image) → page.kind ≡ kind.Leaf → lacks_room item page ≡ false → size_of item ≤ room_for item.key page
leaf_room item page e h =
    let i : is_inner page.kind ≡ false = ap is_inner e in
    let g = rw i at h in
    grind (arith, nat_tests)

pub room_on : (item : LeafItem) (path : List Image) → IsWayTo item.key path → HaveRoom item path → size_of item ≤ room_for item.key (leaf_on path)
room_on item path w have =
    let some = some_pages item.key path w in
    leaf_room item (leaf_on path) (leaf_rows item.key path w).kind (have (length path - 1) (omega (arith, some)))
