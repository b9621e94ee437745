-- What one step keeps of the range of a page.
use Rattle.std.proofs.Common.{◌≡◌, ◌≢◌, ◌+◌, ℕ, zero, suc, Bool, true, false, List, ◌∷◌, ◌++◌, Some, None, refl, sym, ap, subst, ◌∙◌, arith, inl, inr}
use Rattle.std.specs.Prelude.{◌⊎◌, nat_eq, Contains}
use Rattle.std.proofs.lemmas.Bool.Decides.{eqb_tells}
use Rattle.page_image.specs.Image.{Image}
use Rattle.bplus_tree.specs.Tree.{Tree, is_leaf}
use Rattle.tree_timeline.specs.Fences.{Fence, entries_in, layer, low_after}
use Rattle.tree_timeline.specs.Ranges.{height, Covers}
use Rattle.tree_timeline.specs.Steps.{KeepsShape, Splits, RootSplits, Step}
use Rattle.tree_timeline.specs.Types.{Bound, Items, Pages}
use Rattle.tree_timeline.proofs.Frames.{stays_layers}
use Rattle.tree_timeline.proofs.Heights.{Tall, stands_tall, tall_height}
use Rattle.tree_timeline.proofs.Inserting.{Inserted, Ahead, inserted_covers}
use Rattle.tree_timeline.proofs.Members.{covers_member, has_root}
use Rattle.tree_timeline.proofs.Places.{fence, only_one}
use Rattle.tree_timeline.proofs.RootLayers.{root_layers}
use Rattle.tree_timeline.proofs.SplitLayers.{setting, splits_layers}

-- all as it was
pub record Same (pages others : Pages) (root tall q : ℕ) (low high : Bound) : Type 0 where
  pub covers : Covers others root tall q low high
  pub entries : is_leaf (pages q).kind ≡ false → entries_in (others q) ≡ entries_in (pages q)
  pub structure : (others q).structure ≡ (pages q).structure

-- the range ends as it did, or before a new page that ends as it did
abbrev pub Falls : (others : Pages) (root tall q : ℕ) (low now high : Bound)
    → Covers others root tall q low now → Type 0
Falls others root tall q low now high c =
    (now ≡ high)
    ⊎ ((g : Fence) × (rest : List Fence) × (c.right ≡ g ∷ rest) × (low_after rest ≡ high))

-- the structure number tells of a change; a page other than the root keeps its height and its least
-- key
pub record Marked (others : Pages) (root tall q : ℕ) (low high : Bound) (lsn : ℕ) : Type 0 where
  pub structure : (others q).structure ≡ lsn
  pub covers : q ≢ root
      → (now : Bound) × (c : Covers others root tall q low now)
      × Falls others root tall q low now high c

abbrev pub Kept : Pages → Pages → ℕ → ℕ → ℕ → Bound → Bound → ℕ → Type 0
Kept pages others root tall q low high lsn =
    Same pages others root tall q low high ⊎ Marked others root tall q low high lsn

stays_height : (pages others : Pages) (root : ℕ) (nodes : List ℕ) → Contains nodes root
    → KeepsShape pages others nodes → height (others root) ≡ height (pages root)
stays_height pages others root nodes c s = go (is_leaf (pages root).kind) refl
  where
    go : (b : Bool) → is_leaf (pages root).kind ≡ b → height (others root) ≡ height (pages root)
    go true e = rw e (rw ((s.leaf root c e).0) refl)
    go false e = ap height (s.inner root c e)

splits_height : (pages others : Pages) (root : ℕ) (items : Items) (tree : Tree pages root items)
    (lsn : ℕ) (sp : Splits pages others tree.nodes lsn)
    → height (others root) ≡ height (pages root)
splits_height pages others root items tree lsn sp = by_parent (eqb_tells root sp.parent)
  where
    own : height (others sp.parent) ≡ height (pages sp.parent)
    own = let k = sp.parent_kind in let l = sp.parent_level in rw (k, l) refl

    apart : root ≢ sp.page
    apart e =
        let s = setting pages others root items tree lsn sp in
        let t =
        tall_height pages tree.level root
        (stands_tall pages tree.level root None None items tree.nodes tree.stands) in
        let x = sym t ∙ ap (λ (q : ℕ). height (pages q)) e ∙ page_height s.tall s.page_tall in
        let d = s.deep in
        omega (arith, x, d)
      where
        page_height : (h : ℕ) → Tall pages h sp.page → height (pages sp.page) ≡ h
        page_height h t = tall_height pages h sp.page t

    by_parent : ((nat_eq root sp.parent ≡ true) × (root ≡ sp.parent))
        ⊎ ((nat_eq root sp.parent ≡ false) × (root ≢ sp.parent))
        → height (others root) ≡ height (pages root)
    by_parent (inl e) = subst (λ (q : ℕ). height (others q) ≡ height (pages q)) (sym e.1) own
    by_parent (inr n) = ap height (sp.same root (has_root pages root items tree) n.1 apart)

same_high : (pages : Pages) (root tall q : ℕ) (low a b : Bound) → a ≡ b
    → Covers pages root tall q low a → Covers pages root tall q low b
same_high pages root tall q low a b e c = subst (Covers pages root tall q low) e c

kept_stays : (pages others : Pages) (root : ℕ) (items : Items) (tree : Tree pages root items)
    (tall q lsn : ℕ) (low high : Bound)
    → KeepsShape pages others tree.nodes → Covers pages root tall q low high
    → Kept pages others root tall q low high lsn
kept_stays pages others root items tree tall q lsn low high st c =
    let m = covers_member pages root items tree tall q low high c in
    inl (record {
      covers = record {
        depth = c.depth;
        left = c.left;
        right = c.right;
        deep =
            c.deep
            ∙ sym (stays_height pages others root tree.nodes (has_root pages root items tree) st);
        are =
            stays_layers pages others root items tree.nodes tree.level c.depth tall tree.stands st
            (c.deep ∙ m.2) ∙ c.are;
        high_is = c.high_is;
      };
      entries = λ e. ap entries_in (st.inner q m.0 e);
      structure = by_kind m.0 (is_leaf (pages q).kind) refl;
    })
  where
    by_kind : Contains tree.nodes q → (b : Bool) → is_leaf (pages q).kind ≡ b
        → (others q).structure ≡ (pages q).structure
    by_kind m true e = (st.leaf q m e).1
    by_kind m false e = ap (λ (o : Image). o.structure) (st.inner q m e)

kept_splits : (pages others : Pages) (root : ℕ) (items : Items) (tree : Tree pages root items)
    (tall q lsn : ℕ) (low high : Bound)
    → Splits pages others tree.nodes lsn → Covers pages root tall q low high
    → Kept pages others root tall q low high lsn
kept_splits pages others root items tree tall q lsn low high sp c =
    by_layer
    (splits_layers pages others root items tree.nodes tree.level lsn sp
    (setting pages others root items tree lsn sp) c.depth tall (c.deep ∙ m.2))
  where
    m : (Contains tree.nodes q) × Tall pages tall q × (height (pages root) ≡ tree.level)
    m = covers_member pages root items tree tall q low high c

    deep : c.depth + tall ≡ height (others root)
    deep = c.deep ∙ sym (splits_height pages others root items tree lsn sp)

    by_page : (now : Bound) (k : Covers others root tall q low now)
        → Falls others root tall q low now high k → (now ≡ high) ⊎ (q ≡ sp.page)
        → Kept pages others root tall q low high lsn
    by_page now k falls told = go (eqb_tells q sp.parent) (eqb_tells q sp.page) told
      where
        go : ((nat_eq q sp.parent ≡ true) × (q ≡ sp.parent))
            ⊎ ((nat_eq q sp.parent ≡ false) × (q ≢ sp.parent))
            → ((nat_eq q sp.page ≡ true) × (q ≡ sp.page))
            ⊎ ((nat_eq q sp.page ≡ false) × (q ≢ sp.page)) → (now ≡ high) ⊎ (q ≡ sp.page)
            → Kept pages others root tall q low high lsn
        go (inl e) b t =
            inr
            (record {
              structure = ap (λ (p : ℕ). (others p).structure) e.1 ∙ sp.parent_marked;
              covers = λ _. (now, k, falls);
            })
        go (inr n) (inl e) t =
            inr
            (record {
              structure = ap (λ (p : ℕ). (others p).structure) e.1 ∙ sp.page_marked;
              covers = λ _. (now, k, falls);
            })
        go (inr n) (inr o) (inr e) = absurd (o.1 e)
        go (inr n) (inr o) (inl e) =
            let same = sp.same q m.0 n.1 o.1 in
            inl (record {
              covers = same_high others root tall q low now high e k;
              entries = λ _. ap entries_in same;
              structure = ap (λ (i : Image). i.structure) same;
            })

    by_layer : (layer others root c.depth ≡ layer pages root c.depth)
        ⊎ Inserted (layer pages root c.depth)
        (layer others root c.depth) sp.page sp.separator sp.new
        → Kept pages others root tall q low high lsn
    by_layer (inl e) =
        by_page high
        (record {
          depth = c.depth;
          left = c.left;
          right = c.right;
          deep = deep;
          are = e ∙ c.are;
          high_is = c.high_is;
        }) (inl refl) (inl refl)
    by_layer (inr i) =
        let n =
        inserted_covers (layer pages root c.depth)
        (layer others root c.depth) sp.page sp.separator sp.new i c.left
        (fence low q) c.right c.are in
        told n.0 n.1 n.2 n.3
      where
        told : (left right : List Fence) → layer others root c.depth ≡ left ++ (fence low q ∷ right)
            → Ahead c.right right (fence low q) sp.page sp.separator sp.new
            → Kept pages others root tall q low high lsn
        told left right are (inl e) =
            by_page (low_after right)
            (record {
              depth = c.depth;
              left = left;
              right = right;
              deep = deep;
              are = are;
              high_is = refl;
            })
            (inl (e ∙ sym c.high_is)) (inl (e ∙ sym c.high_is))
        told left right are (inr e) =
            by_page (low_after right)
            (record {
              depth = c.depth;
              left = left;
              right = right;
              deep = deep;
              are = are;
              high_is = refl;
            })
            (inr (fence (Some sp.separator) sp.new, c.right, e.1, sym c.high_is)) (inr e.0)

kept_root : (pages others : Pages) (root : ℕ) (items : Items) (tree : Tree pages root items)
    (tall q lsn : ℕ) (low high : Bound)
    → RootSplits pages others root tree.nodes lsn → Covers pages root tall q low high
    → Kept pages others root tall q low high lsn
kept_root pages others root items tree tall q lsn low high r c = go (eqb_tells q root)
  where
    m : (Contains tree.nodes q) × Tall pages tall q × (height (pages root) ≡ tree.level)
    m = covers_member pages root items tree tall q low high c

    now_height : height (others root) ≡ height (pages root) + 1
    now_height = let k = r.kind in let l = r.level in rw k l

    by_depth : q ≢ root → (depth : ℕ) → depth + tall ≡ height (pages root)
        → layer pages root depth ≡ c.left ++ (record { low = low; page = q } ∷ c.right)
        → Covers others root tall q low high
    by_depth n zero deep are =
        absurd
        (n
        (ap (λ (f : Fence). f.page) (only_one (fence None root) (fence low q) c.left c.right are)))
    by_depth n (suc depth) deep are = record {
      depth = suc (suc depth);
      left = c.left;
      right = c.right;
      deep = (let h = now_height in omega (arith, h, deep));
      are = root_layers pages others root items tree lsn r depth tall (deep ∙ m.2) ∙ are;
      high_is = c.high_is;
    }

    go : ((nat_eq q root ≡ true) × (q ≡ root)) ⊎ ((nat_eq q root ≡ false) × (q ≢ root))
        → Kept pages others root tall q low high lsn
    go (inl e) =
        inr
        (record {
          structure = ap (λ (p : ℕ). (others p).structure) e.1 ∙ r.marked;
          covers = λ n. absurd (n e.1);
        })
    go (inr n) =
        let same = r.same q m.0 n.1 in
        inl (record {
          covers = by_depth n.1 c.depth c.deep c.are;
          entries = λ _. ap entries_in same;
          structure = ap (λ (i : Image). i.structure) same;
        })

pub kept : (pages others : Pages) (root : ℕ) (items : Items) (tree : Tree pages root items)
    (tall q lsn : ℕ) (low high : Bound)
    → Step pages others root tree.nodes lsn → Covers pages root tall q low high
    → Kept pages others root tall q low high lsn
kept pages others root items tree tall q lsn low high (inl st) c =
    kept_stays pages others root items tree tall q lsn low high st c
kept pages others root items tree tall q lsn low high (inr (inl sp)) c =
    kept_splits pages others root items tree tall q lsn low high sp c
kept pages others root items tree tall q lsn low high (inr (inr r)) c =
    kept_root pages others root items tree tall q lsn low high r c
