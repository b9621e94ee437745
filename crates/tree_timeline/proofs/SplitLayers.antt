-- What a split below the root does to each layer.
use Rattle.std.proofs.Common.{◌≡◌, ◌≢◌, ◌≤◌, ◌+◌, ℕ, zero, suc, List, [], ◌∷◌, ◌++◌, map, Some, refl, sym, ap, subst, ◌∙◌, arith, append_assoc, ◌-◌, inl, inr}
use Rattle.std.specs.Prelude.{◌⊎◌}
use Rattle.std.specs.List.{AllByRecursion, flat_map}
use Rattle.std.proofs.lemmas.Grind.{flat_map-append}
use Rattle.page_view.specs.Inner.{InnerItem}
use Rattle.bplus_tree.proofs.Order.{all_left, all_right, all_map}
use Rattle.bplus_tree.specs.Tree.{Tree, is_leaf}
use Rattle.tree_timeline.specs.Fences.{Fence, entries_in, cut, children, layer}
use Rattle.tree_timeline.specs.Ranges.{height}
use Rattle.tree_timeline.specs.Steps.{Splits}
use Rattle.tree_timeline.specs.Types.{Items, Pages}
use Rattle.tree_timeline.proofs.Counting.{times, distinct_once}
use Rattle.tree_timeline.proofs.Frames.{same_below, same_deeper}
use Rattle.tree_timeline.proofs.Heights.{Tall, tall_height, true_false}
use Rattle.tree_timeline.proofs.Inserting.{Inserted, cut_more, insert_between, halves_join}
use Rattle.tree_timeline.proofs.Members.{Member, InTree, heads_of, members, placed}
use Rattle.tree_timeline.proofs.Places.{page_in, Located, alone, own_of}

-- the tree, its split and the layer of the parent
pub record Setting (pages others : Pages) (root : ℕ) (items : Items) (nodes : List ℕ)
    (level lsn : ℕ) (sp : Splits pages others nodes lsn) : Type 0 where
  pub stands : InTree pages root items nodes level
  pub once : (q : ℕ) → times q nodes ≤ 1
  pub depth : ℕ
  pub tall : ℕ
  pub deep : depth + suc tall ≡ level
  pub there : Located (layer pages root depth) sp.parent
  pub parent_tall : Tall pages (suc tall) sp.parent
  pub page_tall : Tall pages tall sp.page

module _ (pages others : Pages) (root : ℕ) (items : Items) (nodes : List ℕ) (level lsn : ℕ)
    (sp : Splits pages others nodes lsn)
    (s : Setting pages others root items nodes level lsn sp) where
  -- a page of another height stays
  else_same : (tall : ℕ) (f : Fence) → tall ≢ suc s.tall → tall ≢ s.tall → Member pages nodes tall f
      → entries_in (others f.page) ≡ entries_in (pages f.page)
  else_same tall f a b m =
      ap entries_in (sp.same f.page m.inside
      (λ e.
      a (sym (tall_height pages tall f.page m.tall_is) ∙ ap (λ (q : ℕ). height (pages q)) e
      ∙ tall_height pages (suc s.tall) sp.parent s.parent_tall))
      (λ e.
      b (sym (tall_height pages tall f.page m.tall_is) ∙ ap (λ (q : ℕ). height (pages q)) e
      ∙ tall_height pages s.tall sp.page s.page_tall)))

  above : (depth tall : ℕ) → depth + tall ≡ level → suc s.tall ≤ tall
      → layer others root depth ≡ layer pages root depth
  above zero tall e l = refl
  above (suc depth) tall e l =
      let up : depth + suc tall ≡ level = omega (arith, e) in
      same_deeper pages others root depth (above depth (suc tall) up (omega (arith, l)))
      (all_map (Member pages nodes (suc tall)) _ (layer pages root depth)
      (λ f m. else_same (suc tall) f (λ q. omega (arith, q, l)) (λ q. omega (arith, q, l)) m)
      (members pages root items nodes level depth (suc tall) s.stands up))

  -- other pages of the parent's layer stay
  beside_parent : (fs : List Fence) → AllByRecursion (λ f. f.page ≢ sp.parent) fs
      → AllByRecursion (Member pages nodes (suc s.tall)) fs
      → flat_map (children others) fs ≡ flat_map (children pages) fs
  beside_parent fs a m = same_below pages others fs (both fs a m)
    where
      both : (gs : List Fence) → AllByRecursion (λ f. f.page ≢ sp.parent) gs
          → AllByRecursion (Member pages nodes (suc s.tall)) gs
          → AllByRecursion (λ f. entries_in (others f.page) ≡ entries_in (pages f.page)) gs
      both [] a m = tt
      both (g ∷ gs) a m = (
        ap entries_in (sp.same g.page m.0.inside a.0
            (λ e. let x =
            sym (tall_height pages (suc s.tall) g.page m.0.tall_is)
            ∙ ap (λ (q : ℕ). height (pages q)) e ∙ tall_height pages s.tall sp.page s.page_tall in
            omega (arith, x))),
        both gs a.1 m.1,
      )

  -- other pages of the page's layer stay
  beside_page : (fs : List Fence) → AllByRecursion (λ f. f.page ≢ sp.page) fs
      → AllByRecursion (Member pages nodes s.tall) fs
      → flat_map (children others) fs ≡ flat_map (children pages) fs
  beside_page fs a m = same_below pages others fs (both fs a m)
    where
      both : (gs : List Fence) → AllByRecursion (λ f. f.page ≢ sp.page) gs
          → AllByRecursion (Member pages nodes s.tall) gs
          → AllByRecursion (λ f. entries_in (others f.page) ≡ entries_in (pages f.page)) gs
      both [] a m = tt
      both (g ∷ gs) a m = (
        ap entries_in (sp.same g.page m.0.inside
            (λ e. let x =
            sym (tall_height pages s.tall g.page m.0.tall_is) ∙ ap (λ (q : ℕ). height (pages q)) e
            ∙ tall_height pages (suc s.tall) sp.parent s.parent_tall in omega (arith, x))
            a.0),
        both gs a.1 m.1,
      )

  parted_below : (kids : Pages) (left : List Fence) (own : Fence) (right : List Fence)
      → flat_map (children kids) (left ++ (own ∷ right)) ≡ flat_map (children kids) left
      ++ (children kids own ++ flat_map (children kids) right)
  parted_below kids left own right = flat_map-append (children kids) left (own ∷ right)

  at_page : Inserted (layer pages root (suc s.depth))
      (layer others root (suc s.depth)) sp.page sp.separator sp.new
  at_page =
      let l = s.there in
      let all : AllByRecursion (Member pages nodes (suc s.tall)) (l.left ++ (l.own ∷ l.right)) =
      subst (AllByRecursion (Member pages nodes (suc s.tall))) l.are
      (members pages root items nodes level s.depth (suc s.tall) s.stands s.deep) in
      let few : times sp.parent (map page_in (layer pages root s.depth)) ≤ 1 =
      (let a = heads_of pages root items nodes level s.depth (suc s.tall) s.stands s.deep sp.parent in
      let b = s.once sp.parent in omega (arith, a, b)) in
      let apart =
      alone sp.parent l.left l.own l.right l.is
      (subst (λ (fs : List Fence). times sp.parent (map page_in fs) ≤ 1) l.are few) in
      let a =
      beside_parent l.left apart.0
      (all_left (Member pages nodes (suc s.tall)) l.left (l.own ∷ l.right) all) in
      let b =
      beside_parent l.right apart.1
      (all_right (Member pages nodes (suc s.tall)) l.left (l.own ∷ l.right) all).1 in
      let A : List Fence = flat_map (children pages) l.left in
      let B : List Fence = flat_map (children pages) l.right in
      let e : InnerItem = record { key = sp.separator; child = sp.new } in
      let old : layer pages root (suc s.depth) ≡ A
      ++ (cut l.own.low (sp.before ++ (sp.entry ∷ sp.behind)) ++ B) =
      ap (flat_map (children pages)) l.are ∙ (parted_below pages l.left l.own l.right
      ∙ ap (λ (x : List InnerItem). A ++ (cut l.own.low x ++ B))
      (ap (λ (q : ℕ). entries_in (pages q)) l.is ∙ sp.was)) in
      let now : layer others root (suc s.depth) ≡ A
      ++ (cut l.own.low (sp.before ++ (sp.entry ∷ (e ∷ sp.behind))) ++ B) =
      ap (flat_map (children others)) (above s.depth (suc s.tall) s.deep (omega arith) ∙ l.are)
      ∙ (parted_below others l.left l.own l.right
      ∙ (ap
      (λ (x : List Fence). x ++ (children others l.own ++ flat_map (children others) l.right)) a
      ∙ (ap (λ (x : List Fence). A ++ (children others l.own ++ x)) b
      ∙ ap (λ (x : List InnerItem). A ++ (cut l.own.low x ++ B))
      (ap (λ (q : ℕ). entries_in (others q)) l.is ∙ sp.is)))) in
      let i =
      insert_between A B _ _ sp.entry.child sp.separator sp.new
      (cut_more l.own.low sp.before sp.entry e sp.behind) in
      record {
        left = i.left;
        own = i.own;
        right = i.right;
        was = old ∙ i.was;
        is = now ∙ i.is;
        page_is = i.page_is ∙ sp.child;
      }

  under_page : (h : ℕ) → s.tall ≡ suc h
      → layer others root (suc (suc s.depth)) ≡ layer pages root (suc (suc s.depth))
  under_page h high =
      let i = at_page in
      let deep : suc s.depth + s.tall ≡ level = (let d = s.deep in omega (arith, d)) in
      let all : AllByRecursion (Member pages nodes s.tall) (i.left ++ (i.own ∷ i.right)) =
      subst (AllByRecursion (Member pages nodes s.tall)) i.was
      (members pages root items nodes level (suc s.depth) s.tall s.stands deep) in
      let few : times sp.page (map page_in (layer pages root (suc s.depth))) ≤ 1 =
      (let a = heads_of pages root items nodes level (suc s.depth) s.tall s.stands deep sp.page in
      let b = s.once sp.page in omega (arith, a, b)) in
      let apart =
      alone sp.page i.left i.own i.right i.page_is
      (subst (λ (fs : List Fence). times sp.page (map page_in fs) ≤ 1) i.was few) in
      let a =
      beside_page i.left apart.0
      (all_left (Member pages nodes s.tall) i.left (i.own ∷ i.right) all) in
      let b =
      beside_page i.right apart.1
      (all_right (Member pages nodes s.tall) i.left (i.own ∷ i.right) all).1 in
      let tall : Tall pages (suc h) sp.page =
      subst (λ (n : ℕ). Tall pages n sp.page) high s.page_tall in
      let halves = halves_join i.own.low _ _ _ sp.separator (sp.halves tall.0) in
      let A : List Fence = flat_map (children pages) i.left in
      let B : List Fence = flat_map (children pages) i.right in
      let g : Fence = record { low = Some sp.separator; page = sp.new } in
      ap (flat_map (children others)) i.is ∙ (parted_below others i.left i.own (g ∷ i.right)
      ∙ (ap
      (λ (x : List Fence). x
      ++ (children others i.own ++ (children others g ++ flat_map (children others) i.right))) a
      ∙ (ap (λ (x : List Fence). A ++ (children others i.own ++ (children others g ++ x))) b
      ∙ (ap
      (λ (q : ℕ). A ++ (cut i.own.low (entries_in (others q)) ++ (children others g ++ B)))
      i.page_is
      ∙ (ap (λ (x : List Fence). A ++ x)
      (sym (append_assoc (cut i.own.low (entries_in (others sp.page))) (children others g) B))
      ∙ (ap (λ (x : List Fence). A ++ (x ++ B)) (halves
      ∙ ap (λ (q : ℕ). cut i.own.low (entries_in (pages q))) (sym i.page_is))
      ∙ (sym (parted_below pages i.left i.own i.right)
      ∙ ap (flat_map (children pages)) (sym i.was))))))))

  deeper : (k depth tall : ℕ) → depth ≡ k + suc (suc s.depth) → depth + tall ≡ level
      → layer others root depth ≡ layer pages root depth
  deeper zero depth tall d e =
      let same : depth ≡ suc (suc s.depth) = omega (arith, d) in
      subst (λ (n : ℕ). layer others root n ≡ layer pages root n) (sym same)
      (under_page tall (let x = s.deep in omega (arith, x, d, e)))
  deeper (suc k) zero tall d e = absurd (omega (arith, d))
  deeper (suc k) (suc depth) tall d e =
      let up : depth + suc tall ≡ level = omega (arith, e) in
      let x = s.deep in
      same_deeper pages others root depth (deeper k depth (suc tall) (omega (arith, d)) up)
      (all_map (Member pages nodes (suc tall)) _ (layer pages root depth)
      (λ f m.
      else_same (suc tall) f (λ q. omega (arith, q, d, e, x))
      (λ q. omega (arith, q, d, e, x)) m)
      (members pages root items nodes level depth (suc tall) s.stands up))

  -- each layer is as it was, or has a new page behind the one that was split
  pub splits_layers : (depth tall : ℕ) → depth + tall ≡ level
      → (layer others root depth ≡ layer pages root depth)
      ⊎ Inserted (layer pages root depth) (layer others root depth) sp.page sp.separator sp.new
  splits_layers depth tall e = go (cases depth s.depth)
    where
      cases : (d p : ℕ) → (d ≤ p) ⊎ ((d ≡ suc p) ⊎ (suc (suc p) ≤ d))
      cases d p = grind arith

      go : (depth ≤ s.depth) ⊎ ((depth ≡ suc s.depth) ⊎ (suc (suc s.depth) ≤ depth))
          → (layer others root depth ≡ layer pages root depth)
          ⊎ Inserted (layer pages root depth)
          (layer others root depth) sp.page sp.separator sp.new
      go (inl l) = inl (above depth tall e (let d = s.deep in omega (arith, l, d, e)))
      go (inr (inl same)) =
          inr (subst
          (λ (n : ℕ).
          Inserted (layer pages root n) (layer others root n) sp.page sp.separator sp.new)
          (sym same) at_page)
      go (inr (inr more)) = inl (deeper (depth - suc (suc s.depth)) depth tall (omega (arith, more)) e)

page_there : (pages others : Pages) (root : ℕ) (nodes : List ℕ) (lsn depth : ℕ)
    (sp : Splits pages others nodes lsn) (l : Located (layer pages root depth) sp.parent)
    → (i : List Fence) × (own : Fence) × (j : List Fence)
    × (layer pages root (suc depth) ≡ i ++ (own ∷ j)) × (own.page ≡ sp.page)
page_there pages others root nodes lsn depth sp l =
    let A : List Fence = flat_map (children pages) l.left in
    let B : List Fence = flat_map (children pages) l.right in
    let c = cut_more l.own.low sp.before sp.entry sp.entry sp.behind in (
      A ++ c.left,
      c.own,
      c.right ++ B,
      ap (flat_map (children pages)) l.are
          ∙ (flat_map-append (children pages) l.left (l.own ∷ l.right)
          ∙ (ap (λ (x : List InnerItem). A ++ (cut l.own.low x ++ B))
          (ap (λ (q : ℕ). entries_in (pages q)) l.is ∙ sp.was)
          ∙ (ap (λ (x : List Fence). A ++ (x ++ B)) c.was
          ∙ (ap (λ (x : List Fence). A ++ x) (append_assoc c.left (c.own ∷ c.right) B)
          ∙ sym (append_assoc A c.left (c.own ∷ (c.right ++ B))))))),
      c.page_is ∙ sp.child,
    )

pub setting : (pages others : Pages) (root : ℕ) (items : Items) (tree : Tree pages root items)
    (lsn : ℕ)
    → (sp : Splits pages others tree.nodes lsn)
    → Setting pages others root items tree.nodes tree.level lsn sp
setting pages others root items tree lsn sp =
    let pl = placed pages root items tree.nodes tree.level sp.parent tree.stands sp.here in
    let l = pl.there in
    let m = own_of (Member pages tree.nodes pl.tall) l.left l.own l.right
    (subst (AllByRecursion (Member pages tree.nodes pl.tall)) l.are
    (members pages root items tree.nodes tree.level pl.depth pl.tall tree.stands pl.deep))
    in
    go pl.tall pl.depth pl.deep l (subst (Tall pages pl.tall) l.is m.tall_is)
  where
    go : (tall depth : ℕ) → depth + tall ≡ tree.level → Located (layer pages root depth) sp.parent
        → Tall pages tall sp.parent
        → Setting pages others root items tree.nodes tree.level lsn sp
    go zero depth e l t = absurd (true_false (is_leaf (pages sp.parent).kind) t sp.over)
    go (suc h) depth e l t =
        let there = page_there pages others root tree.nodes lsn depth sp l in
        let deep : suc depth + h ≡ tree.level = omega (arith, e) in
        let m = own_of (Member pages tree.nodes h) there.0 there.1 there.2
        (subst (AllByRecursion (Member pages tree.nodes h)) there.3
        (members pages root items tree.nodes tree.level (suc depth) h tree.stands deep)) in
        record {
          stands = tree.stands;
          once = λ q. distinct_once q tree.nodes tree.apart;
          depth = depth;
          tall = h;
          deep = e;
          there = l;
          parent_tall = t;
          page_tall = subst (Tall pages h) there.4 m.tall_is;
        }
