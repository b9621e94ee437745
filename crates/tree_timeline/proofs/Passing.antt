-- What stays of the range of a page over time.
use Rattle.std.proofs.Common.{◌≡◌, ◌≢◌, ◌≤◌, ◌<◌, ◌+◌, ℕ, zero, suc, true, false, List, [], ◌∷◌, None, refl, sym, ap, subst, ◌∙◌, arith, ◌-◌, inl, inr}
use Rattle.std.specs.Prelude.{◌⊎◌, nat_eq}
use Rattle.std.specs.declared.cmp.Ordering.TheVariants.{Less}
use Rattle.std.proofs.lemmas.Bool.Decides.{eqb_tells}
use Rattle.page_image.specs.Image.{Image}
use Rattle.page_view.specs.Keys.{key_cmp}
use Rattle.bplus_tree.proofs.Order.{less_less}
use Rattle.bplus_tree.specs.Tree.{Beyond, Below, Tree, is_leaf}
use Rattle.tree_timeline.specs.Fences.{Fence, entries_in, low_after}
use Rattle.tree_timeline.specs.Ranges.{height, Covers, Remains}
use Rattle.tree_timeline.specs.Timeline.{Timeline, Unchanged}
use Rattle.tree_timeline.specs.Types.{Key, Bound, Items, Pages, PagesAt, ItemsAt}
use Rattle.tree_timeline.proofs.Heights.{Tall, true_false}
use Rattle.tree_timeline.proofs.Keeping.{Falls, Marked, Kept, kept}
use Rattle.tree_timeline.proofs.Members.{covers_member, covers_root}
use Rattle.tree_timeline.proofs.Neighbours.{Rest, right_of}
use Rattle.tree_timeline.proofs.Places.{fence}

-- a page other than the root keeps its height and its least key for ever, and its range only
-- shrinks
abbrev pub Shrinks : Bound → Bound → Type 0
Shrinks now high = (key : Key) → Below now key → Below high key

falls_shrinks : (others : Pages) (root : ℕ) (items : Items) (tree : Tree others root items)
    (tall q : ℕ) (low now high : Bound)
    → (c : Covers others root tall q low now) → Falls others root tall q low now high c
    → Shrinks now high
falls_shrinks others root items tree tall q low now high c (inl e) =
    λ k b. subst (λ (o : Bound). Below o k) e b
falls_shrinks others root items tree tall q low now high c (inr (g, rest, right_is, end)) =
    go rest end
    (subst (Rest others tall (fence low q)) right_is
    (right_of others root items tree tall q low now c)) (c.high_is ∙ ap low_after right_is)
  where
    go : (fs : List Fence) → low_after fs ≡ high → Rest others tall (fence low q) (g ∷ fs)
        → now ≡ g.low → Shrinks now high
    go [] e r n k b = subst (λ (o : Bound). Below o k) e tt
    go (x ∷ fs) e r n k b =
        let row = r.row.9 in
        let b' : key_cmp k r.row.0 ≡ Less = subst (λ (o : Bound). Below o k) (n ∙ r.row.5) b in
        let b'' : key_cmp r.row.0 row.0 ≡ Less =
        subst (λ (o : Bound). Beyond o row.0) r.row.5 row.7 in
        subst (λ (o : Bound). Below o k) (sym row.5 ∙ e) (less_less k r.row.0 row.0 b' b'')

later : (at : PagesAt) (root from : ℕ) (items : ItemsAt) → Timeline at root from items
    → (t tall q : ℕ) (low high : Bound) → Covers (at t) root tall q low high → q ≢ root
    → (d u : ℕ) → u ≡ d + t → Remains (at u) root tall q low high
later at root from items tl t tall q low high c n zero u e =
    let same : t ≡ u = omega (arith, e) in
    record {
      now = high;
      covers = subst (λ (v : ℕ). Covers (at v) root tall q low high) same c;
      falls = λ k b. b;
    }
later at root from items tl t tall q low high c n (suc d) zero e = absurd (omega (arith, e))
later at root from items tl t tall q low high c n (suc d) (suc u) e =
    let b = later at root from items tl t tall q low high c n d u (omega (arith, e)) in
    go b.now b.falls
    (kept (at u) (at (suc u)) root (items u) (tl.tree u) tall q (from + suc u) low b.now
    (tl.step u) b.covers)
  where
    go : (h : Bound) → Shrinks h high → Kept (at u) (at (suc u)) root tall q low h (from + suc u)
        → Remains (at (suc u)) root tall q low high
    go h s (inl same) = record { now = h; covers = same.covers; falls = s }
    go h s (inr marked) =
        let m = marked.covers n in
        let f =
        falls_shrinks (at (suc u)) root (items (suc u))
        (tl.tree (suc u)) tall q low m.0 h m.1 m.2 in
        record { now = m.0; covers = m.1; falls = λ k b. s k (f k b) }

pub stays_there : (at : PagesAt) (root from : ℕ) (items : ItemsAt) → Timeline at root from items
    → (t u tall q : ℕ) (low high : Bound) → Covers (at t) root tall q low high → q ≢ root → t ≤ u
    → Remains (at u) root tall q low high
stays_there at root from items tl t u tall q low high c n l =
    later at root from items tl t tall q low high c n (u - t) u (omega (arith, l))

-- Where the structure number at a later time is of the first time, or earlier, the page has the
-- range and the entries that it had.
pub record Still (at : PagesAt) (root tall q : ℕ) (low high : Bound) (t u : ℕ) : Type 0 where
  pub covers : Covers (at u) root tall q low high
  pub entries : is_leaf (at t q).kind ≡ false → entries_in (at u q) ≡ entries_in (at t q)

-- the page stands somewhere, and its structure number tells of a later time
record Gone (at : PagesAt) (root q u limit : ℕ) : Type 0 where
  pub tall : ℕ
  pub low : Bound
  pub high : Bound
  pub covers : Covers (at u) root tall q low high
  pub late : limit < (at u q).structure

tall_false : (pages : Pages) (others : Pages) (tall q : ℕ) → Tall pages tall q → Tall others tall q
    → is_leaf (pages q).kind ≡ false → is_leaf (others q).kind ≡ false
tall_false pages others zero q a b e = absurd (true_false (is_leaf (pages q).kind) a e)
tall_false pages others (suc tall) q a b e = b.0

somewhere : (at : PagesAt) (root from : ℕ) (items : ItemsAt) → (t u tall q : ℕ) (low high : Bound)
    → t ≤ u
    → Marked (at (suc u)) root tall q low high (from + suc u) → Gone at root q (suc u) (from + t)
somewhere at root from items t u tall q low high l m = go (eqb_tells q root)
  where
    late : from + t < (at (suc u) q).structure
    late = let s = m.structure in omega (arith, l, s)

    go : ((nat_eq q root ≡ true) × (q ≡ root)) ⊎ ((nat_eq q root ≡ false) × (q ≢ root))
        → Gone at root q (suc u) (from + t)
    go (inl e) = record {
      tall = height (at (suc u) root);
      low = None;
      high = None;
      covers =
          subst (λ (p : ℕ). Covers (at (suc u)) root (height (at (suc u) root)) p None None)
          (sym e.1) (covers_root (at (suc u)) root);
      late = late;
    }
    go (inr n) = let c = m.covers n.1 in
        record { tall = tall; low = low; high = c.0; covers = c.1; late = late }

so_far : (at : PagesAt) (root from : ℕ) (items : ItemsAt) → Timeline at root from items
    → (t tall q : ℕ) (low high : Bound) → Covers (at t) root tall q low high
    → (d u : ℕ) → u ≡ d + t → Still at root tall q low high t u ⊎ Gone at root q u (from + t)
so_far at root from items tl t tall q low high c zero u e =
    let same : t ≡ u = omega (arith, e) in
    inl (subst (Still at root tall q low high t) same (record { covers = c; entries = λ _. refl }))
so_far at root from items tl t tall q low high c (suc d) zero e = absurd (omega (arith, e))
so_far at root from items tl t tall q low high c (suc d) (suc u) e =
    go (so_far at root from items tl t tall q low high c d u (omega (arith, e)))
  where
    after : t ≤ u
    after = omega (arith, e)

    one : Still at root tall q low high t u
        → Kept (at u) (at (suc u)) root tall q low high (from + suc u)
        → Still at root tall q low high t (suc u) ⊎ Gone at root q (suc u) (from + t)
    one s (inl k) =
        let a = covers_member (at t) root (items t) (tl.tree t) tall q low high c in
        let b = covers_member (at u) root (items u) (tl.tree u) tall q low high s.covers in
        inl (record {
          covers = k.covers;
          entries = λ f. k.entries (tall_false (at t) (at u) tall q a.1 b.1 f) ∙ s.entries f;
        })
    one s (inr m) = inr (somewhere at root from items t u tall q low high after m)

    two : (g : Gone at root q u (from + t))
        → Kept (at u) (at (suc u)) root g.tall q g.low g.high (from + suc u)
        → Gone at root q (suc u) (from + t)
    two g (inl k) =
        record {
          tall = g.tall;
          low = g.low;
          high = g.high;
          covers = k.covers;
          late = (let s = k.structure in let l = g.late in omega (arith, s, l));
        }
    two g (inr m) = somewhere at root from items t u g.tall q g.low g.high after m

    go : Still at root tall q low high t u ⊎ Gone at root q u (from + t)
        → Still at root tall q low high t (suc u) ⊎ Gone at root q (suc u) (from + t)
    go (inl s) =
        one s
        (kept (at u) (at (suc u)) root (items u) (tl.tree u) tall q (from + suc u) low high
        (tl.step u) s.covers)
    go (inr g) =
        inr
        (two g
        (kept (at u) (at (suc u)) root (items u) (tl.tree u) g.tall q (from + suc u) g.low g.high
        (tl.step u) g.covers))

pub still : (at : PagesAt) (root from : ℕ) (items : ItemsAt) → Timeline at root from items
    → (t u tall q : ℕ) (low high : Bound) → Covers (at t) root tall q low high → t ≤ u
    → (at u q).structure ≤ from + t → Still at root tall q low high t u
still at root from items tl t u tall q low high c l old =
    go (so_far at root from items tl t tall q low high c (u - t) u (omega (arith, l)))
  where
    go : Still at root tall q low high t u ⊎ Gone at root q u (from + t)
        → Still at root tall q low high t u
    go (inl s) = s
    go (inr g) = absurd (let x = g.late in omega (arith, x, old))

-- a page whose image stays keeps its range
pub unchanged : (at : PagesAt) (root from : ℕ) (items : ItemsAt) → Timeline at root from items
    → (t u tall q : ℕ) (low high : Bound) → Covers (at t) root tall q low high → t ≤ u
    → Unchanged at q t u → Covers (at u) root tall q low high
unchanged at root from items tl t u tall q low high c l same =
    let s = tl.stamped t q in
    let e : (at u q).structure ≡ (at t q).structure =
    ap (λ (i : Image). i.structure) (same u l (omega arith)) in
    (still at root from items tl t u tall q low high c l (omega (arith, s, e))).covers
