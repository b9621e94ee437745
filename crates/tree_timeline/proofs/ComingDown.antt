-- A search comes down to the leaf of its low end.
use Rattle.std.proofs.Common.{◌≡◌, ◌≤◌, ◌+◌, ℕ, zero, suc, true, false, List, [], ◌∷◌, refl, sym, ap, subst, ◌∙◌, arith, inl, inr, Some}
use Rattle.std.specs.Prelude.{◌⊎◌}
use Rattle.std.proofs.lemmas.Option.{same_Some}
use Rattle.page_image.specs.Image.{Image}
use Rattle.page_image.specs.declared.kind.Kind.{Kind}
use Rattle.bplus_tree.specs.Tree.{NotBelow, Below, is_leaf}
use Rattle.bplus_tree.specs.Walk.{LeadsTo, sought, Walking, Moves, after_inner}
use Rattle.bplus_tree.specs.declared.want.Want.{Want}
use Rattle.bplus_tree.specs.declared.want.Want.TheVariants.{Need, Leaf, Finished}
use Rattle.tree_timeline.specs.Ranges.{Covers, StandsFor}
use Rattle.tree_timeline.specs.Searching.{HoldsToNext, Searches}
use Rattle.tree_timeline.specs.Timeline.{Timeline, Unchanged}
use Rattle.tree_timeline.specs.Types.{Bound, PagesAt, ItemsAt}
use Rattle.tree_timeline.specs.Walks.{Visit}
use Rattle.tree_timeline.proofs.Children.{leads_of, child_of, inner_kind}
use Rattle.tree_timeline.proofs.Members.{covers_member}
use Rattle.tree_timeline.proofs.Passing.{still, unchanged}
use Rattle.page_image.specs.declared.kind.Kind.TheVariants as kind

pub leaf_kind : (k : Kind) → is_leaf k ≡ true → k ≡ kind.Leaf
leaf_kind kind.Unmade e = absurd (let h : false ≡ true = e in cc)
leaf_kind kind.Meta e = absurd (let h : false ≡ true = e in cc)
leaf_kind kind.Slots e = absurd (let h : false ≡ true = e in cc)
leaf_kind kind.Stamps e = absurd (let h : false ≡ true = e in cc)
leaf_kind kind.Leaf e = refl
leaf_kind kind.Inner e = absurd (let h : false ≡ true = e in cc)
leaf_kind kind.Undo e = absurd (let h : false ≡ true = e in cc)

abbrev pub walking : Bound → Bound → Want → ℕ → ℕ → Walking
walking low high want depth passed =
    record { low = low; high = high; want = want; depth = depth; passed = passed }

-- the search has come to the leaf of the low end, and wants it as the first of the range
pub record Arrived (at : PagesAt) (root from : ℕ) (low high : Bound) (reads : List Visit)
    (since : ℕ) : Type 0 where
  pub x : Visit
  pub depth : ℕ
  pub later : List Visit
  pub after : since ≤ x.time
  pub child : StandsFor (at x.time) root 0 x.page (sought low)
  pub held : HoldsToNext at from (Some x) later
  pub run : Searches at from (walking low high (Leaf x.page) depth 0) x.time later reads

pub come_down : (at : PagesAt) (root from : ℕ) (items : ItemsAt) → Timeline at root from items
    → (low high : Bound) (tall d page t : ℕ) (v : Visit) (rest reads : List Visit) (l h : Bound)
    → tall + d ≤ 8
    → Covers (at v.time) root tall page l h → NotBelow l (sought low) → Below h (sought low)
    → Searches at from (walking low high (Need page) d 0) t (v ∷ rest) reads
    → Arrived at root from low high reads v.time
come_down at root from items tl low high zero d page t v rest reads l h few c n b
    (new, more, wants, later, told, holds, adds, run) =
    let same : page ≡ v.page = same_Some page v.page wants in
    let m = covers_member (at v.time) root (items v.time) (tl.tree v.time) 0 page l h c in
    let k : (at v.time v.page).kind ≡ kind.Leaf =
    ap (λ (q : ℕ). (at v.time q).kind) (sym same) ∙ leaf_kind (at v.time page).kind m.1 in
    let told' : new ≡ walking low high (Leaf page) d 0 =
    subst
    (λ (y : Kind).
    Moves (Need page) y (walking low high (Need page) d 0) (at v.time v.page) new) k told in
    let now : new ≡ walking low high (Leaf v.page) d 0 =
    told' ∙ ap (λ (q : ℕ). walking low high (Leaf q) d 0) same in
    record {
      x = v;
      depth = d;
      later = rest;
      after = omega arith;
      child =
          record {
            low = l;
            high = h;
            covers = subst (λ (q : ℕ). Covers (at v.time) root 0 q l h) same c;
            from = n;
            below = b;
          };
      held = holds;
      run =
          subst
          (λ (r : List Visit). Searches at from (walking low high (Leaf v.page) d 0) v.time rest r)
          (sym adds)
          (subst (λ (w : Walking). Searches at from w v.time rest more) now run);
    }
come_down at root from items tl low high (suc tall) d page t v rest reads l h few c n b
    (new, more, wants, later, told, holds, adds, run) =
    let same : page ≡ v.page = same_Some page v.page wants in
    let k : (at v.time v.page).kind ≡ kind.Inner =
    ap (λ (q : ℕ). (at v.time q).kind) (sym same)
    ∙ inner_kind (at v.time) root (items v.time) (tl.tree v.time) tall page l h c in
    let told' : after_inner (walking low high (Need page) d 0) (at v.time v.page) new =
    subst
    (λ (y : Kind).
    Moves (Need page) y (walking low high (Need page) d 0) (at v.time v.page) new) k told in
    let step = told'.1 (omega (arith, few)) in
    go (come_down at root from items tl low high tall (d + 1)) step.0
    (subst (λ (q : ℕ). LeadsTo (at v.time q) (sought low) step.0) (sym same) step.1) same rest
    holds
    (subst (λ (w : Walking). Searches at from w v.time rest more) step.2 run)
  where
    on_child : (child : ℕ) → LeadsTo (at v.time page) (sought low) child → page ≡ v.page
        → (y : Visit) → v.time ≤ y.time → child ≡ y.page
        → Unchanged at v.page v.time y.time ⊎ ((at y.time y.page).structure ≤ from + v.time)
        → StandsFor (at y.time) root tall child (sought low)
    on_child child leads same y le named (inl held) =
        let stays : Unchanged at page v.time y.time =
        subst (λ (q : ℕ). Unchanged at q v.time y.time) (sym same) held in
        let here = unchanged at root from items tl v.time y.time (suc tall) page l h c le stays in
        let leads' : LeadsTo (at y.time page) (sought low) child =
        subst (λ (i : Image). LeadsTo i (sought low) child)
        (sym (stays y.time le (omega arith))) leads in
        child_of (at y.time) root (items y.time) (tl.tree y.time) tall page child l h
        (sought low) here n b
        (leads_of (at y.time) root (items y.time) (tl.tree y.time) tall page child l h
        (sought low) here leads')
    on_child child leads same y le named (inr old) =
        let e =
        child_of (at v.time) root (items v.time) (tl.tree v.time) tall page child l h
        (sought low) c n b
        (leads_of (at v.time) root (items v.time) (tl.tree v.time) tall page child l h
        (sought low) c leads) in
        let s =
        still at root from items tl v.time y.time tall child e.low e.high e.covers le
        (subst (λ (q : ℕ). (at y.time q).structure ≤ from + v.time) (sym named) old) in
        record { low = e.low; high = e.high; covers = s.covers; from = e.from; below = e.below }

    go : ((page t : ℕ) (y : Visit) (rest reads : List Visit) (l h : Bound) → tall + (d + 1) ≤ 8
        → Covers (at y.time) root tall page l h
        → NotBelow l (sought low) → Below h (sought low)
        → Searches at from (walking low high (Need page) (d + 1) 0) t (y ∷ rest) reads
        → Arrived at root from low high reads y.time)
        → (child : ℕ) → LeadsTo (at v.time page) (sought low) child → page ≡ v.page
        → (rs : List Visit) → HoldsToNext at from (Some v) rs
        → Searches at from (walking low high (Need child) (d + 1) 0) v.time rs more
        → Arrived at root from low high reads v.time
    go deeper child leads same [] held r = absurd (let e : Need child ≡ Finished = r.0 in cc)
    go deeper child leads same (y ∷ rs) held r =
        let le : v.time ≤ y.time = r.3 in
        let named : child ≡ y.page = same_Some child y.page r.2 in
        let e = on_child child leads same y le named held in
        let a =
        deeper child v.time y rs more e.low e.high
        (omega (arith, few)) e.covers e.from e.below r in
        record {
          x = a.x;
          depth = a.depth;
          later = a.later;
          after = (let z = a.after in omega (arith, z, le));
          child = a.child;
          held = a.held;
          run =
              subst
              (λ (x : List Visit).
              Searches at from (walking low high (Leaf a.x.page) a.depth 0) a.x.time a.later x)
              (sym adds) a.run;
        }
