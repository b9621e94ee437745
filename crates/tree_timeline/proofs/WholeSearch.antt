-- A search that is told of images of different times reads as a walk does.
use Rattle.std.proofs.Common.{◌≡◌, ◌≤◌, ◌+◌, ℕ, List, [], ◌∷◌, None, sym, subst, arith, inl, inr, Some}
use Rattle.std.specs.Prelude.{◌⊎◌, nat_eq}
use Rattle.std.specs.List.{IsDistinct}
use Rattle.std.proofs.lemmas.Option.{same_Some}
use Rattle.bplus_tree.specs.Walk.{sought, start}
use Rattle.bplus_tree.specs.declared.want.Want.TheVariants.{Need, Leaf, Finished}
use Rattle.tree_timeline.specs.Found.{FindsEach, SearchFinds}
use Rattle.tree_timeline.specs.Ranges.{height, Covers, StandsFor}
use Rattle.tree_timeline.specs.Searching.{HoldsToNext, Searches}
use Rattle.tree_timeline.specs.Timeline.{Timeline, Unchanged}
use Rattle.tree_timeline.specs.Types.{Bound, PagesAt, ItemsAt}
use Rattle.tree_timeline.specs.Walks.{Visit, last_of}
use Rattle.tree_timeline.proofs.ComingDown.{walking, Arrived, come_down}
use Rattle.tree_timeline.proofs.Finding.{finds_from}
use Rattle.tree_timeline.proofs.GoingOn.{go_on}
use Rattle.tree_timeline.proofs.Heights.{stands_tall, tall_height}
use Rattle.tree_timeline.proofs.Members.{covers_root}
use Rattle.tree_timeline.proofs.Passing.{still, unchanged}

no_two : IsDistinct nat_eq []
unfolding IsDistinct
no_two = tt

pub search_finds : (at : PagesAt) (root from : ℕ) (items : ItemsAt) → Timeline at root from items
    → root ≤ 32767
    → (low high : Bound) (t : ℕ) (visits reads : List Visit)
    → Searches at from (start root low high) t visits reads
    → SearchFinds at reads items low high t
search_finds at root from items tl small low high t [] reads s =
    absurd (let e : Need root ≡ Finished = s.0 in cc)
search_finds at root from items tl small low high t (x ∷ visits) reads s =
    let low_tall =
    tall_height (at x.time) (tl.tree x.time).level root
    (stands_tall (at x.time) (tl.tree x.time).level root None None (items x.time)
    (tl.tree x.time).nodes (tl.tree x.time).stands) in
    let few = (tl.tree x.time).low_enough in
    let a =
    come_down at root from items tl low high
    (height (at x.time root)) 0 root t x visits reads None None (omega (arith, low_tall, few))
    (covers_root (at x.time) root) tt tt s in
    go a a.later a.held a.run
  where
    again : (a : Arrived at root from low high reads x.time)
        (c : StandsFor (at a.x.time) root 0 a.x.page (sought low)) (y : Visit) → a.x.time ≤ y.time
        → a.x.page ≡ y.page
        → Unchanged at a.x.page a.x.time y.time ⊎ ((at y.time y.page).structure ≤ from + a.x.time)
        → Covers (at y.time) root 0 a.x.page c.low c.high
    again a c y le same (inl held) =
        unchanged at root from items tl a.x.time y.time 0 a.x.page c.low c.high c.covers le held
    again a c y le same (inr old) =
        (still at root from items tl a.x.time y.time 0 a.x.page c.low c.high c.covers le
        (subst (λ (q : ℕ). (at y.time q).structure ≤ from + a.x.time) (sym same) old)).covers

    go : (a : Arrived at root from low high reads x.time) → (later : List Visit)
        → HoldsToNext at from (Some a.x) later
        → Searches at from (walking low high (Leaf a.x.page) a.depth 0) a.x.time later reads
        → SearchFinds at reads items low high t
    go a [] held r = absurd (let e : Leaf a.x.page ≡ Finished = r.0 in cc)
    go a (y ∷ rest) held r =
        let same : a.x.page ≡ y.page = same_Some a.x.page y.page r.2 in
        let le : a.x.time ≤ y.time = r.3 in
        let c = a.child in
        let here : Covers (at y.time) root 0 y.page c.low c.high =
        subst (λ (q : ℕ). Covers (at y.time) root 0 q c.low c.high) same
        (again a c y le same held) in
        let tr =
        go_on at root from items tl small low high a.depth a.x.time y rest reads [] c.low c.high
        here no_two tt
        (subst
        (λ (q : ℕ).
        Searches at from (walking low high (Leaf q) a.depth 0) a.x.time (y ∷ rest) reads)
        same r) in
        let after : t ≤ y.time = (let p = s.3 in let q = a.after in omega (arith, p, q, le)) in
        let f =
        finds_from at root from items tl low high t y tr.more after
        (record { low = c.low; high = c.high; covers = here; from = c.from; below = c.below })
        tr.follows tr.ends in
        record {
          first = y;
          rest = tr.more;
          reads_are = tr.are;
          finds = subst
              (λ (rs : List Visit). FindsEach at rs items low high t (last_of y tr.more).time)
              (sym tr.are) f;
        }
