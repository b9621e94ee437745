-- A descent comes to the leaf for its key.
use Rattle.std.proofs.Common.{◌≤◌, ◌+◌, ℕ, zero, suc, sym, subst, arith}
use Rattle.page_image.specs.Image.{Image}
use Rattle.bplus_tree.specs.Tree.{NotBelow, Below}
use Rattle.bplus_tree.specs.Walk.{LeadsTo, start}
use Rattle.tree_timeline.specs.Ranges.{Covers, StandsFor}
use Rattle.tree_timeline.specs.Timeline.{Timeline}
use Rattle.tree_timeline.specs.Types.{Key, Bound, PagesAt, ItemsAt}
use Rattle.tree_timeline.specs.Walks.{Descends, DescendsLightly}
use Rattle.tree_timeline.proofs.Children.{leads_of, child_of}
use Rattle.tree_timeline.proofs.Passing.{still, unchanged}

pub descends : (at : PagesAt) (root from : ℕ) (items : ItemsAt) → Timeline at root from items
    → (key : Key)
    → (tall page t leaf u : ℕ) (low high : Bound) → Covers (at t) root tall page low high
    → NotBelow low key → Below high key
    → Descends at key tall page t leaf u → (t ≤ u) × StandsFor (at u) root 0 leaf key
descends at root from items tl key zero page t leaf u low high c n b (same, now) = (
  omega (arith, now),
  subst (λ (v : ℕ). StandsFor (at v) root 0 leaf key) (sym now)
      (subst (λ (q : ℕ). StandsFor (at t) root 0 q key) (sym same)
      (record { low = low; high = high; covers = c; from = n; below = b })),
)
descends at root from items tl key (suc tall) page t leaf u low high c n b
    (child, v, later, same, leads, rest) =
    let here = unchanged at root from items tl t v (suc tall) page low high c later same in
    let leads' : LeadsTo (at v page) key child =
    subst (λ (i : Image). LeadsTo i key child) (sym (same v later (omega arith))) leads in
    let d = child_of (at v) root (items v) (tl.tree v) tall page child low high key here n b
    (leads_of (at v) root (items v) (tl.tree v) tall page child low high key here leads') in
    let r =
    descends at root from items tl key tall child v leaf u d.low d.high d.covers d.from d.below
    rest in
    (omega (arith, later, r.0), r.1)

pub descends_lightly : (at : PagesAt) (root from : ℕ) (items : ItemsAt)
    → Timeline at root from items → (start : ℕ) (key : Key)
    → (tall page t leaf u : ℕ) (low high : Bound) → start ≤ t
    → Covers (at t) root tall page low high → NotBelow low key → Below high key
    → DescendsLightly at (from + start) key tall page t leaf u
    → (start ≤ u) × StandsFor (at u) root 0 leaf key
descends_lightly at root from items tl start key zero page t leaf u low high after c n b
    (same, now) = (
      omega (arith, now, after),
      subst (λ (v : ℕ). StandsFor (at v) root 0 leaf key) (sym now)
          (subst (λ (q : ℕ). StandsFor (at t) root 0 q key) (sym same)
          (record { low = low; high = high; covers = c; from = n; below = b })),
    )
descends_lightly at root from items tl start key (suc tall) page t leaf u low high after c n b
    (child, v, later, leads, old, rest) =
    let d = child_of (at t) root (items t) (tl.tree t) tall page child low high key c n b
    (leads_of (at t) root (items t) (tl.tree t) tall page child low high key c leads) in
    let s =
    still at root from items tl t v tall child d.low d.high d.covers later
    (omega (arith, old, after)) in
    descends_lightly at root from items tl start key tall child v leaf u d.low d.high
    (omega (arith, after, later)) s.covers d.from d.below rest
