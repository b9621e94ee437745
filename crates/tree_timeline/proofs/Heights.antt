-- How high the pages of a layer stand, by their images.
use Rattle.std.proofs.Common.{◌≡◌, ◌≤◌, ◌+◌, ℕ, zero, suc, Bool, true, false, List, [], ◌∷◌, ◌++◌, map, Some, refl, sym, ap, ◌∙◌, arith}
use Rattle.std.specs.Prelude.{nat_eq}
use Rattle.std.specs.List.{AllByRecursion}
use Rattle.bplus_tree.specs.Tree.{Stands, is_leaf}
use Rattle.tree_timeline.specs.Fences.{Fence}
use Rattle.tree_timeline.specs.Ranges.{height}
use Rattle.tree_timeline.specs.Types.{Bound, Items, Pages}
use Rattle.tree_timeline.proofs.Counting.{one_if, times, times_append}
use Rattle.tree_timeline.proofs.Places.{page_in}
use Rattle.tree_timeline.proofs.Rows.{Row}

pub stands_first : (pages : Pages) (level page : ℕ) (low high : Bound) (items : Items)
    (nodes : List ℕ)
    → Stands pages level page low high items nodes → (below : List ℕ) × (nodes ≡ page ∷ below)
stands_first pages zero page low high items nodes s = ([], s.1)
stands_first pages (suc level) page low high items nodes s = (s.1, s.4)

pub heads_fewer : (pages : Pages) (l : ℕ) (f : Fence) (fs : List Fence) (high : Bound)
    (items : Items) (nodes : List ℕ) (q : ℕ)
    → Row pages l (f ∷ fs) high items nodes → times q (map page_in (f ∷ fs)) ≤ times q nodes
heads_fewer pages l f [] high items nodes q s =
    let first = stands_first pages l f.page f.low high items nodes s in
    let h : times q nodes ≡ one_if (nat_eq q f.page) + times q first.0 = ap (times q) first.1 in
    omega (arith, h)
heads_fewer pages l f (g ∷ fs) high items nodes q
    (key, first, others, left, right, low, stands, beyond, below, row, its, nds) =
    let a = stands_first pages l f.page f.low (Some key) first left stands in
    let h : times q left ≡ one_if (nat_eq q f.page) + times q a.0 = ap (times q) a.1 in
    let ih = heads_fewer pages l g fs high others right q row in
    let i : times q nodes ≡ times q (left ++ right) = ap (times q) nds in
    let j = times_append q left right in
    omega (arith, h, ih, i, j)

-- how high a page stands, by its image
abbrev pub Tall : Pages → ℕ → ℕ → Type 0
Tall pages zero q = is_leaf (pages q).kind ≡ true
Tall pages (suc l) q = (is_leaf (pages q).kind ≡ false) × ((pages q).level ≡ suc l)

pub stands_tall : (pages : Pages) (level page : ℕ) (low high : Bound) (items : Items)
    (nodes : List ℕ)
    → Stands pages level page low high items nodes → Tall pages level page
stands_tall pages zero page low high items nodes s = ap is_leaf s.0.kind
stands_tall pages (suc level) page low high items nodes s = (ap is_leaf s.2.kind, s.2.height)

pub row_tall : (pages : Pages) (l : ℕ) (f : Fence) (fs : List Fence) (high : Bound) (items : Items)
    (nodes : List ℕ)
    → Row pages l (f ∷ fs) high items nodes → AllByRecursion (λ g. Tall pages l g.page) (f ∷ fs)
row_tall pages l f [] high items nodes s = (stands_tall pages l f.page f.low high items nodes s, tt)
row_tall pages l f (g ∷ fs) high items nodes
    (key, first, others, left, right, low, stands, beyond, below, row, its, nds) = (
      stands_tall pages l f.page f.low (Some key) first left stands,
      row_tall pages l g fs high others right row,
    )

pub tall_height : (pages : Pages) (l q : ℕ) → Tall pages l q → height (pages q) ≡ l
tall_height pages zero q t = rw t refl
tall_height pages (suc l) q t = rw t.0 t.1

pub true_false : (b : Bool) → b ≡ true → b ≡ false → ⊥
true_false b t f = let h : true ≡ false = sym t ∙ f in cc
