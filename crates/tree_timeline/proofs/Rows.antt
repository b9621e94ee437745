-- The layers of a tree that stands: pages side by side, each of which stands for its part.
use Rattle.std.proofs.Common.{◌≡◌, ◌≤◌, ◌+◌, ℕ, zero, suc, List, [], ◌∷◌, ◌++◌, map, Some, None, refl, sym, ap, subst, ◌∙◌, arith, append_assoc}
use Rattle.std.specs.Prelude.{nat_eq}
use Rattle.std.specs.List.{AllByRecursion, flat_map}
use Rattle.std.proofs.lemmas.List.{append-nil}
use Rattle.std.proofs.lemmas.List.Elements.{filter-append}
use Rattle.page_image.specs.Image.{Image}
use Rattle.page_view.proofs.InnerLaws.{inner_back}
use Rattle.page_view.specs.Inner.{InnerItem, inner_bytes, inner_of, IsInner}
use Rattle.bplus_tree.proofs.Ranges.{below_less, no_leaf}
use Rattle.bplus_tree.specs.Tree.{Beyond, Below, Parts, Stands, is_leaf, leaves_of}
use Rattle.tree_timeline.specs.Fences.{Fence, entries_in, fence_of, cut, children, layer}
use Rattle.tree_timeline.specs.Types.{Key, Bound, Items, Pages}
use Rattle.tree_timeline.proofs.Counting.{one_if, times, times_append}
use Rattle.tree_timeline.proofs.Places.{page_in}

-- pages side by side, each of which stands for its part, up to the high bound
abbrev pub Row : Pages → ℕ → List Fence → Bound → Items → List ℕ → Type 0
Row pages level [] high items nodes = ⊥
Row pages level (f ∷ []) high items nodes = Stands pages level f.page f.low high items nodes
Row pages level (f ∷ (g ∷ rest)) high items nodes =
    (key : Key) × (first : Items) × (others : Items) × (left : List ℕ) × (right : List ℕ)
    × (g.low ≡ Some key)
    × Stands pages level f.page f.low (Some key) first left
    × Beyond f.low key
    × Below high key
    × Row pages level (g ∷ rest) high others right
    × (items ≡ first ++ others)
    × (nodes ≡ left ++ right)

pub row_of_parts : (pages : Pages) (l : ℕ) (es : List InnerItem) (low high : Bound) (items : Items)
    (nodes : List ℕ)
    → Parts (Stands pages l) es low high items nodes → Row pages l (cut low es) high items nodes
row_of_parts pages l [] low high items nodes p = absurd p
row_of_parts pages l (e ∷ []) low high items nodes p = p
row_of_parts pages l (e ∷ (n ∷ rest)) low high items nodes
    (first, others, left, right, child, beyond, below, parts, joined, made) = (
      n.key,
      first,
      others,
      left,
      right,
      refl,
      child,
      beyond,
      below,
      row_of_parts pages l (n ∷ rest) (Some n.key) high others right parts,
      joined,
      made,
    )

pub row_join : (pages : Pages) (l : ℕ) (f : Fence) (fs : List Fence) (g : Fence) (gs : List Fence)
    (key : Key) (high : Bound) (i j : Items) (m n : List ℕ)
    → Row pages l (f ∷ fs) (Some key) i m → g.low ≡ Some key → Beyond f.low key → Below high key
    → Row pages l (g ∷ gs) high j n
    → Row pages l ((f ∷ fs) ++ (g ∷ gs)) high (i ++ j) (m ++ n)
row_join pages l f [] g gs key high i j m n a e b c r = (key, i, j, m, n, e, a, b, c, r, refl, refl)
row_join pages l f (f' ∷ fs) g gs key high i j m n
    (k, first, others, left, right, low, stands, beyond, below, row, its, nds) e b c r = (
      k,
      first,
      others ++ j,
      left,
      right ++ n,
      low,
      stands,
      beyond,
      below_less high k key below c,
      row_join pages l f' fs g gs key high others j right n row e
          (subst (λ (lo : Bound). Beyond lo key) (sym low) below) c r,
      ap (λ (x : Items). x ++ j) its ∙ append_assoc first others j,
      ap (λ (x : List ℕ). x ++ n) nds ∙ append_assoc left right n,
    )

pub entries_are : (im : Image) (es : List InnerItem) → im.items ≡ map inner_bytes es
    → AllByRecursion IsInner es → entries_in im ≡ es
unfolding entries_in
entries_are im es has each = ap (map inner_of) has ∙ back es each
  where
    back : (xs : List InnerItem) → AllByRecursion IsInner xs
        → map inner_of (map inner_bytes xs) ≡ xs
    back [] a = refl
    back (x ∷ xs) a =
        ap (λ (y : InnerItem). y ∷ map inner_of (map inner_bytes xs)) (inner_back x a.0)
        ∙ ap (λ (ys : List InnerItem). x ∷ ys) (back xs a.1)

pub record Down (pages : Pages) (l : ℕ) (below_of : List Fence) (heads : List ℕ) (low high : Bound)
    (items : Items) (nodes : List ℕ) : Type 0 where
  pub first : Fence
  pub rest : List Fence
  pub below : List ℕ
  pub are : below_of ≡ first ∷ rest
  pub low_is : first.low ≡ low
  pub row : Row pages l (first ∷ rest) high items below
  pub count : (q : ℕ) → times q nodes ≡ times q heads + times q below
  pub leaves : leaves_of pages nodes ≡ leaves_of pages below

down_one : (pages : Pages) (l : ℕ) (f : Fence) (high : Bound) (items : Items) (nodes : List ℕ)
    → Stands pages (suc l) f.page f.low high items nodes
    → Down pages l (children pages f) (f.page ∷ []) f.low high items nodes
down_one pages l f high items nodes (es, below, inner, parts, made) =
    by_entries es (entries_are (pages f.page) es inner.has inner.each) parts
  where
    by_entries : (xs : List InnerItem) → entries_in (pages f.page) ≡ xs
        → Parts (Stands pages l) xs f.low high items below
        → Down pages l (children pages f) (f.page ∷ []) f.low high items nodes
    by_entries [] e p = absurd p
    by_entries (x ∷ xs) e p = record {
      first = record { low = f.low; page = x.child };
      rest = map fence_of xs;
      below = below;
      are = ap (cut f.low) e;
      low_is = refl;
      row = row_of_parts pages l (x ∷ xs) f.low high items below p;
      count = λ q. let h : times q nodes ≡ one_if (nat_eq q f.page) + times q below =
          ap (times q) made in omega (arith, h);
      leaves = ap (leaves_of pages) made ∙ no_leaf pages f.page below inner.kind;
    }

pub down : (pages : Pages) (l : ℕ) (f : Fence) (fs : List Fence) (high : Bound) (items : Items)
    (nodes : List ℕ)
    → Row pages (suc l) (f ∷ fs) high items nodes
    → Down pages l (flat_map (children pages) (f ∷ fs))
    (map page_in (f ∷ fs)) f.low high items nodes
down pages l f [] high items nodes s =
    let d = down_one pages l f high items nodes s in
    record {
      first = d.first;
      rest = d.rest;
      below = d.below;
      are = append-nil (children pages f) ∙ d.are;
      low_is = d.low_is;
      row = d.row;
      count = d.count;
      leaves = d.leaves;
    }
down pages l f (g ∷ fs) high items nodes
    (key, first, others, left, right, low, stands, beyond, below, row, its, nds) =
    let a = down_one pages l f (Some key) first left stands in
    let b = down pages l g fs high others right row in
    let joined =
    row_join pages l a.first a.rest b.first b.rest key high first others a.below b.below a.row
    (b.low_is ∙ low)
    (subst (λ (lo : Bound). Beyond lo key) (sym a.low_is) beyond) below b.row in
    record {
      first = a.first;
      rest = a.rest ++ (b.first ∷ b.rest);
      below = a.below ++ b.below;
      are =
          ap (λ (x : List Fence). x ++ flat_map (children pages) (g ∷ fs)) a.are
          ∙ ap (λ (y : List Fence). (a.first ∷ a.rest) ++ y) b.are;
      low_is = a.low_is;
      row =
          subst
          (λ (x : Items).
          Row pages l ((a.first ∷ a.rest) ++ (b.first ∷ b.rest)) high x (a.below ++ b.below))
          (sym its) joined;
      count = λ q.
          let h : times q nodes ≡ times q (left ++ right) = ap (times q) nds in
          let i = times_append q left right in
          let j = times_append q a.below b.below in
          let x = a.count q in
          let y = b.count q in
          omega (arith, h, i, j, x, y);
      leaves = ap (leaves_of pages) nds ∙ (filter-append (λ q. is_leaf (pages q).kind) left right
          ∙ (ap (λ (x : List ℕ). x ++ leaves_of pages right) a.leaves
          ∙ (ap (λ (y : List ℕ). leaves_of pages a.below ++ y) b.leaves
          ∙ sym (filter-append (λ q. is_leaf (pages q).kind) a.below b.below))));
    }

-- a layer that stands
pub record Layer (pages : Pages) (tall : ℕ) (fences : List Fence) (items : Items)
    (nodes : List ℕ) : Type 0 where
  pub first : Fence
  pub rest : List Fence
  pub own : List ℕ
  pub are : fences ≡ first ∷ rest
  pub row : Row pages tall (first ∷ rest) None items own
  pub fewer : (q : ℕ) → times q own ≤ times q nodes
  pub leaves : leaves_of pages nodes ≡ leaves_of pages own

pub layers : (pages : Pages) (root : ℕ) (items : Items) (nodes : List ℕ) (level depth tall : ℕ)
    → Stands pages level root None None items nodes
    → depth + tall ≡ level → Layer pages tall (layer pages root depth) items nodes
layers pages root items nodes level zero tall s e =
    let same : level ≡ tall = omega (arith, e) in
    record {
      first = record { low = None; page = root };
      rest = [];
      own = nodes;
      are = refl;
      row = subst (λ (n : ℕ). Stands pages n root None None items nodes) same s;
      fewer = λ q. omega arith;
      leaves = refl;
    }
layers pages root items nodes level (suc depth) tall s e =
    let up = layers pages root items nodes level depth (suc tall) s (omega (arith, e)) in
    let d = down pages tall up.first up.rest None items up.own up.row in
    record {
      first = d.first;
      rest = d.rest;
      own = d.below;
      are = ap (flat_map (children pages)) up.are ∙ d.are;
      row = d.row;
      fewer = λ q. let a = up.fewer q in let b = d.count q in omega (arith, a, b);
      leaves = up.leaves ∙ d.leaves;
    }

pub ones : (pages : Pages) (f : Fence) (fs : List Fence) (high : Bound) (its : Items) (ns : List ℕ)
    → Row pages zero (f ∷ fs) high its ns → ns ≡ map page_in (f ∷ fs)
ones pages f [] high its ns r = r.1
ones pages f (g ∷ fs) high its ns
    (key, first, others, left, right, low, stands, beyond, below, row, joined, nds) =
    nds ∙ (ap (λ (x : List ℕ). x ++ right) stands.1
    ∙ ap (λ (x : List ℕ). f.page ∷ x) (ones pages g fs high others right row))
