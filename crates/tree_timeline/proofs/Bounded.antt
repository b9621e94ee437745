-- At one time a page has one range, and its number is one that there can be.
use Rattle.std.proofs.Common.{◌≡◌, ◌≢◌, ◌≤◌, ◌<◌, ℕ, zero, suc, Bool, true, false, List, [], ◌∷◌, ◌++◌, map, Some, None, refl, sym, ap, subst, ◌∙◌, arith, inl, inr, ◌||◌}
use Rattle.std.specs.Prelude.{nat_eq, Contains}
use Rattle.std.specs.List.{AllByRecursion, list_any}
use Rattle.std.proofs.lemmas.Bool.{eqb-true}
use Rattle.std.proofs.lemmas.List.Elements.{All-contains, All-from_recursion}
use Rattle.page_view.specs.Inner.{InnerItem, IsInner}
use Rattle.bplus_tree.proofs.Order.{all_join}
use Rattle.bplus_tree.specs.Tree.{Parts, Stands, Tree}
use Rattle.tree_timeline.specs.Fences.{Fence, layer, low_after}
use Rattle.tree_timeline.specs.Ranges.{Covers}
use Rattle.tree_timeline.specs.Types.{Bound, Items, Pages}
use Rattle.tree_timeline.proofs.Counting.{times, distinct_once}
use Rattle.tree_timeline.proofs.Members.{heads_of, covers_member}
use Rattle.tree_timeline.proofs.Places.{page_in, fence, alone, own_of, Parted, parted}

pub same_range : (pages : Pages) (root : ℕ) (items : Items) (tree : Tree pages root items)
    (tall q : ℕ) (l1 h1 l2 h2 : Bound)
    → Covers pages root tall q l1 h1 → Covers pages root tall q l2 h2 → (l1 ≡ l2) × (h1 ≡ h2)
same_range pages root items tree tall q l1 h1 l2 h2 c d =
    let m = covers_member pages root items tree tall q l1 h1 c in
    let same : d.depth ≡ c.depth = (let x = c.deep in let y = d.deep in omega (arith, x, y)) in
    let few : times q (map page_in (layer pages root c.depth)) ≤ 1 =
    (let a =
    heads_of pages root items tree.nodes tree.level c.depth tall tree.stands (c.deep ∙ m.2) q in
    let b = distinct_once q tree.nodes tree.apart in omega (arith, a, b)) in
    let apart =
    alone q c.left (fence l1 q) c.right refl
    (subst (λ (fs : List Fence). times q (map page_in fs) ≤ 1) c.are few) in
    let e : c.left ++ (fence l1 q ∷ c.right) ≡ d.left ++ (fence l2 q ∷ d.right) =
    sym c.are ∙ (ap (layer pages root) (sym same) ∙ d.are) in
    go apart (parted c.left (fence l1 q) c.right d.left (fence l2 q) d.right e)
  where
    go : (AllByRecursion (λ f. f.page ≢ q) c.left × AllByRecursion (λ f. f.page ≢ q) c.right)
        → Parted c.left (fence l1 q) c.right d.left (fence l2 q) d.right → (l1 ≡ l2) × (h1 ≡ h2)
    go a (inl (m, p, r)) =
        absurd
        (own_of (λ f. f.page ≢ q) m (fence l2 q) d.right
        (subst (AllByRecursion (λ f. f.page ≢ q)) r a.1) refl)
    go a (inr (inl (p, r, s))) =
        (ap (λ (f : Fence). f.low) r, c.high_is ∙ (ap low_after s ∙ sym d.high_is))
    go a (inr (inr (m, p, r))) =
        absurd
        (own_of (λ f. f.page ≢ q) d.left (fence l2 q) m
        (subst (AllByRecursion (λ f. f.page ≢ q)) p a.0) refl)

parts_bounded : (pages : Pages) (level : ℕ)
    → ((page : ℕ) (low high : Bound) (items : Items) (nodes : List ℕ)
    → Stands pages level page low high items nodes → page ≤ 32767
    → AllByRecursion (λ n. n ≤ 32767) nodes)
    → (entries : List InnerItem) (low high : Bound) (items : Items) (nodes : List ℕ)
    → Parts (Stands pages level) entries low high items nodes → AllByRecursion IsInner entries
    → AllByRecursion (λ n. n ≤ 32767) nodes
parts_bounded pages level ih [] low high items nodes parts each = absurd parts
parts_bounded pages level ih (entry ∷ []) low high items nodes parts each =
    ih entry.child low high items nodes parts each.0.child
parts_bounded pages level ih (entry ∷ (next ∷ rest)) low high items nodes
    (first, others, left, right, child, beyond, below, parts, joined, made) each =
    subst (AllByRecursion (λ n. n ≤ 32767)) (sym made) (all_join (λ n. n ≤ 32767) left right
    (ih entry.child low (Some next.key) first left child each.0.child)
    (parts_bounded pages level ih (next ∷ rest) (Some next.key) high others right parts each.1))

bounded : (pages : Pages) (level page : ℕ) (low high : Bound) (items : Items) (nodes : List ℕ)
    → Stands pages level page low high items nodes → page ≤ 32767
    → AllByRecursion (λ n. n ≤ 32767) nodes
bounded pages zero page low high items nodes (leaf, one) h =
    subst (AllByRecursion (λ n. n ≤ 32767)) (sym one) (h, tt)
bounded pages (suc level) page low high items nodes (entries, below, inner, parts, made) h =
    subst (AllByRecursion (λ n. n ≤ 32767)) (sym made) (
      h,
      parts_bounded pages level
          (bounded pages level) entries low high items below parts inner.each,
    )

pub page_bound : (pages : Pages) (root : ℕ) (items : Items) (tree : Tree pages root items) (q : ℕ)
    → root ≤ 32767 → Contains tree.nodes q → q ≤ 32767
page_bound pages root items tree q h c =
    All-contains (λ n. n ≤ 32767) tree.nodes q
    (All-from_recursion (λ n. n ≤ 32767) tree.nodes
    (bounded pages tree.level root None None items tree.nodes tree.stands h)) c

pub among_all : (q : ℕ) (xs : List ℕ) → AllByRecursion (λ n. n ≤ 32767) xs
    → list_any (nat_eq q) xs ≡ true → q < 32768
among_all q [] a e = absurd (let h : false ≡ true = e in cc)
among_all q (x ∷ xs) a e = go (λ r. among_all q xs a.1 r) (nat_eq q x) refl e
  where
    go : (list_any (nat_eq q) xs ≡ true → q < 32768) → (b : Bool) → nat_eq q x ≡ b
        → (b || list_any (nat_eq q) xs) ≡ true → q < 32768
    go rest true same r = let at : q ≡ x = eqb-true q x same in omega (arith, at, a.0)
    go rest false other r = rest r
