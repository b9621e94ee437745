-- A page below the root and its parent, in their tree.
use Rattle.std.proofs.Common.{◌≡◌, ◌≢◌, ◌+◌, ℕ, zero, suc, List, [], ◌∷◌, ◌++◌, length, map, get_or, slice_get, Option, Some, None, sym, ap, subst, ◌∙◌, arith}
use Rattle.std.specs.Prelude.{nat_eq}
use Rattle.std.specs.List.{AllByRecursion, IsDistinct}
use Rattle.std.proofs.lemmas.List.{append_assoc}
use Rattle.page_image.specs.Image.{Image}
use Rattle.page_view.specs.Inner.{InnerItem, inner_bytes}
use Rattle.bplus_tree.specs.Tree.{IsInnerPage, Parts, Stands}
use Rattle.tree_change.specs.Way.{IsWayTo}
use Rattle.tree_change.specs.Places.{page_on, not_greater}
use Rattle.tree_change.proofs.PlaceLaws.{not_greater_is}
use Rattle.tree_change.proofs.ListLaws.{all_front, all_back}
use Rattle.tree_change.proofs.PartLaws.{Focus, focus}
use Rattle.tree_change.proofs.EntryLaws.{Parted, parted}
use Rattle.tree_change.proofs.SpotLaws.{Spot}
use Rattle.tree_change.proofs.WayLaws.{At, at, StepDown, step_down}
use Rattle.tree_change.proofs.NodeLaws.{IsNode, stands_nodes, Without, distinct_front, distinct_back}

-- the parent at a place of the path, and the page below it at the next one
pub record Site (key : List ℕ) (path : List Image) (w : IsWayTo key path) (i l : ℕ) : Type 0 where
  pub parent : ℕ
  pub page : ℕ
  pub parent_is : page_on path i ≡ w.pages parent
  pub page_is : page_on path (i + 1) ≡ w.pages page
  pub spot : Spot w.pages w.tree.level w.root None None w.items w.tree.nodes key (suc l) parent
  pub xs : List InnerItem
  pub entry : InnerItem
  pub ys : List InnerItem
  pub below : List ℕ
  pub inner : IsInnerPage (w.pages parent) parent (suc l) (xs ++ (entry ∷ ys))
  pub own_is : spot.own ≡ parent ∷ below
  pub parts : Focus (Stands w.pages l) xs entry ys spot.lo spot.hi spot.mid below
  pub child_is : entry.child ≡ page
  pub behind : not_greater key (w.pages parent).items ≡ length xs + 1

pub site : (key : List ℕ) (path : List Image) (w : IsWayTo key path) (i l : ℕ) → i + suc l ≡ w.tree.level → Site key path w i l
site key path w i l e =
    let a : At key path w i (suc l) = at key path w i (suc l) e in
    let b : At key path w (i + 1) l = at key path w (i + 1) l (omega arith) in
    let d0 : StepDown w.pages key (get_or w.numbers i 0) (get_or w.numbers (suc i) 0) = step_down w.pages i w.tree.level w.root l key w.numbers w.way e in
    let d1 : StepDown w.pages key a.page (get_or w.numbers (suc i) 0) = subst (λ (p : ℕ). StepDown w.pages key p (get_or w.numbers (suc i) 0)) (sym a.number) d0 in
    let one : suc i ≡ i + 1 = omega arith in
    let d : StepDown w.pages key a.page b.page =
    subst (λ (p : ℕ). StepDown w.pages key a.page p) (ap (λ (n : ℕ). get_or w.numbers n 0) one ∙ sym b.number) d1 in
    let es : List InnerItem = a.spot.part.0 in
    let ip : IsInnerPage (w.pages a.page) a.page (suc l) es = a.spot.part.2 in
    let get : slice_get (map inner_bytes es) d.place ≡ Some (inner_bytes d.entry) =
    subst (λ (k : List (List ℕ)). slice_get k d.place ≡ Some (inner_bytes d.entry)) ip.has d.get in
    let p : Parted es d.place d.entry = parted es d.place d.entry ip.each d.is get in
    let parts : Parts (Stands w.pages l) (p.xs ++ (d.entry ∷ p.ys)) a.spot.lo a.spot.hi a.spot.mid a.spot.part.1 =
    subst (λ (k : List InnerItem). Parts (Stands w.pages l) k a.spot.lo a.spot.hi a.spot.mid a.spot.part.1) p.are a.spot.part.3 in
    let place = not_greater_is key (w.pages a.page).items d.place ip.ascend d.child in
    record {
      parent = a.page;
      page = b.page;
      parent_is = a.is;
      page_is = b.is;
      spot = a.spot;
      xs = p.xs;
      entry = d.entry;
      ys = p.ys;
      below = a.spot.part.1;
      inner = subst (λ (k : List InnerItem). IsInnerPage (w.pages a.page) a.page (suc l) k) p.are ip;
      own_is = a.spot.part.4;
      parts = focus (Stands w.pages l) p.xs d.entry p.ys a.spot.lo a.spot.hi a.spot.mid a.spot.part.1 parts;
      child_is = d.child_is;
      behind = (let c = p.count in omega (arith, place, c));
    }

-- ---- its pages

-- a part's pages begin with its own
pub own_first : (pages : ℕ → Image) (level page : ℕ) (low high : Option (List ℕ)) (items : List (List ℕ)) (nodes : List ℕ)
    → Stands pages level page low high items nodes → (rest : List ℕ) × (nodes ≡ page ∷ rest)
own_first pages zero page low high items nodes h = ([], h.1)
own_first pages (suc level) page low high items nodes h = (h.1, h.4)

pub nodes_regroup : (left : List ℕ) (p : ℕ) (fl : List ℕ) (c : ℕ) (deep fr right : List ℕ)
    → left ++ ((p ∷ (fl ++ ((c ∷ deep) ++ fr))) ++ right) ≡ (left ++ (p ∷ fl)) ++ (c ∷ ((deep ++ fr) ++ right))
nodes_regroup left p fl c deep fr right = simp append_assoc

-- the pages that are neither the parent nor the page, as they stand around them
pub record Around (key : List ℕ) (path : List Image) (w : IsWayTo key path) (i l : ℕ) (s : Site key path w i l) : Type 0 where
  pub deep : List ℕ
  pub own_is : s.parts.own ≡ s.page ∷ deep
  pub nodes_are : w.tree.nodes ≡ s.spot.left ++ ((s.parent ∷ (s.parts.left ++ ((s.page ∷ deep) ++ s.parts.right))) ++ s.spot.right)
  pub all : AllByRecursion (IsNode w.pages) w.tree.nodes
  pub parent_node : IsNode w.pages s.parent
  pub page_node : IsNode w.pages s.page
  pub apart : s.parent ≢ s.page
  pub left_nodes : AllByRecursion (IsNode w.pages) s.spot.left
  pub left_parent : Without s.parent s.spot.left
  pub left_page : Without s.page s.spot.left
  pub fl_nodes : AllByRecursion (IsNode w.pages) s.parts.left
  pub fl_parent : Without s.parent s.parts.left
  pub fl_page : Without s.page s.parts.left
  pub deep_nodes : AllByRecursion (IsNode w.pages) deep
  pub deep_parent : Without s.parent deep
  pub deep_page : Without s.page deep
  pub fr_nodes : AllByRecursion (IsNode w.pages) s.parts.right
  pub fr_parent : Without s.parent s.parts.right
  pub fr_page : Without s.page s.parts.right
  pub right_nodes : AllByRecursion (IsNode w.pages) s.spot.right
  pub right_parent : Without s.parent s.spot.right
  pub right_page : Without s.page s.spot.right

pub around : (key : List ℕ) (path : List Image) (w : IsWayTo key path) (i l : ℕ) (s : Site key path w i l) → Around key path w i l s
around key path w i l s =
    let first = own_first w.pages l s.entry.child s.parts.lo s.parts.hi s.parts.mid s.parts.own s.parts.child in
    let deep : List ℕ = first.0 in
    let own : s.parts.own ≡ s.page ∷ deep = first.1 ∙ ap (λ (c : ℕ). c ∷ deep) s.child_is in
    let L : List ℕ = s.spot.left in
    let FL : List ℕ = s.parts.left in
    let FR : List ℕ = s.parts.right in
    let R : List ℕ = s.spot.right in
    let nodes : w.tree.nodes ≡ L ++ ((s.parent ∷ (FL ++ ((s.page ∷ deep) ++ FR))) ++ R) =
    s.spot.nodes_are ∙ ap (λ (o : List ℕ). L ++ (o ++ R)) s.own_is ∙ ap (λ (o : List ℕ). L ++ ((s.parent ∷ o) ++ R)) s.parts.nodes_are
    ∙ ap (λ (o : List ℕ). L ++ ((s.parent ∷ (FL ++ (o ++ FR))) ++ R)) own in
    let N : ℕ → Type 0 = IsNode w.pages in
    let all0 : AllByRecursion N w.tree.nodes = stands_nodes w.pages w.tree.level w.root None None w.items w.tree.nodes w.tree.stands in
    let all : AllByRecursion N (L ++ ((s.parent ∷ (FL ++ ((s.page ∷ deep) ++ FR))) ++ R)) = subst (AllByRecursion N) nodes all0 in
    let d : IsDistinct nat_eq (L ++ ((s.parent ∷ (FL ++ ((s.page ∷ deep) ++ FR))) ++ R)) = subst (IsDistinct nat_eq) nodes w.tree.apart in
    let again = nodes_regroup L s.parent FL s.page deep FR R in
    let dc : IsDistinct nat_eq ((L ++ (s.parent ∷ FL)) ++ (s.page ∷ ((deep ++ FR) ++ R))) = subst (IsDistinct nat_eq) again d in
    let pl = distinct_front L s.parent ((FL ++ ((s.page ∷ deep) ++ FR)) ++ R) d in
    let pr = distinct_back L s.parent ((FL ++ ((s.page ∷ deep) ++ FR)) ++ R) d in
    let cl = distinct_front (L ++ (s.parent ∷ FL)) s.page ((deep ++ FR) ++ R) dc in
    let cr = distinct_back (L ++ (s.parent ∷ FL)) s.page ((deep ++ FR) ++ R) dc in
    let P = λ (q : ℕ). q ≢ s.parent in
    let C = λ (q : ℕ). q ≢ s.page in
    let n1 = all_back N L ((s.parent ∷ (FL ++ ((s.page ∷ deep) ++ FR))) ++ R) all in
    let n2 = all_front N (FL ++ ((s.page ∷ deep) ++ FR)) R n1.1 in
    let n3 = all_back N FL ((s.page ∷ deep) ++ FR) n2 in
    let p2 = all_front P (FL ++ ((s.page ∷ deep) ++ FR)) R pr in
    let p3 = all_back P FL ((s.page ∷ deep) ++ FR) p2 in
    let c1 = all_back C L (s.parent ∷ FL) cl in
    record {
      deep = deep;
      own_is = own;
      nodes_are = nodes;
      all = all0;
      parent_node = n1.0;
      page_node = n3.0;
      apart = (λ e. p3.0 (sym e));
      left_nodes = all_front N L ((s.parent ∷ (FL ++ ((s.page ∷ deep) ++ FR))) ++ R) all;
      left_parent = pl;
      left_page = all_front C L (s.parent ∷ FL) cl;
      fl_nodes = all_front N FL ((s.page ∷ deep) ++ FR) n2;
      fl_parent = all_front P FL ((s.page ∷ deep) ++ FR) p2;
      fl_page = c1.1;
      deep_nodes = all_front N deep FR n3.1;
      deep_parent = all_front P deep FR p3.1;
      deep_page = all_front C deep FR (all_front C (deep ++ FR) R cr);
      fr_nodes = all_back N deep FR n3.1;
      fr_parent = all_back P deep FR p3.1;
      fr_page = all_back C deep FR (all_front C (deep ++ FR) R cr);
      right_nodes = all_back N (FL ++ ((s.page ∷ deep) ++ FR)) R n1.1;
      right_parent = all_back P (FL ++ ((s.page ∷ deep) ++ FR)) R pr;
      right_page = all_back C (deep ++ FR) R cr;
    }
