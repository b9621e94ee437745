-- A tree that stands, seen from one page on the way to a key.
use Rattle.std.proofs.Common.{◌≡◌, ◌≢◌, ℕ, zero, suc, List, [], ◌∷◌, ◌++◌, map, slice_get, Option, Some, None, refl, sym, ap, subst, ◌∙◌}
use Rattle.std.specs.List.{AllByRecursion}
use Rattle.std.proofs.lemmas.List.{append_assoc, append-nil}
use Rattle.std.specs.declared.cmp.Ordering.TheVariants.{Less, Greater}
use Rattle.page_image.specs.Image.{Image}
use Rattle.page_view.specs.Inner.{InnerItem, inner_bytes, IsInner}
use Rattle.page_view.specs.Keys.{key_in, keys_of, key_cmp, IsChildFor}
use Rattle.bplus_tree.specs.Tree.{NotBelow, Beyond, Below, IsLeafPage, IsInnerPage, Parts, Stands}
use Rattle.tree_change.proofs.PlaceLaws.{less_then, turned_back, not_greater_from}
use Rattle.tree_change.proofs.ListLaws.{all_front, all_back, all_join, all_weaker}
use Rattle.tree_change.proofs.PartLaws.{Child, Front, Back, Focus, focus, below_less, rejoin, parts_frame, front_frame, back_frame}
use Rattle.tree_change.proofs.EntryLaws.{entry_keys, keys_of_entries, Parted, parted, NextAbove, own_not_greater, next_above, low_holds, high_holds}

-- ---- other pages

pub leaf_frame : (im om : Image) (page : ℕ) (low high : Option (List ℕ)) (items : List (List ℕ)) → om ≡ im → IsLeafPage im page low high items → IsLeafPage om page low high items
leaf_frame im om page low high items e h = subst (λ (i : Image). IsLeafPage i page low high items) (sym e) h

pub inner_frame : (im om : Image) (page level : ℕ) (es : List InnerItem) → om ≡ im → IsInnerPage im page level es → IsInnerPage om page level es
inner_frame im om page level es e h = subst (λ (i : Image). IsInnerPage i page level es) (sym e) h

-- the pages are the same at all of some numbers
abbrev pub SameAt : (ℕ → Image) → (ℕ → Image) → List ℕ → Type 0
SameAt pages others nodes = AllByRecursion (λ q. others q ≡ pages q) nodes

pub stands_frame : (pages others : ℕ → Image) (level page : ℕ) (low high : Option (List ℕ)) (items : List (List ℕ)) (nodes : List ℕ)
    → SameAt pages others nodes → Stands pages level page low high items nodes → Stands others level page low high items nodes
stands_frame pages others zero page low high items nodes same h =
    let s : SameAt pages others (page ∷ []) = subst (SameAt pages others) h.1 same in
    (leaf_frame (pages page) (others page) page low high items s.0 h.0, h.1)
stands_frame pages others (suc level) page low high items nodes same h =
    let s : SameAt pages others (page ∷ h.1) = subst (SameAt pages others) h.4 same in (
      h.0,
      h.1,
      inner_frame (pages page) (others page) page (suc level) h.0 s.0 h.2,
      parts_frame (Stands pages level) (Stands others level) (λ q. others q ≡ pages q)
          (λ p l hi its ns all c. stands_frame pages others level p l hi its ns all c) h.0 low high items h.1 s.1 h.3,
      h.4,
    )

-- ---- the items stand within the bounds

abbrev pub Within : Option (List ℕ) → Option (List ℕ) → List (List ℕ) → Type 0
Within low high items = AllByRecursion (λ item. NotBelow low (key_in item)) items × AllByRecursion (λ item. Below high (key_in item)) items

pub lower : (low : Option (List ℕ)) (a b : List ℕ) → Beyond low a → NotBelow (Some a) b → NotBelow low b
lower None a b h ne = tt
lower (Some low) a b h ne = not_greater_from (key_cmp low b) (less_then low a b h ne)

pub parts_within : (C : Child)
    → ((page : ℕ) (low high : Option (List ℕ)) (items : List (List ℕ)) (nodes : List ℕ) → C page low high items nodes → Within low high items)
    → (es : List InnerItem) (low high : Option (List ℕ)) (items : List (List ℕ)) (nodes : List ℕ) → Parts C es low high items nodes → Within low high items
parts_within C within [] low high items nodes p = absurd p
parts_within C within (e ∷ []) low high items nodes p = within e.child low high items nodes p
parts_within C within (e ∷ (next ∷ rest)) low high items nodes p =
    let first = within e.child low (Some next.key) p.0 p.2 p.4 in
    let others = parts_within C within (next ∷ rest) (Some next.key) high p.1 p.3 p.7 in
    let joined : Within low high (p.0 ++ p.1) = (
      all_join (λ item. NotBelow low (key_in item)) p.0 p.1 first.0
          (all_weaker (λ item. NotBelow (Some next.key) (key_in item)) (λ item. NotBelow low (key_in item)) (λ item h. lower low next.key (key_in item) p.5 h) p.1 others.0),
      all_join (λ item. Below high (key_in item)) p.0 p.1
          (all_weaker (λ item. Below (Some next.key) (key_in item)) (λ item. Below high (key_in item)) (λ item h. below_less high (key_in item) next.key h p.6) p.0 first.1)
          others.1,
    ) in
    subst (Within low high) (sym p.8) joined

pub stands_within : (pages : ℕ → Image) (level page : ℕ) (low high : Option (List ℕ)) (items : List (List ℕ)) (nodes : List ℕ)
    → Stands pages level page low high items nodes → Within low high items
stands_within pages zero page low high items nodes h = (h.0.from, h.0.below)
stands_within pages (suc level) page low high items nodes h =
    parts_within (Stands pages level) (λ p l hi its ns c. stands_within pages level p l hi its ns c) h.0 low high items h.1 h.3

-- ---- the items before and behind one entry

-- all keys are less, or greater
abbrev pub AllLess : List ℕ → List (List ℕ) → Type 0
AllLess key items = AllByRecursion (λ item. key_cmp (key_in item) key ≡ Less) items

abbrev pub AllGreater : List ℕ → List (List ℕ) → Type 0
AllGreater key items = AllByRecursion (λ item. key_cmp (key_in item) key ≡ Greater) items

front_less : (pages : ℕ → Image) (level : ℕ) (xs : List InnerItem) (own key : List ℕ) (low high lo : Option (List ℕ)) (items : List (List ℕ)) (nodes : List ℕ)
    → Front (Stands pages level) xs own low high lo items nodes → key_cmp own key ≢ Greater → AllLess key items
front_less pages level [] own key low high lo items nodes f ne = subst (AllLess key) (sym f.1) tt
front_less pages level (x ∷ xs) own key low high lo items nodes f ne =
    let w = parts_within (Stands pages level) (λ p l hi its ns c. stands_within pages level p l hi its ns c) (x ∷ xs) low (Some own) items nodes f.3 in
    all_weaker (λ item. Below (Some own) (key_in item)) (λ item. key_cmp (key_in item) key ≡ Less) (λ item h. less_then (key_in item) own key h ne) items w.1

back_greater : (pages : ℕ → Image) (level : ℕ) (ys : List InnerItem) (key : List ℕ) (lo high hi : Option (List ℕ)) (items : List (List ℕ)) (nodes : List ℕ)
    → Back (Stands pages level) ys lo high hi items nodes → NextAbove key ys → AllGreater key items
back_greater pages level [] key lo high hi items nodes b n = subst (AllGreater key) (sym b.1) tt
back_greater pages level (y ∷ ys) key lo high hi items nodes b n =
    let w = parts_within (Stands pages level) (λ p l h its ns c. stands_within pages level p l h its ns c) (y ∷ ys) (Some y.key) high items nodes b.3 in
    all_weaker (λ item. NotBelow (Some y.key) (key_in item)) (λ item. key_cmp (key_in item) key ≡ Greater)
    (λ item h. turned_back key (key_in item) (less_then key y.key (key_in item) n h)) items w.0

-- ---- one page on the way

-- a number of steps down the way to a key
abbrev pub Down : (ℕ → Image) → List ℕ → ℕ → ℕ → ℕ → ℕ → ℕ → Type 0
Down pages key zero level root below page = (level ≡ below) × (root ≡ page)
Down pages key (suc n) zero root below page = ⊥
Down pages key (suc n) (suc level) root below page =
    (place : ℕ) × (entry : InnerItem)
    × IsChildFor (keys_of (pages root).items) key place
    × (slice_get (pages root).items place ≡ Some (inner_bytes entry))
    × IsInner entry
    × Down pages key n level entry.child below page

-- the page within the tree: its own part, and what is before and behind it
pub record Spot (pages : ℕ → Image) (level root : ℕ) (low high : Option (List ℕ)) (items : List (List ℕ)) (nodes : List ℕ) (key : List ℕ) (below page : ℕ) : Type 0 where
  pub lo : Option (List ℕ)
  pub hi : Option (List ℕ)
  pub ahead : List (List ℕ)
  pub mid : List (List ℕ)
  pub after : List (List ℕ)
  pub left : List ℕ
  pub own : List ℕ
  pub right : List ℕ
  pub items_are : items ≡ ahead ++ (mid ++ after)
  pub nodes_are : nodes ≡ left ++ (own ++ right)
  pub part : Stands pages below page lo hi mid own
  pub low_end : NotBelow lo key
  pub high_end : Below hi key
  pub lesser : AllLess key ahead
  pub greater : AllGreater key after
  pub rebuild : (others : ℕ → Image) (mid' : List (List ℕ)) (own' : List ℕ) → SameAt pages others left → SameAt pages others right
      → Stands others below page lo hi mid' own' → Stands others level root low high (ahead ++ (mid' ++ after)) (left ++ (own' ++ right))

regroup : {X : Type 0} (a b c d e : List X) → (a ++ b) ++ (c ++ (d ++ e)) ≡ a ++ ((b ++ (c ++ d)) ++ e)
regroup a b c d e = simp append_assoc

spot_here : (pages : ℕ → Image) (level root : ℕ) (low high : Option (List ℕ)) (items : List (List ℕ)) (nodes : List ℕ) (key : List ℕ)
    → Stands pages level root low high items nodes → NotBelow low key → Below high key → Spot pages level root low high items nodes key level root
spot_here pages level root low high items nodes key h f b = record {
  lo = low;
  hi = high;
  ahead = [];
  mid = items;
  after = [];
  left = [];
  own = nodes;
  right = [];
  items_are = sym (append-nil items);
  nodes_are = sym (append-nil nodes);
  part = h;
  low_end = f;
  high_end = b;
  lesser = tt;
  greater = tt;
  rebuild = λ others mid' own' sl sr h'.
      subst (λ (ns : List ℕ). Stands others level root low high (mid' ++ []) ns) (sym (append-nil own'))
      (subst (λ (its : List (List ℕ)). Stands others level root low high its own') (sym (append-nil mid')) h');
}

-- one level down
spot_below : (pages : ℕ → Image) (level root : ℕ) (low high : Option (List ℕ)) (items : List (List ℕ)) (nodes : List ℕ) (key : List ℕ) (below page : ℕ)
    → (es : List InnerItem) (inner : List ℕ) → IsInnerPage (pages root) root (suc level) es → nodes ≡ root ∷ inner
    → (xs : List InnerItem) (entry : InnerItem) (ys : List InnerItem) → es ≡ xs ++ (entry ∷ ys) → key_cmp entry.key key ≢ Greater → NextAbove key ys
    → (f : Focus (Stands pages level) xs entry ys low high items inner)
    → Spot pages level entry.child f.lo f.hi f.mid f.own key below page
    → Spot pages (suc level) root low high items nodes key below page
spot_below pages level root low high items nodes key below page es inner ip nodes_are xs entry ys are ne next f s = record {
  lo = s.lo;
  hi = s.hi;
  ahead = f.ahead ++ s.ahead;
  mid = s.mid;
  after = s.after ++ f.after;
  left = root ∷ (f.left ++ s.left);
  own = s.own;
  right = s.right ++ f.right;
  items_are = f.items_are ∙ ap (λ (l : List (List ℕ)). f.ahead ++ (l ++ f.after)) s.items_are ∙ sym (regroup f.ahead s.ahead s.mid s.after f.after);
  nodes_are = nodes_are
      ∙ ap (λ (l : List ℕ). root ∷ l) (f.nodes_are ∙ ap (λ (l : List ℕ). f.left ++ (l ++ f.right)) s.nodes_are ∙ sym (regroup f.left s.left s.own s.right f.right));
  part = s.part;
  low_end = s.low_end;
  high_end = s.high_end;
  lesser = all_join (λ item. key_cmp (key_in item) key ≡ Less) f.ahead s.ahead (front_less pages level xs entry.key key low high f.lo f.ahead f.left f.front ne) s.lesser;
  greater = all_join (λ item. key_cmp (key_in item) key ≡ Greater) s.after f.after s.greater (back_greater pages level ys key f.lo high f.hi f.after f.right f.back next);
  rebuild = λ others mid' own' sl sr h'.
      let left_all = sl.1 in
      let inner' : Stands others level entry.child f.lo f.hi (s.ahead ++ (mid' ++ s.after)) (s.left ++ (own' ++ s.right)) =
      s.rebuild others mid' own' (all_back (λ q. others q ≡ pages q) f.left s.left sl.1) (all_front (λ q. others q ≡ pages q) s.right f.right sr) h' in
      let same = λ (p : ℕ) (l hi : Option (List ℕ)) (its : List (List ℕ)) (ns : List ℕ) (all : AllByRecursion (λ q. others q ≡ pages q) ns) (c : Stands pages level p l hi its ns).
      stands_frame pages others level p l hi its ns all c in
      let front' : Front (Stands others level) xs entry.key low high f.lo f.ahead f.left =
      front_frame (Stands pages level) (Stands others level) (λ q. others q ≡ pages q) same xs entry.key low high f.lo f.ahead f.left
      (all_front (λ q. others q ≡ pages q) f.left s.left sl.1) f.front in
      let back' : Back (Stands others level) ys f.lo high f.hi f.after f.right =
      back_frame (Stands pages level) (Stands others level) (λ q. others q ≡ pages q) same ys f.lo high f.hi f.after f.right
      (all_back (λ q. others q ≡ pages q) s.right f.right sr) f.back in
      let parts : Parts (Stands others level) (xs ++ (entry ∷ ys)) low high (f.ahead ++ ((s.ahead ++ (mid' ++ s.after)) ++ f.after)) (f.left ++ ((s.left ++ (own' ++ s.right)) ++ f.right)) =
      rejoin (Stands others level) xs (entry ∷ []) ys entry.key low high f.lo f.hi f.ahead (s.ahead ++ (mid' ++ s.after)) f.after f.left (s.left ++ (own' ++ s.right)) f.right
      front' back' refl inner' in
      let parts1 : Parts (Stands others level) es low high (f.ahead ++ ((s.ahead ++ (mid' ++ s.after)) ++ f.after)) (f.left ++ ((s.left ++ (own' ++ s.right)) ++ f.right)) =
      subst (λ (l : List InnerItem). Parts (Stands others level) l low high (f.ahead ++ ((s.ahead ++ (mid' ++ s.after)) ++ f.after)) (f.left ++ ((s.left ++ (own' ++ s.right)) ++ f.right))) (sym are) parts in
      let parts2 : Parts (Stands others level) es low high ((f.ahead ++ s.ahead) ++ (mid' ++ (s.after ++ f.after))) (f.left ++ ((s.left ++ (own' ++ s.right)) ++ f.right)) =
      subst (λ (l : List (List ℕ)). Parts (Stands others level) es low high l (f.left ++ ((s.left ++ (own' ++ s.right)) ++ f.right)))
      (sym (regroup f.ahead s.ahead mid' s.after f.after)) parts1 in (
        es,
        f.left ++ ((s.left ++ (own' ++ s.right)) ++ f.right),
        inner_frame (pages root) (others root) root (suc level) es sl.0 ip,
        parts2,
        ap (λ (l : List ℕ). root ∷ l) (regroup f.left s.left own' s.right f.right),
      );
}

pub spot : (pages : ℕ → Image) (n level root : ℕ) (low high : Option (List ℕ)) (items : List (List ℕ)) (nodes : List ℕ) (key : List ℕ) (below page : ℕ)
    → Stands pages level root low high items nodes → Down pages key n level root below page → NotBelow low key → Below high key
    → Spot pages level root low high items nodes key below page
spot pages zero level root low high items nodes key below page h d f b =
    subst (λ (p : ℕ). Spot pages level root low high items nodes key below p) d.1
    (subst (λ (l : ℕ). Spot pages level root low high items nodes key l root) d.0 (spot_here pages level root low high items nodes key h f b))
spot pages (suc n) zero root low high items nodes key below page h d f b = absurd d
spot pages (suc n) (suc level) root low high items nodes key below page h d f b =
    let es : List InnerItem = h.0 in
    let ip : IsInnerPage (pages root) root (suc level) es = h.2 in
    let place : ℕ = d.0 in
    let entry : InnerItem = d.1 in
    let get : slice_get (map inner_bytes es) place ≡ Some (inner_bytes entry) = subst (λ (l : List (List ℕ)). slice_get l place ≡ Some (inner_bytes entry)) ip.has d.3 in
    let p : Parted es place entry = parted es place entry ip.each d.4 get in
    let child : IsChildFor (entry_keys es) key place =
    subst (λ (l : List (List ℕ)). IsChildFor l key place) (ap keys_of ip.has ∙ keys_of_entries es) d.2 in
    let ne : key_cmp entry.key key ≢ Greater = own_not_greater es p.xs entry p.ys place key p.are p.count child in
    let next : NextAbove key p.ys = next_above es p.xs entry p.ys place key p.are p.count child in
    let parts : Parts (Stands pages level) (p.xs ++ (entry ∷ p.ys)) low high items h.1 =
    subst (λ (l : List InnerItem). Parts (Stands pages level) l low high items h.1) p.are h.3 in
    let fo : Focus (Stands pages level) p.xs entry p.ys low high items h.1 = focus (Stands pages level) p.xs entry p.ys low high items h.1 parts in
    let lo : NotBelow fo.lo key = low_holds (Stands pages level) p.xs entry.key key low high fo.lo fo.ahead fo.left fo.front ne f in
    let hi : Below fo.hi key = high_holds (Stands pages level) p.ys key fo.lo high fo.hi fo.after fo.right fo.back next b in
    spot_below pages level root low high items nodes key below page es h.1 ip h.4 p.xs entry p.ys p.are ne next fo
    (spot pages n level entry.child fo.lo fo.hi fo.mid fo.own key below page fo.child d.5 lo hi)
