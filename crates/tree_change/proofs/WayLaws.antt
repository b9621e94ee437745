-- What is known of the pages on the way to a key.
use Rattle.std.proofs.Common.{◌≡◌, ◌<◌, ◌≤◌, ◌+◌, ◌-◌, ℕ, zero, suc, List, [], ◌∷◌, length, map, get_or, slice_get, Option, Some, None, refl, sym, ap, subst, ◌∙◌, arith, inl, inr}
use Rattle.rm_base.specs.declared.limits.TheConstants.{MAX_KEY_BYTES}
use Rattle.std.specs.List.{AllByRecursion}
use Rattle.std.proofs.lemmas.List as lists
use Rattle.std.proofs.lemmas.List.{length-map, length-append}
use Rattle.rm_base.specs.Fields.{field}
use Rattle.rm_base.proofs.FieldLaws.{length-field}
use Rattle.page_image.specs.Image.{Image, unmade}
use Rattle.page_view.specs.Inner.{InnerItem, inner_bytes, IsInner}
use Rattle.page_view.specs.Leaf.{HoldsLeaf}
use Rattle.page_view.specs.Keys.{keys_of, Ascend, IsChildFor}
use Rattle.page_view.proofs.InnerLaws.{inner_holds}
use Rattle.bplus_tree.specs.Tree.{IsLeafPage, IsInnerPage, Parts, Stands, Way}
use Rattle.tree_change.specs.Way.{IsWayTo}
use Rattle.tree_change.specs.Pages.{HasRows, HoldsChild, HasChildren, IsTreePage}
use Rattle.tree_change.specs.Places.{page_on, leaf_on}
use Rattle.tree_change.proofs.PartLaws.{Child}
use Rattle.tree_change.proofs.SpotLaws.{Down, Spot, spot}

way_length : (pages : ℕ → Image) (level root : ℕ) (key : List ℕ) (numbers : List ℕ) → Way pages level root key numbers → length numbers ≡ level + 1
way_length pages zero root key numbers w = ap length w
way_length pages (suc level) root key numbers w =
    let rest = way_length pages level w.1.child key w.2 w.6 in
    let e = ap length w.7 in
    omega (arith, rest, e)

way_starts : (pages : ℕ → Image) (level root : ℕ) (key : List ℕ) (numbers : List ℕ) → Way pages level root key numbers → root ≡ get_or numbers 0 0
way_starts pages zero root key numbers w = sym (ap (λ (l : List ℕ). get_or l 0 0) w)
way_starts pages (suc level) root key numbers w = sym (ap (λ (l : List ℕ). get_or l 0 0) w.7)

way_down : (pages : ℕ → Image) (i level root l : ℕ) (key : List ℕ) (numbers : List ℕ) → Way pages level root key numbers → i + l ≡ level
    → Down pages key i level root l (get_or numbers i 0)
way_down pages zero level root l key numbers w e = ((omega arith), way_starts pages level root key numbers w)
way_down pages (suc i) zero root l key numbers w e = absurd (omega arith)
way_down pages (suc i) (suc level) root l key numbers w e =
    let rest : Down pages key i level w.1.child l (get_or w.2 i 0) = way_down pages i level w.1.child l key w.2 w.6 (omega arith) in
    let here : get_or numbers (suc i) 0 ≡ get_or w.2 i 0 = ap (λ (k : List ℕ). get_or k (suc i) 0) w.7 in
    (w.0, w.1, w.3, w.4, w.5, subst (λ (p : ℕ). Down pages key i level w.1.child l p) (sym here) rest)

-- one step down the way
pub record StepDown (pages : ℕ → Image) (key : List ℕ) (page below : ℕ) : Type 0 where
  pub place : ℕ
  pub entry : InnerItem
  pub child : IsChildFor (keys_of (pages page).items) key place
  pub get : slice_get (pages page).items place ≡ Some (inner_bytes entry)
  pub is : IsInner entry
  pub child_is : entry.child ≡ below

pub step_down : (pages : ℕ → Image) (i level root l : ℕ) (key : List ℕ) (numbers : List ℕ) → Way pages level root key numbers → i + suc l ≡ level
    → StepDown pages key (get_or numbers i 0) (get_or numbers (suc i) 0)
step_down pages zero zero root l key numbers w e = absurd (omega arith)
step_down pages zero (suc level) root l key numbers w e =
    let here : root ≡ get_or numbers 0 0 = way_starts pages (suc level) root key numbers w in
    let next : w.1.child ≡ get_or numbers 1 0 =
    way_starts pages level w.1.child key w.2 w.6 ∙ sym (ap (λ (k : List ℕ). get_or k 1 0) w.7) in
    subst (λ (p : ℕ). StepDown pages key p (get_or numbers 1 0)) here
    (record { place = w.0; entry = w.1; child = w.3; get = w.4; is = w.5; child_is = next })
step_down pages (suc i) zero root l key numbers w e = absurd (omega arith)
step_down pages (suc i) (suc level) root l key numbers w e =
    let rest = step_down pages i level w.1.child l key w.2 w.6 (omega arith) in
    let here : get_or numbers (suc i) 0 ≡ get_or w.2 i 0 = ap (λ (k : List ℕ). get_or k (suc i) 0) w.7 in
    let next : get_or numbers (suc (suc i)) 0 ≡ get_or w.2 (suc i) 0 = ap (λ (k : List ℕ). get_or k (suc (suc i)) 0) w.7 in
    subst (λ (p : ℕ). StepDown pages key p (get_or numbers (suc (suc i)) 0)) (sym here)
    (subst (λ (p : ℕ). StepDown pages key (get_or w.2 i 0) p) (sym next) rest)

-- the page at a place of the path, in its tree
pub record At (key : List ℕ) (path : List Image) (w : IsWayTo key path) (i below : ℕ) : Type 0 where
  pub page : ℕ
  pub number : page ≡ get_or w.numbers i 0
  pub down : Down w.pages key i w.tree.level w.root below page
  pub is : page_on path i ≡ w.pages page
  pub spot : Spot w.pages w.tree.level w.root None None w.items w.tree.nodes key below page

pub path_length : (key : List ℕ) (path : List Image) (w : IsWayTo key path) → length path ≡ w.tree.level + 1
path_length key path w =
    ap length w.read ∙ length-map w.numbers w.pages ∙ way_length w.pages w.tree.level w.root key w.numbers w.way

pub at : (key : List ℕ) (path : List Image) (w : IsWayTo key path) (i below : ℕ) → i + below ≡ w.tree.level → At key path w i below
at key path w i below e =
    let d = way_down w.pages i w.tree.level w.root below key w.numbers w.way e in
    let long = way_length w.pages w.tree.level w.root key w.numbers w.way in
    let inside : i < length w.numbers = omega arith in
    record {
      page = get_or w.numbers i 0;
      number = refl;
      down = d;
      is = ap (λ (l : List Image). get_or l i (unmade 0)) w.read ∙ lists.get_or-map w.pages w.numbers i 0 (unmade 0) inside;
      spot = spot w.pages i w.tree.level w.root None None w.items w.tree.nodes key below (get_or w.numbers i 0) w.tree.stands d tt tt;
    }

-- ---- the pages alone

pub rows_of : (im : Image) (page : ℕ) (low high : Option (List ℕ)) (items : List (List ℕ)) → IsLeafPage im page low high items → HasRows im
rows_of im page low high items h = record {
  kind = h.kind;
  items = subst (AllByRecursion HoldsLeaf) (sym h.has) h.each;
  ascend = subst (λ (l : List (List ℕ)). Ascend (keys_of l)) (sym h.has) h.ascend;
}

holds_child : (e : InnerItem) → IsInner e → length e.key ≤ MAX_KEY_BYTES → HoldsChild (inner_bytes e)
holds_child e is short = record {
  inner = inner_holds e is;
  short = (let l = length-append e.key (field 4 e.child) in let f = length-field 4 e.child in omega (arith, l, f, short));
}

hold_children : (es : List InnerItem) → AllByRecursion IsInner es → AllByRecursion (λ entry. length entry.key ≤ MAX_KEY_BYTES) es → AllByRecursion HoldsChild (map inner_bytes es)
hold_children [] is short = tt
hold_children (e ∷ es) is short = (holds_child e is.0 short.0, hold_children es is.1 short.1)

some_parts : (C : Child) (es : List InnerItem) (low high : Option (List ℕ)) (items : List (List ℕ)) (nodes : List ℕ) → Parts C es low high items nodes → 0 < length es
some_parts C [] low high items nodes p = absurd p
some_parts C (e ∷ es) low high items nodes p = omega arith

pub children_of : (im : Image) (page level : ℕ) (es : List InnerItem) (C : Child) (low high : Option (List ℕ)) (items : List (List ℕ)) (nodes : List ℕ)
    → IsInnerPage im page level es → Parts C es low high items nodes → HasChildren im
children_of im page level es C low high items nodes h p = record {
  kind = h.kind;
  items = subst (AllByRecursion HoldsChild) (sym h.has) (hold_children es h.each h.short);
  some = (let long = ap length h.has ∙ length-map es inner_bytes in let n = some_parts C es low high items nodes p in omega (arith, long, n));
  ascend = h.ascend;
  least = h.least;
}

at_rows : (key : List ℕ) (path : List Image) (w : IsWayTo key path) (i : ℕ) → At key path w i 0 → HasRows (page_on path i)
at_rows key path w i a =
    subst HasRows (sym a.is) (rows_of (w.pages a.page) a.page a.spot.lo a.spot.hi a.spot.mid a.spot.part.0)

at_children : (key : List ℕ) (path : List Image) (w : IsWayTo key path) (i l : ℕ) → At key path w i (suc l) → HasChildren (page_on path i)
at_children key path w i l a =
    let p = a.spot.part in
    subst HasChildren (sym a.is) (children_of (w.pages a.page) a.page (suc l) p.0 (Stands w.pages l) a.spot.lo a.spot.hi a.spot.mid p.1 p.2 p.3)

pub leaf_place : (key : List ℕ) (path : List Image) (w : IsWayTo key path) → length path - 1 ≡ w.tree.level
leaf_place key path w = let h = path_length key path w in omega (arith, h)

pub at_leaf : (key : List ℕ) (path : List Image) (w : IsWayTo key path) → At key path w (length path - 1) 0
at_leaf key path w = at key path w (length path - 1) 0 (let h = leaf_place key path w in omega (arith, h))

pub some_pages : (key : List ℕ) (path : List Image) → IsWayTo key path → 0 < length path
some_pages key path w = let h = path_length key path w in omega (arith, h)

pub leaf_rows : (key : List ℕ) (path : List Image) → IsWayTo key path → HasRows (leaf_on path)
leaf_rows key path w = at_rows key path w (length path - 1) (at_leaf key path w)

pub inner_children : (key : List ℕ) (path : List Image) → IsWayTo key path → (i : ℕ) → i + 1 < length path → HasChildren (page_on path i)
inner_children key path w i h =
    let long = path_length key path w in
    let l : ℕ = w.tree.level - (i + 1) in
    let e : i + suc l ≡ w.tree.level = omega (arith, long) in
    at_children key path w i l (at key path w i (suc l) e)

pub tree_pages : (key : List ℕ) (path : List Image) → IsWayTo key path → (i : ℕ) → i < length path → IsTreePage (page_on path i)
tree_pages key path w i h = pages_at (w.tree.level - i) (omega (arith, path_length key path w))
  where
    pages_at : (l : ℕ) → i + l ≡ w.tree.level → IsTreePage (page_on path i)
    pages_at zero e = inl (at_rows key path w i (at key path w i 0 e))
    pages_at (suc l) e = inr (at_children key path w i l (at key path w i (suc l) e))
