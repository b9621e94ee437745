-- The plans that change one item carry a tree to the tree of the changed items.
use Rattle.std.proofs.Common.{◌≡◌, ◌≢◌, ◌<◌, ◌≤◌, ◌+◌, ◌-◌, ℕ, suc, Bool, true, false, cond, eqb, List, [], ◌∷◌, ◌++◌, length, take, drop, get_or, Option, None, refl, sym, ap, subst, ◌∙◌, arith, inl, inr}
use Rattle.rm_base.specs.declared.limits.TheConstants.{PAGE_BYTES, PAGE_HEADER_BYTES}
use Rattle.std.specs.Prelude.{nat_eq, insert, remove, Contains}
use Rattle.std.specs.List.{AllByRecursion, IsDistinct}
use Rattle.std.proofs.lemmas.List.{length-append, length-take-le, take_at, drop_at, take-append-drop}
use Rattle.std.proofs.lemmas.List.Edits.{length-remove}
use Rattle.std.proofs.lemmas.List.Sums.{sum_by-remove}
use Rattle.std.proofs.lemmas.Bool.Decides.{eqb_tells}
use Rattle.rm_base.proofs.FieldLaws.{length-field}
use Rattle.page_image.specs.declared.kind.Kind.{Kind}
use Rattle.page_image.specs.declared.kind.Kind.TheVariants.{Leaf}
use Rattle.page_image.specs.Image.{Image, used, free_of, is_slotted, inserted, removed, CanInsert, CanRemove}
use Rattle.page_view.specs.declared.leaf.LeafItem.{LeafItem}
use Rattle.page_view.specs.Leaf.{leaf_bytes, IsLeaf}
use Rattle.page_view.specs.Keys.{keys_of}
use Rattle.page_view.proofs.LeafLaws.{leaf_holds}
use Rattle.redo_record.specs.declared.redo.Record.{Record}
use Rattle.redo_record.specs.declared.redo.Record.TheVariants.{Make, Patch, InsertSlot, RemoveSlot, Cut, Link}
use Rattle.redo_record.specs.Effect.{page_of, step, after_records, RecordsApply}
use Rattle.bplus_tree.specs.Tree.{NotBelow, Below, IsLeafPage, Tree, Stands, Linked, leaves_of}
use Rattle.tree_change.specs.Way.{IsWayTo}
use Rattle.tree_change.specs.Pages.{HasRows}
use Rattle.tree_change.specs.Places.{before, behind, lesser, with_key, HasKey, leaf_on}
use Rattle.tree_change.specs.Room.{size_of, room_for}
use Rattle.tree_change.specs.Changes.{insert_plan, update_plan, remove_plan}
use Rattle.tree_change.specs.Effects.{pages_after, TouchesOnly, with_item, without_item, MakeGroup, StandsOn, Carries}
use Rattle.tree_change.proofs.PlaceLaws.{absent_before, absent_behind, lesser_absent, lesser_found, found_before, found_behind, with_key_absent, with_key_found, as_many}
use Rattle.tree_change.proofs.ListLaws.{all_front, all_back}
use Rattle.tree_change.proofs.SortLaws.{placed}
use Rattle.tree_change.proofs.EffectLaws.{step_own, NoneFor, untouched, none_apply}
use Rattle.tree_change.proofs.RowLaws.{key_of_leaf, leaf_with, leaf_without, with_within, without_within}
use Rattle.tree_change.proofs.WayLaws.{At, at_leaf}
use Rattle.tree_change.proofs.MemberLaws.{among, member_has}
use Rattle.tree_change.proofs.NodeLaws.{IsNode, stands_nodes, distinct_front, distinct_back, same_without, leaves_same, linked_same}

-- ---- records that change the items of one page

abbrev pub ChangesItems : ℕ → Record → Type 0
ChangesItems page (InsertSlot p index bytes) = p ≡ page
ChangesItems page (RemoveSlot p index) = p ≡ page
ChangesItems page (Make p kind level) = ⊥
ChangesItems page (Patch p place bytes) = ⊥
ChangesItems page (Cut p from) = ⊥
ChangesItems page (Link p next) = ⊥

same_if : (b : Bool) (im om : Image) (k : Kind) → im.kind ≡ k → om.kind ≡ k → (cond b im om).kind ≡ k
same_if true im om k e f = e
same_if false im om k e f = f

next_if : (b : Bool) (im om : Image) (n : ℕ) → im.next ≡ n → om.next ≡ n → (cond b im om).next ≡ n
next_if true im om n e f = e
next_if false im om n e f = f

step_kind : (page : ℕ) (r : Record) (lsn : ℕ) (im : Image) → ChangesItems page r → (step lsn im r).kind ≡ im.kind
step_kind page (InsertSlot p index bytes) lsn im h = same_if (eqb p im.page) (inserted im index bytes lsn) im im.kind refl refl
step_kind page (RemoveSlot p index) lsn im h = same_if (eqb p im.page) (removed im index lsn) im im.kind refl refl
step_kind page (Make p kind level) lsn im h = absurd h
step_kind page (Patch p place bytes) lsn im h = absurd h
step_kind page (Cut p from) lsn im h = absurd h
step_kind page (Link p next) lsn im h = absurd h

step_next : (page : ℕ) (r : Record) (lsn : ℕ) (im : Image) → ChangesItems page r → (step lsn im r).next ≡ im.next
step_next page (InsertSlot p index bytes) lsn im h = next_if (eqb p im.page) (inserted im index bytes lsn) im im.next refl refl
step_next page (RemoveSlot p index) lsn im h = next_if (eqb p im.page) (removed im index lsn) im im.next refl refl
step_next page (Make p kind level) lsn im h = absurd h
step_next page (Patch p place bytes) lsn im h = absurd h
step_next page (Cut p from) lsn im h = absurd h
step_next page (Link p next) lsn im h = absurd h

after_kind : (page lsn : ℕ) (rs : List Record) (im : Image) → AllByRecursion (ChangesItems page) rs → (after_records lsn rs im).kind ≡ im.kind
after_kind page lsn [] im h = refl
after_kind page lsn (r ∷ rs) im h = after_kind page lsn rs (step lsn im r) h.1 ∙ step_kind page r lsn im h.0

after_next : (page lsn : ℕ) (rs : List Record) (im : Image) → AllByRecursion (ChangesItems page) rs → (after_records lsn rs im).next ≡ im.next
after_next page lsn [] im h = refl
after_next page lsn (r ∷ rs) im h = after_next page lsn rs (step lsn im r) h.1 ∙ step_next page r lsn im h.0

page_is : (page : ℕ) (r : Record) → ChangesItems page r → page_of r ≡ page
page_is page (InsertSlot p index bytes) h = h
page_is page (RemoveSlot p index) h = h
page_is page (Make p kind level) h = absurd h
page_is page (Patch p place bytes) h = absurd h
page_is page (Cut p from) h = absurd h
page_is page (Link p next) h = absurd h

none_for : (page other : ℕ) (rs : List Record) → page ≢ other → AllByRecursion (ChangesItems page) rs → NoneFor other rs
none_for page other [] ne h = tt
none_for page other (r ∷ rs) ne h = ((λ e. ne (sym (page_is page r h.0) ∙ e)), none_for page other rs ne h.1)

-- they touch that page alone
pub only_page : (page : ℕ) (rs : List Record) → AllByRecursion (ChangesItems page) rs → TouchesOnly (page ∷ []) rs
only_page page rs h lsn im ne = untouched lsn rs im (none_for page im.page rs ne.0 h)

-- and they apply to each page where they apply to that one
apply_to_all : (page lsn : ℕ) (rs : List Record) (im : Image) → AllByRecursion (ChangesItems page) rs → (page ≡ im.page → RecordsApply lsn rs im) → RecordsApply lsn rs im
apply_to_all page lsn rs im h own =
    elim (eqb_tells page im.page) [ inl yes' ↦ own yes'.1 | inr no' ↦ none_apply lsn rs im (none_for page im.page rs no'.1 h) ]

-- ---- the tree after a change of one leaf

pub leaf_changed : (key : List ℕ) (path : List Image) (w : IsWayTo key path) (i : ℕ) (a : At key path w i 0) (lsn : ℕ) (rs : List Record) (change : List (List ℕ) → List (List ℕ))
    → AllByRecursion (ChangesItems a.page) rs
    → IsLeafPage (after_records lsn rs (w.pages a.page)) a.page a.spot.lo a.spot.hi (change a.spot.mid)
    → change (a.spot.ahead ++ (a.spot.mid ++ a.spot.after)) ≡ a.spot.ahead ++ (change a.spot.mid ++ a.spot.after)
    → StandsOn (pages_after lsn rs w.pages) w.root (change w.items) w.tree.nodes w.tree.level
leaf_changed key path w i a lsn rs change rows leaf within =
    let others : ℕ → Image = pages_after lsn rs w.pages in
    let s = a.spot in
    let kinds = λ (q : ℕ). after_kind a.page lsn rs (w.pages q) rows in
    let nexts = λ (q : ℕ). after_next a.page lsn rs (w.pages q) rows in
    let same = λ (q : ℕ) (ne : (w.pages q).page ≢ a.page). untouched lsn rs (w.pages q) (none_for a.page (w.pages q).page rs (λ e. ne (sym e)) rows) in
    let nodes_are : w.tree.nodes ≡ s.left ++ (a.page ∷ s.right) = s.nodes_are ∙ ap (λ (l : List ℕ). s.left ++ (l ++ s.right)) s.part.1 in
    let all : AllByRecursion (IsNode w.pages) (s.left ++ (a.page ∷ s.right)) =
    subst (AllByRecursion (IsNode w.pages)) nodes_are (stands_nodes w.pages w.tree.level w.root None None w.items w.tree.nodes w.tree.stands) in
    let apart : IsDistinct nat_eq (s.left ++ (a.page ∷ s.right)) = subst (IsDistinct nat_eq) nodes_are w.tree.apart in
    let left = same_without w.pages others a.page same s.left (all_front (IsNode w.pages) s.left (a.page ∷ s.right) all) (distinct_front s.left a.page s.right apart) in
    let right = same_without w.pages others a.page same s.right ((all_back (IsNode w.pages) s.left (a.page ∷ s.right) all).1) (distinct_back s.left a.page s.right apart) in
    let built : Stands others w.tree.level w.root None None (s.ahead ++ (change s.mid ++ s.after)) (s.left ++ (s.own ++ s.right)) =
    s.rebuild others (change s.mid) s.own left right (leaf, s.part.1) in
    let items : change w.items ≡ s.ahead ++ (change s.mid ++ s.after) = ap change s.items_are ∙ within in
    let tree : Tree others w.root (change w.items) = record {
      level = w.tree.level;
      nodes = w.tree.nodes;
      low_enough = w.tree.low_enough;
      stands = subst (λ (l : List (List ℕ)). Stands others w.tree.level w.root None None l w.tree.nodes) (sym items)
          (subst (λ (n : List ℕ). Stands others w.tree.level w.root None None (s.ahead ++ (change s.mid ++ s.after)) n) (sym s.nodes_are) built);
      linked = subst (Linked others) (sym (leaves_same w.pages others kinds w.tree.nodes))
          (linked_same w.pages others nexts (leaves_of w.pages w.tree.nodes) w.tree.linked);
      apart = w.tree.apart;
    } in
    record { tree = tree; nodes_are = refl; level_is = refl }

-- ---- the page of the change

own_leaf : (key : List ℕ) (path : List Image) (w : IsWayTo key path) (page : ℕ) → (w.pages page).page ≡ page → (leaf_on path).page ≡ (w.pages page).page → leaf_on path ≡ w.pages page
own_leaf key path w page own e =
    let a = at_leaf key path w in
    let number : (leaf_on path).page ≡ a.page = ap (λ (im : Image). im.page) a.is ∙ a.spot.part.0.number in
    let same : page ≡ a.page = sym own ∙ sym e ∙ number in
    a.is ∙ ap w.pages (sym same)

-- it is a page of the tree
pub leaf_within : (key : List ℕ) (path : List Image) (w : IsWayTo key path) (page : ℕ) → Contains ((leaf_on path).page ∷ []) page → Contains w.tree.nodes page
leaf_within key path w page c =
    let a = at_leaf key path w in
    let s = a.spot in
    let number : (leaf_on path).page ≡ a.page = ap (λ (im : Image). im.page) a.is ∙ s.part.0.number in
    let nodes_are : w.tree.nodes ≡ s.left ++ (a.page ∷ s.right) = s.nodes_are ∙ ap (λ (l : List ℕ). s.left ++ (l ++ s.right)) s.part.1 in
    let own : Contains w.tree.nodes (leaf_on path).page =
    subst (Contains w.tree.nodes) (sym number) (subst (λ (l : List ℕ). Contains l a.page) (sym nodes_are) (among s.left s.right a.page)) in
    member_has (Contains w.tree.nodes) ((leaf_on path).page ∷ []) page (own, tt) c

leaf_number : (key : List ℕ) (path : List Image) (w : IsWayTo key path) (a : At key path w (length path - 1) 0) → (w.pages a.page).page ≡ a.page
leaf_number key path w a = a.spot.part.0.number

pub free_of_leaf : (im : Image) → im.kind ≡ Leaf → free_of im ≡ PAGE_BYTES - PAGE_HEADER_BYTES - used im.items
free_of_leaf im e = let s : is_slotted im.kind ≡ true = ap is_slotted e in rw s refl

pub size_is : (item : LeafItem) → length (leaf_bytes item) + 2 ≡ size_of item
size_is item =
    let key = item.key in
    simp (length-append, length-field) (omega arith)

some_bytes : (item : LeafItem) → 1 ≤ length (leaf_bytes item)
some_bytes item = omega arith

-- a leaf item fits a page
fits_page : (item : LeafItem) → IsLeaf item → (1 ≤ length (leaf_bytes item)) × (length (leaf_bytes item) ≤ PAGE_BYTES - PAGE_HEADER_BYTES)
fits_page item is = let size = size_is item in let short = is.short in (some_bytes item, omega (arith, size, short))

-- ---- an item put in

pub record IsPlace (key : List ℕ) (items : List (List ℕ)) (n : ℕ) : Type 0 where
  pub within : n ≤ length items
  pub is : lesser key items ≡ n
  pub front : before key items ≡ take n items
  pub back : behind key items ≡ drop n items
  pub none : with_key key items ≡ []

pub absent_place : (key : List ℕ) (im : Image) → HasRows im → ¬ HasKey key im → (n : ℕ) × IsPlace key im.items n
absent_place key im h no_key =
    let long = as_many im.items in
    elim (placed (keys_of im.items) key h.ascend) [
      | inl found ↦ absurd (no_key found)
      | inr p ↦ (
        p.0,
        record {
          within = (let le = p.1 in omega (arith, long, le));
          is = lesser_absent key im.items p.0 p.1 p.2 p.3;
          front = absent_before key im.items p.0 (let le = p.1 in omega (arith, long, le)) p.2 p.3;
          back = absent_behind key im.items p.0 p.2 p.3;
          none = with_key_absent key im.items p.0 p.2 p.3;
        },
      )
    ]

pub inserted_is : (key item : List ℕ) (items : List (List ℕ)) (n : ℕ) → IsPlace key items n → insert items (lesser key items) item ≡ with_item key item items
inserted_is key item items n p =
    ap (λ (k : ℕ). insert items k item) p.is
    ∙ ap (λ (l : List (List ℕ)). l ++ (item ∷ drop n items)) (sym p.front) ∙ ap (λ (l : List (List ℕ)). before key items ++ (item ∷ l)) (sym p.back)

insert_can : (im : Image) (item : LeafItem) → HasRows im → ¬ HasKey item.key im → size_of item ≤ room_for item.key im
    → CanInsert im (lesser item.key im.items) (leaf_bytes item)
insert_can im item h no_key room =
    let p = (absent_place item.key im h no_key) in
    let none = ap used p.1.none in
    let size = size_is item in
    record {
      slotted = ap is_slotted h.kind;
      some = some_bytes item;
      place = (let is = p.1.is in let within = p.1.within in omega (arith, is, within));
      room = omega (arith, none, size, room);
    }

insert_leaf : (im : Image) (page lsn : ℕ) (low high : Option (List ℕ)) (items : List (List ℕ)) (item : LeafItem)
    → IsLeafPage im page low high items → IsLeaf item → ¬ HasKey item.key im → HasRows im → NotBelow low item.key → Below high item.key
    → IsLeafPage (after_records lsn (insert_plan im item).records im) page low high (with_item item.key (leaf_bytes item) items)
insert_leaf im page lsn low high items item h is no_key rows f b =
    let p = (absent_place item.key im rows no_key) in
    let r : Record = InsertSlot im.page (lesser item.key im.items) (leaf_bytes item) in
    let done : IsLeafPage (inserted im (lesser item.key im.items) (leaf_bytes item) lsn) page low high (with_item item.key (leaf_bytes item) items) =
    leaf_with im (inserted im (lesser item.key im.items) (leaf_bytes item) lsn) page low high items item.key (leaf_bytes item) h refl refl
    (inserted_is item.key (leaf_bytes item) im.items p.0 p.1) (leaf_holds item is) (key_of_leaf item) f b in
    subst (λ (om : Image). IsLeafPage om page low high (with_item item.key (leaf_bytes item) items)) (sym (step_own r lsn im refl)) done

insert_rows : (im : Image) (item : LeafItem) (page : ℕ) → im.page ≡ page → AllByRecursion (ChangesItems page) (insert_plan im item).records
insert_rows im item page e = (e, tt)

pub insert_carries : (path : List Image) (item : LeafItem) → IsLeaf item → HasRows (leaf_on path) → ¬ HasKey item.key (leaf_on path)
    → size_of item ≤ room_for item.key (leaf_on path) → Carries item.key path (insert_plan (leaf_on path) item) (with_item item.key (leaf_bytes item))
insert_carries path item is rows no_key room = record {
  group = record { some = omega arith; most = omega arith; each = (fits_page item is, tt) };
  only = only_page (leaf_on path).page (insert_plan (leaf_on path) item).records (insert_rows (leaf_on path) item (leaf_on path).page refl);
  within = leaf_within item.key path;
  applies = λ w lsn page own.
      apply_to_all (leaf_on path).page lsn (insert_plan (leaf_on path) item).records (w.pages page) (insert_rows (leaf_on path) item (leaf_on path).page refl)
      (λ e. subst (λ (im : Image). RecordsApply lsn (insert_plan (leaf_on path) item).records im) (own_leaf item.key path w page own e)
      ((λ _. insert_can (leaf_on path) item rows no_key room), tt));
  stands = λ w lsn.
      let a = at_leaf item.key path w in
      let im = w.pages a.page in
      subst (λ (l : Image). StandsOn (pages_after lsn (insert_plan l item).records w.pages) w.root (with_item item.key (leaf_bytes item) w.items) w.tree.nodes w.tree.level) (sym a.is)
      (leaf_changed item.key path w (length path - 1) a lsn (insert_plan im item).records (with_item item.key (leaf_bytes item))
      (insert_rows im item a.page a.spot.part.0.number)
      (insert_leaf im a.page lsn a.spot.lo a.spot.hi a.spot.mid item a.spot.part.0 is (subst (λ (l : Image). ¬ HasKey item.key l) a.is no_key) (subst HasRows a.is rows) a.spot.low_end a.spot.high_end)
      (with_within item.key (leaf_bytes item) a.spot.ahead a.spot.mid a.spot.after a.spot.lesser a.spot.greater));
}

-- ---- an item taken out, or put in the place of another

pub record IsFoundAt (key : List ℕ) (items : List (List ℕ)) (i : ℕ) : Type 0 where
  pub within : i < length items
  pub is : lesser key items ≡ i
  pub front : before key items ≡ take i items
  pub back : behind key items ≡ drop (suc i) items
  pub one : with_key key items ≡ get_or items i [] ∷ []

pub found_place : (key : List ℕ) (im : Image) → HasRows im → HasKey key im → (i : ℕ) × IsFoundAt key im.items i
found_place key im h found =
    let w = with_key_found key im.items found.0 h.ascend found.1 in
    let one : found.0 + 1 ≡ suc found.0 = omega arith in (
      found.0,
      record {
        within = w.0;
        is = lesser_found key im.items found.0 h.ascend found.1;
        front = found_before key im.items found.0 h.ascend found.1;
        back = found_behind key im.items found.0 h.ascend found.1 ∙ ap (λ (k : ℕ). drop k im.items) one;
        one = w.1;
      },
    )

removed_is : (key : List ℕ) (items : List (List ℕ)) (i : ℕ) → IsFoundAt key items i → remove items (lesser key items) ≡ without_item key items
removed_is key items i p =
    ap (λ (k : ℕ). remove items k) p.is
    ∙ ap (λ (l : List (List ℕ)). l ++ drop (suc i) items) (sym p.front) ∙ ap (λ (l : List (List ℕ)). before key items ++ l) (sym p.back)

put_back : (items : List (List ℕ)) (i : ℕ) (item : List ℕ) → i < length items → insert (remove items i) i item ≡ take i items ++ (item ∷ drop (suc i) items)
put_back items i item h =
    let long : length (take i items) ≡ i = length-take-le i items (omega arith) in
    ap (λ (l : List (List ℕ)). l ++ (item ∷ drop i (remove items i))) (take_at (take i items) (drop (suc i) items) i long)
    ∙ ap (λ (l : List (List ℕ)). take i items ++ (item ∷ l)) (drop_at (take i items) (drop (suc i) items) i long)

replaced_is : (key item : List ℕ) (items : List (List ℕ)) (i : ℕ) → IsFoundAt key items i
    → insert (remove items (lesser key items)) (lesser key items) item ≡ with_item key item items
replaced_is key item items i p =
    ap (λ (k : ℕ). insert (remove items k) k item) p.is
    ∙ put_back items i item p.within
    ∙ ap (λ (l : List (List ℕ)). l ++ (item ∷ drop (suc i) items)) (sym p.front) ∙ ap (λ (l : List (List ℕ)). before key items ++ (item ∷ l)) (sym p.back)

remove_can : (im : Image) (key : List ℕ) → HasRows im → HasKey key im → CanRemove im (lesser key im.items)
remove_can im key h found =
    let p = found_place key im h found in
    record { slotted = ap is_slotted h.kind; there = (let is = p.1.is in let within = p.1.within in omega (arith, is, within)) }

remove_leaf : (im : Image) (page lsn : ℕ) (low high : Option (List ℕ)) (items : List (List ℕ)) (key : List ℕ)
    → IsLeafPage im page low high items → HasKey key im → HasRows im
    → IsLeafPage (after_records lsn (remove_plan im key).records im) page low high (without_item key items)
remove_leaf im page lsn low high items key h found rows =
    let p = (found_place key im rows found) in
    let r : Record = RemoveSlot im.page (lesser key im.items) in
    let done : IsLeafPage (removed im (lesser key im.items) lsn) page low high (without_item key items) =
    leaf_without im (removed im (lesser key im.items) lsn) page low high items key h refl refl (removed_is key im.items p.0 p.1) in
    subst (λ (om : Image). IsLeafPage om page low high (without_item key items)) (sym (step_own r lsn im refl)) done

remove_rows : (im : Image) (key : List ℕ) (page : ℕ) → im.page ≡ page → AllByRecursion (ChangesItems page) (remove_plan im key).records
remove_rows im key page e = (e, tt)

pub remove_carries : (path : List Image) (key : List ℕ) → HasRows (leaf_on path) → HasKey key (leaf_on path) → Carries key path (remove_plan (leaf_on path) key) (without_item key)
remove_carries path key rows found = record {
  group = record { some = omega arith; most = omega arith; each = (tt, tt) };
  only = only_page (leaf_on path).page (remove_plan (leaf_on path) key).records (remove_rows (leaf_on path) key (leaf_on path).page refl);
  within = leaf_within key path;
  applies = λ w lsn page own.
      apply_to_all (leaf_on path).page lsn (remove_plan (leaf_on path) key).records (w.pages page) (remove_rows (leaf_on path) key (leaf_on path).page refl)
      (λ e. subst (λ (im : Image). RecordsApply lsn (remove_plan (leaf_on path) key).records im) (own_leaf key path w page own e)
      ((λ _. remove_can (leaf_on path) key rows found), tt));
  stands = λ w lsn.
      let a = at_leaf key path w in
      let im = w.pages a.page in
      subst (λ (l : Image). StandsOn (pages_after lsn (remove_plan l key).records w.pages) w.root (without_item key w.items) w.tree.nodes w.tree.level) (sym a.is)
      (leaf_changed key path w (length path - 1) a lsn (remove_plan im key).records (without_item key)
      (remove_rows im key a.page a.spot.part.0.number)
      (remove_leaf im a.page lsn a.spot.lo a.spot.hi a.spot.mid key a.spot.part.0 (subst (HasKey key) a.is found) (subst HasRows a.is rows))
      (without_within key a.spot.ahead a.spot.mid a.spot.after a.spot.lesser a.spot.greater));
}

update_rows : (im : Image) (item : LeafItem) (page : ℕ) → im.page ≡ page → AllByRecursion (ChangesItems page) (update_plan im item).records
update_rows im item page e = (e, (e, tt))

room_again : (im : Image) (item : LeafItem) (lsn : ℕ) → HasRows im → HasKey item.key im → size_of item ≤ room_for item.key im → used im.items ≤ PAGE_BYTES - PAGE_HEADER_BYTES
    → CanInsert (removed im (lesser item.key im.items) lsn) (lesser item.key im.items) (leaf_bytes item)
room_again im item lsn h found room fits =
    let p = found_place item.key im h found in
    let i : ℕ = p.0 in
    let is : lesser item.key im.items ≡ i = p.1.is in
    let free = free_of_leaf im h.kind in
    let free' = free_of_leaf (removed im (lesser item.key im.items) lsn) h.kind in
    let one = ap used p.1.one in
    let left = sum_by-remove (λ (x : List ℕ). length x + 2) im.items i [] p.1.within in
    let less = length-remove im.items i p.1.within in
    let at_i : remove im.items (lesser item.key im.items) ≡ remove im.items i = ap (remove im.items) is in
    let at_used = ap used at_i in
    let at_length = ap length at_i in
    let size = size_is item in
    record {
      slotted = ap is_slotted h.kind;
      some = some_bytes item;
      place = (let within = p.1.within in omega (arith, is, within, less, at_length));
      room = omega (arith, free, free', one, left, at_used, size, room, fits);
    }

update_apply : (im : Image) (item : LeafItem) (lsn : ℕ) → HasRows im → HasKey item.key im → size_of item ≤ room_for item.key im → used im.items ≤ PAGE_BYTES - PAGE_HEADER_BYTES
    → RecordsApply lsn (update_plan im item).records im
update_apply im item lsn rows found room fits =
    let place = lesser item.key im.items in
    let first : Record = RemoveSlot im.page place in
    let second : Record = InsertSlot im.page place (leaf_bytes item) in (
      (λ _. remove_can im item.key rows found),
      subst (λ (om : Image). RecordsApply lsn (second ∷ []) om) (sym (step_own first lsn im refl)) ((λ _. room_again im item lsn rows found room fits), tt),
    )

update_leaf : (im : Image) (page lsn : ℕ) (low high : Option (List ℕ)) (items : List (List ℕ)) (item : LeafItem)
    → IsLeafPage im page low high items → IsLeaf item → HasKey item.key im → HasRows im → NotBelow low item.key → Below high item.key
    → IsLeafPage (after_records lsn (update_plan im item).records im) page low high (with_item item.key (leaf_bytes item) items)
update_leaf im page lsn low high items item h is found rows f b =
    let p = (found_place item.key im rows found) in
    let place = lesser item.key im.items in
    let first : Record = RemoveSlot im.page place in
    let second : Record = InsertSlot im.page place (leaf_bytes item) in
    let om = inserted (removed im place lsn) place (leaf_bytes item) lsn in
    let done : IsLeafPage om page low high (with_item item.key (leaf_bytes item) items) =
    leaf_with im om page low high items item.key (leaf_bytes item) h refl refl
    (replaced_is item.key (leaf_bytes item) im.items p.0 p.1) (leaf_holds item is) (key_of_leaf item) f b in
    let one : after_records lsn (update_plan im item).records im ≡ step lsn (removed im place lsn) second =
    ap (λ (i : Image). step lsn i second) (step_own first lsn im refl) in
    subst (λ (i : Image). IsLeafPage i page low high (with_item item.key (leaf_bytes item) items)) (sym (one ∙ step_own second lsn (removed im place lsn) refl)) done

pub update_carries : (path : List Image) (item : LeafItem) → IsLeaf item → HasRows (leaf_on path) → HasKey item.key (leaf_on path)
    → size_of item ≤ room_for item.key (leaf_on path) → used (leaf_on path).items ≤ PAGE_BYTES - PAGE_HEADER_BYTES
    → Carries item.key path (update_plan (leaf_on path) item) (with_item item.key (leaf_bytes item))
update_carries path item is rows found room fits = record {
  group = record { some = omega arith; most = omega arith; each = (tt, (fits_page item is, tt)) };
  only = only_page (leaf_on path).page (update_plan (leaf_on path) item).records (update_rows (leaf_on path) item (leaf_on path).page refl);
  within = leaf_within item.key path;
  applies = λ w lsn page own.
      apply_to_all (leaf_on path).page lsn (update_plan (leaf_on path) item).records (w.pages page) (update_rows (leaf_on path) item (leaf_on path).page refl)
      (λ e. subst (λ (im : Image). RecordsApply lsn (update_plan (leaf_on path) item).records im) (own_leaf item.key path w page own e)
      (update_apply (leaf_on path) item lsn rows found room fits));
  stands = λ w lsn.
      let a = at_leaf item.key path w in
      let im = w.pages a.page in
      subst (λ (l : Image). StandsOn (pages_after lsn (update_plan l item).records w.pages) w.root (with_item item.key (leaf_bytes item) w.items) w.tree.nodes w.tree.level) (sym a.is)
      (leaf_changed item.key path w (length path - 1) a lsn (update_plan im item).records (with_item item.key (leaf_bytes item))
      (update_rows im item a.page a.spot.part.0.number)
      (update_leaf im a.page lsn a.spot.lo a.spot.hi a.spot.mid item a.spot.part.0 is (subst (HasKey item.key) a.is found) (subst HasRows a.is rows) a.spot.low_end a.spot.high_end)
      (with_within item.key (leaf_bytes item) a.spot.ahead a.spot.mid a.spot.after a.spot.lesser a.spot.greater));
}

-- ---- no item has the key

pub absent_stays : (key : List ℕ) (path : List Image) → HasRows (leaf_on path) → ¬ HasKey key (leaf_on path) → (w : IsWayTo key path) → without_item key w.items ≡ w.items
absent_stays key path rows no_key w =
    let a = at_leaf key path w in
    let s = a.spot in
    let im = w.pages a.page in
    let p = absent_place key im (subst HasRows a.is rows) (subst (λ (l : Image). ¬ HasKey key l) a.is no_key) in
    let here : without_item key im.items ≡ im.items =
    ap (λ (l : List (List ℕ)). l ++ behind key im.items) p.1.front ∙ ap (λ (l : List (List ℕ)). take p.0 im.items ++ l) p.1.back ∙ take-append-drop p.0 im.items in
    let mid : without_item key s.mid ≡ s.mid = ap (without_item key) (sym s.part.0.has) ∙ here ∙ s.part.0.has in
    ap (without_item key) s.items_are
    ∙ without_within key s.ahead s.mid s.after s.lesser s.greater
    ∙ ap (λ (l : List (List ℕ)). s.ahead ++ (l ++ s.after)) mid
    ∙ sym s.items_are
