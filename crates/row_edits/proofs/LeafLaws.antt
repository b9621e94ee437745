-- The item of a key in a leaf.
use Rattle.std.proofs.Common.{◌≡◌, ◌<◌, ◌≤◌, ◌+◌, ◌-◌, ℕ, Bool, true, false, List, [], ◌∷◌, length, slice_get, get_or, Option, Some, None, Result, refl, sym, ◌∙◌, ap, subst, arith}
use Rattle.std.specs.List.{AllByRecursion}
use Rattle.std.specs.Prelude.{IfOk}
use Rattle.redo_record.specs.declared.plans.Plan.{Plan}
use Rattle.redo_record.specs.declared.plans.TreeNo.{TreeNo}
use Rattle.std.proofs.lemmas.Option.{get_or_from_slice_get}
use Rattle.page_image.specs.declared.kind.Kind.TheVariants as kind
use Rattle.page_image.specs.Image.{Image, is_inner}
use Rattle.page_view.specs.declared.leaf.LeafItem.{LeafItem}
use Rattle.page_view.specs.Keys.{Ascend, GreaterFrom, LessBelow, key_in, keys_of}
use Rattle.page_view.specs.Leaf.{IsLeaf, leaf_of}
use Rattle.page_view.specs.Undo.{IsOld}
use Rattle.tree_change.specs.Changes.{insert_plan, update_plan}
use Rattle.tree_change.specs.Pages.{HasRows}
use Rattle.tree_change.specs.Places.{HasKey, leaf_on, with_key}
use Rattle.tree_change.specs.Room.{lacks_room, room_for, size_of}
use Rattle.tree_change.specs.Splits.{HaveRoom}
use Rattle.tree_change.specs.Way.{IsWayTo}
use Rattle.tree_change.proofs.PlaceLaws.{key_of_item, with_key_absent, with_key_found}
use Rattle.tree_change.proofs.SortLaws.{not_there}
use Rattle.tree_change.proofs.WayLaws.{leaf_rows, some_pages}
use Rattle.row_edits.specs.RowPlans.{first_of, old_in, put_plan, put_by}

pub found_within : (leaf : Image) (key : List ℕ) (place : ℕ) → HasRows leaf → slice_get (keys_of leaf.items) place ≡ Some key → place < length leaf.items
found_within leaf key place rows e = (with_key_found key leaf.items place rows.ascend e).0

pub found_old : (leaf : Image) (key item : List ℕ) (place : ℕ) → HasRows leaf → slice_get (keys_of leaf.items) place ≡ Some key
    → slice_get leaf.items place ≡ Some item → old_in leaf key ≡ Some (leaf_of item)
unfolding old_in
found_old leaf key item place rows e here =
    ap first_of ((with_key_found key leaf.items place rows.ascend e).1 ∙ ap (λ (x : List ℕ). x ∷ []) (get_or_from_slice_get leaf.items place item [] here))

pub found_key : (leaf : Image) (key item : List ℕ) (place : ℕ) → HasRows leaf → slice_get (keys_of leaf.items) place ≡ Some key
    → slice_get leaf.items place ≡ Some item → (leaf_of item).key ≡ key
found_key leaf key item place rows e here =
    ap key_in (sym (get_or_from_slice_get leaf.items place item [] here))
    ∙ (sym (key_of_item leaf.items place (found_within leaf key place rows e)) ∙ get_or_from_slice_get (keys_of leaf.items) place key [] e)

pub no_old : (leaf : Image) (key : List ℕ) (n : ℕ) → LessBelow (keys_of leaf.items) n key → GreaterFrom (keys_of leaf.items) n key → None ≡ old_in leaf key
unfolding old_in
no_old leaf key n less greater = sym (ap first_of (with_key_absent key leaf.items n less greater))

pub has_found : (leaf : Image) (key : List ℕ) (place : ℕ) → slice_get (keys_of leaf.items) place ≡ Some key → HasKey key leaf
has_found leaf key place e = (place, e)

pub has_none : (leaf : Image) (key : List ℕ) (n : ℕ) → LessBelow (keys_of leaf.items) n key → GreaterFrom (keys_of leaf.items) n key → ¬ HasKey key leaf
has_none leaf key n less greater has = not_there (keys_of leaf.items) key n has.0 less greater has.1

pub some_old : (leaf : Image) (key : List ℕ) (place : ℕ) → HasRows leaf → slice_get (keys_of leaf.items) place ≡ Some key → old_in leaf key ≡ Some (leaf_of (get_or leaf.items place []))
unfolding old_in
some_old leaf key place rows e = ap first_of (with_key_found key leaf.items place rows.ascend e).1

pub put_found : (leaf : Image) (item : LeafItem) (place : ℕ) → HasRows leaf → slice_get (keys_of leaf.items) place ≡ Some item.key → update_plan leaf item ≡ put_plan leaf item
put_found leaf item place rows e = sym (ap (λ (old : Option LeafItem). put_by old leaf item) (some_old leaf item.key place rows e))

pub put_new : (leaf : Image) (item : LeafItem) (n : ℕ) → LessBelow (keys_of leaf.items) n item.key → GreaterFrom (keys_of leaf.items) n item.key → insert_plan leaf item ≡ put_plan leaf item
put_new leaf item n less greater = ap (λ (old : Option LeafItem). put_by old leaf item) (no_old leaf item.key n less greater)

pub rows_on : (key : List ℕ) (path : List Image) (leaf : Image) → IsWayTo key path → leaf ≡ leaf_on path → HasRows leaf
rows_on key path leaf w e = subst HasRows (sym e) (leaf_rows key path w)

pub put_updates : {E : Type 0} (leaf at : Image) (item : LeafItem) (key : List ℕ) (place : ℕ) (r : Result (Result Plan TreeNo) E)
    → IfOk r (λ answer. IfOk answer (λ plan. plan ≡ update_plan leaf item)) → HasRows leaf → at ≡ leaf → key ≡ item.key
    → slice_get (keys_of at.items) place ≡ Some key → IfOk r (λ answer. IfOk answer (λ plan. plan ≡ put_plan leaf item))
put_updates leaf at item key place r h rows el ek e =
    subst (λ (q : Plan). IfOk r (λ answer. IfOk answer (λ plan. plan ≡ q)))
    (put_found leaf item place rows
    (subst (λ (k : List ℕ). slice_get (keys_of leaf.items) place ≡ Some k) ek
    (subst (λ (l : Image). slice_get (keys_of l.items) place ≡ Some key) el e))) h

pub put_inserts : {E : Type 0} (leaf at : Image) (item : LeafItem) (key : List ℕ) (n : ℕ) (r : Result (Result Plan TreeNo) E)
    → IfOk r (λ answer. IfOk answer (λ plan. plan ≡ insert_plan leaf item)) → at ≡ leaf → key ≡ item.key
    → LessBelow (keys_of at.items) n key → GreaterFrom (keys_of at.items) n key → IfOk r (λ answer. IfOk answer (λ plan. plan ≡ put_plan leaf item))
put_inserts leaf at item key n r h el ek less greater =
    subst (λ (q : Plan). IfOk r (λ answer. IfOk answer (λ plan. plan ≡ q)))
    (put_new leaf item n
    (subst (λ (k : List ℕ). LessBelow (keys_of leaf.items) n k) ek (subst (λ (l : Image). LessBelow (keys_of l.items) n key) el less))
    (subst (λ (k : List ℕ). GreaterFrom (keys_of leaf.items) n k) ek (subst (λ (l : Image). GreaterFrom (keys_of l.items) n key) el greater))) h
