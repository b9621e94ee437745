-- The plan of an undo.
use Rattle.std.proofs.Common.{◌≡◌, ◌≢◌, ◌<◌, ◌≤◌, ◌+◌, ◌&&◌, ℕ, suc, Bool, true, false, List, [], ◌∷◌, length, slice_get, Option, Some, None, Result, Ok, Err, refl, sym, ◌∙◌, ap, subst, arith, nat_le, nat_eq}
use Rattle.std.specs.Prelude.{◌↔◌, IfOk, IfSome, IsOk, IsSome, if◌then◌else◌, option_and_then}
use Rattle.std.specs.Result.{is_ok}
use Rattle.std.proofs.lemmas.Bool.Decides.{nat_tests}
use Rattle.rm_base.specs.Fields.{AreBytes}
use Rattle.rm_base.specs.declared.places.UndoPtr.{UndoPtr}
use Rattle.page_image.specs.Image.{Image}
use Rattle.page_view.specs.declared.leaf.LeafItem.{LeafItem}
use Rattle.std.specs.declared.cmp.Ordering.{Ordering}
use Rattle.std.specs.declared.cmp.Ordering.TheVariants.{Less, Equal, Greater}
use Rattle.std.specs.Ordering.{is_eq}
use Rattle.page_view.specs.Keys.{IsFound, key_cmp, key_in, keys_of}
use Rattle.page_view.specs.Leaf.{IsLeaf, leaf_bytes}
use Rattle.page_view.specs.Undo.{IsOld, IsUndo, undo_of}
use Rattle.page_view.proofs.UndoLaws.{undo_reads}
use Rattle.redo_record.specs.declared.plans.Plan.{Plan}
use Rattle.redo_record.specs.declared.plans.TreeNo.{TreeNo}
use Rattle.commit_stamps.specs.Effects.{Points}
use Rattle.commit_stamps.specs.Plans.{points}
use Rattle.undo_versions.specs.declared.items.UndoItem.{UndoItem}
use Rattle.undo_versions.specs.Reading.{holds_undo, is_undo, item_of, item_or_none, older, undo_in, undone_of}
use Rattle.undo_versions.proofs.ReadLaws.{undo_told}
use Rattle.tree_change.specs.Changes.{remove_plan}
use Rattle.tree_change.specs.Effects.{Carries, with_item}
use Rattle.tree_change.specs.Pages.{HasRows}
use Rattle.tree_change.specs.Places.{HasKey, leaf_on, with_key}
use Rattle.tree_change.specs.Way.{IsWayTo}
use Rattle.tree_change.proofs.AnswerLaws.{if_ok_is}
use Rattle.tree_change.proofs.PlaceLaws.{equal_from}
use Rattle.tree_change.proofs.WayLaws.{leaf_rows}
use Rattle.row_edits.specs.declared.changes.BackGround.{BackGround}
use Rattle.row_edits.specs.BackPlans.{HasItem, IsBackPlan, can_by, is_some, items_by, joined_back, leaf_plan, plan_by, put_back}
use Rattle.row_edits.specs.RowPlans.{first_of, old_in, put_by, put_plan}
use Rattle.row_edits.proofs.LeafLaws.{no_old, some_old}

apart : false ≡ true → ⊥
apart q = cc

-- ---- an undo item is read

abbrev Is : Option UndoItem → Type 0
Is found = IfSome found (λ undo. IsUndo (undone_of undo))

found_by : (page : Image) (at : UndoPtr) (bytes : List ℕ) (b : Bool) → AreBytes bytes → holds_undo bytes ≡ b
    → Is (item_or_none (if b then Some (undo_of bytes) else None))
found_by page at bytes true bs h = (undo_reads bytes bs (undo_told bytes h)).0
found_by page at bytes false bs h = tt

read_by : (page : Image) (at : UndoPtr) (bytes : List ℕ) (b : Bool) → AreBytes bytes → slice_get page.items at.slot ≡ Some bytes
    → Is (item_or_none (if b then option_and_then undo_in (slice_get page.items at.slot) else None))
read_by page at bytes true bs e = rw e (found_by page at bytes (holds_undo bytes) bs refl)
read_by page at bytes false bs e = tt

pub undo_found : {E : Type 0} (page : Image) (at : UndoPtr) (bytes : List ℕ) (r : Result (Option UndoItem) E)
    → IfOk r (λ found. found ≡ older page at) → AreBytes bytes → slice_get page.items at.slot ≡ Some bytes
    → IfOk r (λ found. IfSome found (λ undo. IsUndo (undone_of undo)))
undo_found page at bytes r h bs e =
    if_ok_is Is (older page at) r h (read_by page at bytes (is_undo page.kind && nat_eq page.page at.page) bs e)

nothing_by : (page : Image) (at : UndoPtr) (b : Bool) → slice_get page.items at.slot ≡ None
    → None ≡ item_or_none (if b then option_and_then undo_in (slice_get page.items at.slot) else None)
nothing_by page at true e = rw e refl
nothing_by page at false e = refl

pub nothing_there : (page : Image) (at : UndoPtr) → slice_get page.items at.slot ≡ None → None ≡ older page at
nothing_there page at e = nothing_by page at (is_undo page.kind && nat_eq page.page at.page) e

-- ---- the old item

pub key_of_old : (key : List ℕ) (o : Option LeafItem) (old : LeafItem) → o ≡ Some old → IsOld key o → old.key ≡ key
key_of_old key o old e h = (subst (IsOld key) e h).1

pub leaf_of_old : (key : List ℕ) (o : Option LeafItem) (old : LeafItem) → o ≡ Some old → IsOld key o → IsLeaf old
leaf_of_old key o old e h = (subst (IsOld key) e h).0

pub way_of_old : (key : List ℕ) (o : Option LeafItem) (old : LeafItem) (path : List Image) → o ≡ Some old → IsOld key o → IsWayTo key path → IsWayTo old.key path
way_of_old key o old path e h w = subst (λ (k : List ℕ). IsWayTo k path) (sym (key_of_old key o old e h)) w

-- ---- the leaf

pub there_is : (key : List ℕ) (path : List Image) (leaf : Image) (r : Result ℕ ℕ) → IsWayTo key path → leaf ≡ leaf_on path
    → IsFound (keys_of leaf.items) key r → is_ok r ≡ is_some (old_in (leaf_on path) key)
there_is key path leaf r w e f = go r (subst (λ (l : Image). IsFound (keys_of l.items) key r) e f)
  where
    go : (s : Result ℕ ℕ) → IsFound (keys_of (leaf_on path).items) key s → is_ok s ≡ is_some (old_in (leaf_on path) key)
    go (Ok i) h = sym (ap is_some (some_old (leaf_on path) key i (leaf_rows key path w) h))
    go (Err n) h = ap is_some (no_old (leaf_on path) key n h.1 h.2)

pub fits_if : (answer : Result Plan TreeNo) (size room : ℕ) → (IsOk answer ↔ (size ≤ room)) → is_ok answer ≡ nat_le size room
fits_if (Ok plan) size room h = let l : size ≤ room = h.0 refl in grind (arith, nat_tests)
fits_if (Err why) size room h = go (nat_le size room) refl
  where
    go : (b : Bool) → nat_le size room ≡ b → false ≡ b
    go true e = h.1 (grind (arith, nat_tests))
    go false e = refl

pub has_room : (answer : Result Plan TreeNo) (size room : ℕ) → (IsOk answer ↔ (size ≤ room)) → nat_le size room ≡ true → is_ok answer ≡ true
has_room answer size room h e = fits_if answer size room h ∙ e

-- an item with the key that is among those with the key has it
has_by : (key : List ℕ) (items : List (List ℕ)) → is_some (first_of (with_key key items)) ≡ true → (i : ℕ) × (slice_get (keys_of items) i ≡ Some key)
has_by key [] e = absurd (apart e)
has_by key (item ∷ items) e = go (key_cmp (key_in item) key) (λ h. has_by key items h) refl e
  where
    go : (o : Ordering) → (is_some (first_of (with_key key items)) ≡ true → (i : ℕ) × (slice_get (keys_of items) i ≡ Some key)) → key_cmp (key_in item) key ≡ o
        → is_some (first_of (if is_eq o then item ∷ with_key key items else with_key key items)) ≡ true
        → (i : ℕ) × (slice_get (keys_of (item ∷ items)) i ≡ Some key)
    go Equal rec q h = (0, ap Some (equal_from (key_in item) key q))
    go Less rec q h = let r = rec h in (suc r.0, r.1)
    go Greater rec q h = let r = rec h in (suc r.0, r.1)

pub taken_there : (key : List ℕ) (o : Option LeafItem) (path : List Image) → o ≡ None → can_by o path key ≡ true → HasItem key path
unfolding old_in
taken_there key o path e h =
    has_by key (leaf_on path).items (subst (λ (p : Option LeafItem). can_by p path key ≡ true) e h)

-- ---- the plan

pub carries_old : (key : List ℕ) (o : Option LeafItem) (old : LeafItem) (path : List Image) (plan : Plan) → o ≡ Some old → old.key ≡ key
    → Carries old.key path plan (with_item old.key (leaf_bytes old)) → Carries key path plan (items_by key o)
carries_old key o old path plan e k h =
    subst (λ (p : Option LeafItem). Carries key path plan (items_by key p)) (sym e)
    (subst (λ (x : List ℕ). Carries x path plan (with_item x (leaf_bytes old))) k h)

one_page : (o : Option LeafItem) (leaf : Image) (item : LeafItem) → (put_by o leaf item).pages ≡ leaf.page ∷ []
one_page None leaf item = refl
one_page (Some old) leaf item = refl

leaf_page : (o : Option LeafItem) (leaf : Image) (key : List ℕ) → (plan_by o leaf key).pages ≡ leaf.page ∷ []
leaf_page None leaf key = refl
leaf_page (Some old) leaf key = one_page (old_in leaf old.key) leaf old

pub few_pages : (g : BackGround) (plan : Plan) → plan ≡ leaf_plan g → length plan.pages ≤ 5
few_pages g plan e =
    let n : length plan.pages ≡ 1 = ap (λ (p : Plan). length p.pages) e ∙ ap length (leaf_page g.undo.old (leaf_on g.path) g.undo.key) in omega arith

pub is_back_plan : (g : BackGround) (plan whole : Plan) → plan ≡ leaf_plan g → IsOld g.undo.key g.undo.old
    → Carries g.undo.key g.path plan (put_back g.undo) → whole ≡ joined_back g plan
    → Points g.slots g.session g.undo.before (points g.slots g.session g.undo.before ∷ []) → IsBackPlan g whole
is_back_plan g plan whole e old carries j pointed = record {
  plan_is = j ∙ ap (joined_back g) e;
  spelt = old;
  carries = subst (λ (p : Plan). Carries g.undo.key g.path p (put_back g.undo)) e carries;
  pointed = pointed;
}
