-- The plan of a row's change.
use Rattle.std.proofs.lemmas.List.{length-take-le}
use Rattle.std.proofs.Common.{take, drop, ◌-◌, length-append, length-drop, ◌≡◌, ◌≢◌, ◌<◌, ◌≤◌, ◌+◌, ◌||◌, ◌&&◌, ◌++◌, append_assoc, ℕ, Bool, true, false, List, [], ◌∷◌, length, Option, Some, None, Result, Ok, Err, refl, sym, ◌∙◌, ap, subst, arith, nat_le, nat_lt}
use Rattle.std.specs.Prelude.{◌↔◌, IfOk, IsErr, IsOk}
use Rattle.std.specs.Result.{is_ok}
use Rattle.std.proofs.lemmas.Bool.Decides.{nat_tests}
use Rattle.rm_base.specs.declared.limits.TheConstants.{MAX_PAGES}
use Rattle.page_image.specs.Image.{Image, free_of}
use Rattle.page_image.specs.Meta.{page_count}
use Rattle.page_view.specs.declared.leaf.LeafItem.{LeafItem}
use Rattle.page_view.specs.Leaf.{IsLeaf, leaf_bytes}
use Rattle.redo_record.specs.declared.plans.Plan.{Plan}
use Rattle.redo_record.specs.declared.plans.TreeNo.{TreeNo}
use Rattle.commit_stamps.specs.Effects.{Points}
use Rattle.commit_stamps.specs.Plans.{points}
use Rattle.undo_versions.specs.declared.appending.UndoStep.{UndoStep}
use Rattle.undo_versions.specs.declared.items.UndoItem.{UndoItem}
use Rattle.undo_versions.specs.Appending.{NeedsPage, bytes_of, fits_bytes, undo_step}
use Rattle.undo_versions.specs.Effects.{Appends}
use Rattle.tree_change.specs.Effects.{Carries, with_item}
use Rattle.tree_change.specs.Places.{leaf_on}
use Rattle.tree_change.specs.Room.{room_for, size_of}
use Rattle.row_edits.specs.RowGrounds.{IsRowGround}
use Rattle.row_edits.proofs.RoomLaws.{room_on}
use Rattle.row_edits.specs.declared.changes.RowGround.{RowGround}
use Rattle.rm_base.specs.Fields.{field, with_field}
use Rattle.rm_base.proofs.FieldLaws.{length-field}
use Rattle.rm_base.specs.declared.places.UndoPtr.{UndoPtr}
use Rattle.row_edits.specs.RowPlans.{CountsFor, IsPlaceIn, IsRowPlan, begun, begun_by, has_pages, has_root_room, has_undo_room, item_of, joined_with, naming, next_page, old_in, pages_of, pointing, put_by, put_plan, root_of, step_of, undo_of}

-- ---- a page for the undo item

apart : false ≡ true → ⊥
apart q = cc

tested : (fits left : Bool) (free size count : ℕ) → nat_le (size + 2) free ≡ fits → nat_lt count MAX_PAGES ≡ left
    → fits || left ≡ false → (free < size + 2) × (MAX_PAGES ≤ count)
tested true left free size count e f g = absurd (apart (sym g))
tested false true free size count e f g = absurd (apart (sym g))
tested false false free size count e f g = (grind (arith, nat_tests), grind (arith, nat_tests))

tested_back : (fits left : Bool) (free size count : ℕ) → nat_le (size + 2) free ≡ fits → nat_lt count MAX_PAGES ≡ left
    → (free < size + 2) × (MAX_PAGES ≤ count) → fits || left ≡ false
tested_back true left free size count e f g = let l = g.0 in absurd (grind (arith, nat_tests))
tested_back false true free size count e f g = let l = g.1 in absurd (grind (arith, nat_tests))
tested_back false false free size count e f g = refl

is_full : (g : RowGround) → (NeedsPage g.undo (undo_of g) × (MAX_PAGES ≤ page_count g.meta)) → has_undo_room g ≡ false
is_full g h = tested_back _ _ (free_of g.undo) (length (bytes_of (undo_of g))) (page_count g.meta) refl refl h

full_is : (g : RowGround) → has_undo_room g ≡ false → NeedsPage g.undo (undo_of g) × (MAX_PAGES ≤ page_count g.meta)
full_is g e = tested _ _ (free_of g.undo) (length (bytes_of (undo_of g))) (page_count g.meta) refl refl e

-- what was planned for the undo item of the change, and for one that is it
pub full_of : (g : RowGround) (undo : UndoItem) (answer : Result UndoStep TreeNo) → undo ≡ undo_of g
    → (IsErr answer ↔ (NeedsPage g.undo undo × (MAX_PAGES ≤ page_count g.meta)))
    → IsErr answer ↔ (NeedsPage g.undo (undo_of g) × (MAX_PAGES ≤ page_count g.meta))
full_of g undo answer e h = subst (λ (u : UndoItem). IsErr answer ↔ (NeedsPage g.undo u × (MAX_PAGES ≤ page_count g.meta))) e h

pub step_from : (g : RowGround) (undo : UndoItem) (answer : Result UndoStep TreeNo) → undo ≡ undo_of g
    → IfOk answer (λ step. step ≡ undo_step g.meta g.undo undo) → IfOk answer (λ step. step ≡ step_of g)
step_from g undo answer e h = subst (λ (u : UndoItem). IfOk answer (λ step. step ≡ undo_step g.meta g.undo u)) e h

both : (a b c : Bool) → a ≡ true → c ≡ b → c ≡ a && b
both a b c e f = rw e f

neither : (a b : Bool) → a ≡ false → false ≡ a && b
neither a b e = rw e refl

not_false : (b : Bool) → (b ≡ false → ⊥) → b ≡ true
not_false true h = refl
not_false false h = absurd (h refl)

some_room : (g : RowGround) (answer : Result UndoStep TreeNo) → (IsErr answer ↔ (NeedsPage g.undo (undo_of g) × (MAX_PAGES ≤ page_count g.meta)))
    → is_ok answer ≡ true → has_undo_room g ≡ true
some_room g (Ok step) h e = not_false (has_undo_room g) (λ f. apart (h.1 (full_is g f)))
some_room g (Err why) h e = absurd (apart e)

pub pages_left : (g : RowGround) (answer : Result UndoStep TreeNo) (step : UndoStep) (b : Bool) → answer ≡ Ok step
    → (IsErr answer ↔ (NeedsPage g.undo (undo_of g) × (MAX_PAGES ≤ page_count g.meta)))
    → IfOk answer (λ s. s ≡ step_of g) → b ≡ has_root_room g.change.begins (next_page g.meta step.made) → b ≡ has_pages g
pages_left g answer step b e h is q =
    let k : step ≡ step_of g = subst (λ (a : Result UndoStep TreeNo). IfOk a (λ s. s ≡ step_of g)) e is in
    both (has_undo_room g) (has_root_room g.change.begins (root_of g)) b (some_room g answer h (ap is_ok e))
    (q ∙ ap (λ (s : UndoStep). has_root_room g.change.begins (next_page g.meta s.made)) k)

pub no_pages : (g : RowGround) (answer : Result UndoStep TreeNo) (why : TreeNo) → answer ≡ Err why
    → (IsErr answer ↔ (NeedsPage g.undo (undo_of g) × (MAX_PAGES ≤ page_count g.meta))) → false ≡ has_pages g
no_pages g answer why e h =
    neither (has_undo_room g) (has_root_room g.change.begins (root_of g))
    (is_full g ((subst (λ (a : Result UndoStep TreeNo). IsErr a ↔ (NeedsPage g.undo (undo_of g) × (MAX_PAGES ≤ page_count g.meta))) e h).0 refl))

first_true : (a b : Bool) → a && b ≡ true → a ≡ true
first_true true b e = refl
first_true false b e = e

second_true : (a b : Bool) → a && b ≡ true → b ≡ true
second_true true b e = e
second_true false b e = absurd (apart e)

step_is : (answer : Result UndoStep TreeNo) (P : Type 0) → (IsErr answer ↔ P) → (P → ⊥) → is_ok answer ≡ true
step_is (Ok step) P h none = refl
step_is (Err why) P h none = absurd (none (h.0 refl))

pub has_step : (g : RowGround) (undo : UndoItem) (answer : Result UndoStep TreeNo) → has_pages g ≡ true → undo ≡ undo_of g
    → (IsErr answer ↔ (NeedsPage g.undo undo × (MAX_PAGES ≤ page_count g.meta))) → is_ok answer ≡ true
has_step g undo answer room e h =
    step_is answer (NeedsPage g.undo (undo_of g) × (MAX_PAGES ≤ page_count g.meta)) (full_of g undo answer e h)
    (λ p. apart (sym (is_full g p) ∙ first_true (has_undo_room g) (has_root_room g.change.begins (root_of g)) room))

pub root_room : (g : RowGround) (undo : UndoItem) (step : UndoStep) (next : ℕ) → has_pages g ≡ true → undo ≡ undo_of g
    → step ≡ undo_step g.meta g.undo undo → next ≡ next_page g.meta step.made → has_root_room g.change.begins next ≡ true
root_room g undo step next room eu es en =
    let se : step ≡ step_of g = es ∙ ap (λ (u : UndoItem). undo_step g.meta g.undo u) eu in
    ap (has_root_room g.change.begins) (en ∙ ap (λ (s : UndoStep). next_page g.meta s.made) se)
    ∙ second_true (has_undo_room g) (has_root_room g.change.begins (root_of g)) room

-- ---- the item

with_field_length : (old : List ℕ) (at x : ℕ) → at + 4 ≤ length old → length (with_field 4 old at x) ≡ length old
with_field_length old at x h =
    let f : length (field 4 x) ≡ 4 = length-field 4 x in
    let t : length (take at old) ≡ at = length-take-le at old (omega arith) in
    let d : length (drop (at + 4) old) ≡ length old - (at + 4) = length-drop (at + 4) old in
    rw (length-append, length-append) (omega arith)

pub named_leaf : (item other : LeafItem) (place root : ℕ) (value : List ℕ) → IsLeaf item → place + 4 ≤ length item.value
    → value ≡ with_field 4 item.value place root → other ≡ record item { value = value } → IsLeaf other
named_leaf item other place root value leaf within e f =
    let n : length value ≡ length item.value = ap length e ∙ with_field_length item.value place root within in
    let short = leaf.short in
    subst IsLeaf (sym f) (record {
      short_key = leaf.short_key;
      short = omega arith;
      trx = leaf.trx;
      older_page = leaf.older_page;
      older_slot = leaf.older_slot;
    })

pub placed : (g : RowGround) (item : LeafItem) (at : UndoPtr) → IsRowGround g → item ≡ pointing g.change.item at → IsPlaceIn g.change.begins item.value
placed g item at basis e = subst (λ (i : LeafItem). IsPlaceIn g.change.begins i.value) (sym e) basis.roomy.is.place

-- ---- the pages

pub one_or_none : (page : Option ℕ) → length (pages_of page) ≤ 1
one_or_none None = omega arith
one_or_none (Some page) = omega arith

one_page : (o : Option LeafItem) (leaf : Image) (item : LeafItem) → (put_by o leaf item).pages ≡ leaf.page ∷ []
one_page None leaf item = refl
one_page (Some old) leaf item = refl

pub put_page : (leaf : Image) (item : LeafItem) (put : Plan) → put ≡ put_plan leaf item → length put.pages ≤ 3
put_page leaf item put e =
    let n : length put.pages ≡ 1 = ap (λ (p : Plan). length p.pages) e ∙ ap length (one_page (old_in leaf item.key) leaf item) in omega arith

pub pages_joined : (pages root last : List ℕ) (undo slots : ℕ)
    → (((pages ++ root) ++ undo ∷ []) ++ slots ∷ []) ++ last ≡ pages ++ (root ++ (undo ∷ (slots ∷ last)))
pages_joined pages root last undo slots = simp append_assoc

-- ---- the plan

same_size : (begins : Option ℕ) (root : ℕ) (item : LeafItem) → IsPlaceIn begins item.value → size_of (naming begins root item) ≡ size_of item
same_size None root item h = refl
same_size (Some place) root item h =
    let n : length (with_field 4 item.value place root) ≡ length item.value = with_field_length item.value place root h in
    omega arith

same_room : (begins : Option ℕ) (root : ℕ) (item : LeafItem) (path : List Image) → room_for (naming begins root item).key (leaf_on path) ≡ room_for item.key (leaf_on path)
same_room None root item path = refl
same_room (Some place) root item path = refl

pub put_fits : (g : RowGround) (item pointed : LeafItem) (step : UndoStep) (next : ℕ) (answer : Result Plan TreeNo) → IsRowGround g
    → pointed ≡ pointing g.change.item step.at → item ≡ naming g.change.begins next pointed
    → (IsOk answer ↔ (size_of item ≤ room_for item.key (leaf_on g.path))) → IsOk answer
put_fits g item pointed step next answer basis ep ei h =
    let e : item ≡ naming g.change.begins next (pointing g.change.item step.at) = ei ∙ ap (naming g.change.begins next) ep in
    let fits : size_of g.change.item ≤ room_for g.change.item.key (leaf_on g.path) = room_on g.change.item g.path basis.roomy.way basis.roomy.room in
    let size : size_of (naming g.change.begins next (pointing g.change.item step.at)) ≡ size_of (pointing g.change.item step.at) =
    same_size g.change.begins next (pointing g.change.item step.at) basis.roomy.is.place in
    let same : room_for (naming g.change.begins next (pointing g.change.item step.at)).key (leaf_on g.path) ≡ room_for (pointing g.change.item step.at).key (leaf_on g.path) =
    same_room g.change.begins next (pointing g.change.item step.at) g.path in
    h.1 (subst (λ (i : LeafItem). size_of i ≤ room_for i.key (leaf_on g.path)) (sym e) (le_by size same fits))
  where
    le_by : {a b c d : ℕ} → a ≡ b → c ≡ d → b ≤ d → a ≤ c
    le_by p q l = omega arith

pub is_row_plan : (g : RowGround) (undo : UndoItem) (step : UndoStep) (next : ℕ) (root : Option ℕ) (pointed item : LeafItem) (put plan : Plan)
    → undo ≡ undo_of g → step ≡ undo_step g.meta g.undo undo → Appends g.undo undo step
    → next ≡ next_page g.meta step.made → root ≡ begun g.change.begins next
    → pointed ≡ pointing g.change.item step.at → item ≡ naming g.change.begins next pointed → IsLeaf item
    → put ≡ put_plan (leaf_on g.path) item → Carries item.key g.path put (with_item item.key (leaf_bytes item))
    → plan ≡ joined_with g root put step
    → Points g.slots g.change.session step.at (points g.slots g.change.session step.at ∷ [])
    → CountsFor g.meta root step.made → IsRowPlan g plan
is_row_plan g undo step next root pointed item put plan eu es appends en er ew ei leaf ep carries ej points_to counts =
    let se : step ≡ step_of g = es ∙ ap (λ (u : UndoItem). undo_step g.meta g.undo u) eu in
    let ne : next ≡ root_of g = en ∙ ap (λ (s : UndoStep). next_page g.meta s.made) se in
    let re : root ≡ begun_by g = er ∙ ap (begun g.change.begins) ne in
    let we : pointed ≡ pointing g.change.item (step_of g).at = ew ∙ ap (λ (s : UndoStep). pointing g.change.item s.at) se in
    let ie : item ≡ item_of g = ei ∙ (ap (λ (n : ℕ). naming g.change.begins n pointed) ne ∙ ap (naming g.change.begins (root_of g)) we) in
    let pe : put ≡ put_plan (leaf_on g.path) (item_of g) = ep ∙ ap (λ (i : LeafItem). put_plan (leaf_on g.path) i) ie in
    let key : (item_of g).key ≡ g.change.item.key = same_key g.change.begins (root_of g) (pointing g.change.item (step_of g).at) in
    record {
      plan_is = ej ∙ (ap (λ (r : Option ℕ). joined_with g r put step) re
          ∙ (ap (λ (p : Plan). joined_with g (begun_by g) p step) pe
          ∙ ap (λ (s : UndoStep). joined_with g (begun_by g) (put_plan (leaf_on g.path) (item_of g)) s) se));
      spelt = subst IsLeaf ie leaf;
      carries = subst (λ (k : List ℕ). Carries k g.path (put_plan (leaf_on g.path) (item_of g)) (with_item k (leaf_bytes (item_of g)))) key
          (subst (λ (p : Plan). Carries (item_of g).key g.path p (with_item (item_of g).key (leaf_bytes (item_of g)))) pe
          (subst (λ (i : LeafItem). Carries i.key g.path put (with_item i.key (leaf_bytes i))) ie carries));
      appends = subst (λ (s : UndoStep). Appends g.undo (undo_of g) s) se (subst (λ (u : UndoItem). Appends g.undo u step) eu appends);
      pointed = subst (λ (s : UndoStep). Points g.slots g.change.session s.at (points g.slots g.change.session s.at ∷ [])) se points_to;
      counts = subst (λ (s : UndoStep). CountsFor g.meta (begun_by g) s.made) se (subst (λ (r : Option ℕ). CountsFor g.meta r step.made) re counts);
    }
  where
    same_key : (begins : Option ℕ) (root : ℕ) (item : LeafItem) → (naming begins root item).key ≡ item.key
    same_key None root item = refl
    same_key (Some at) root item = refl
