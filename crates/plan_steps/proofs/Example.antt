-- For the proofs: the example's change and its undoing, by computation and by the laws.
use Rattle.std.proofs.Common.{◌≡◌, ◌≢◌, ◌<◌, ◌+◌, ◌^◌, ℕ, zero, suc, Bool, true, false, cond, List, [], ◌∷◌, ◌++◌, length, Some, None, inr, refl, sym, ap, subst, ◌∙◌, arith, length-append, length-drop, drop, take, Option}
use Rattle.std.specs.Prelude.{Contains, if◌then◌else◌, ◌&&◌, nat_eq, bytes_eq, codes}
use Rattle.std.specs.List.{IsDistinct}
use Rattle.std.proofs.lemmas.List.{length-replicate, length-take-le}
use Rattle.rm_base.specs.Fields.{field, number}
use Rattle.rm_base.specs.declared.places.UndoPtr.{UndoPtr}
use Rattle.page_image.specs.Meta.{IsSlots}
use Rattle.page_image.specs.declared.kind.Kind.TheVariants.{Leaf, Inner}
use Rattle.page_image.specs.Image.{Image, has_body, zeros}
use Rattle.page_view.specs.declared.leaf.LeafItem.{LeafItem}
use Rattle.page_view.specs.Leaf.{HoldsLeaf, IsLeaf, leaf_bytes}
use Rattle.page_view.specs.Undo.{IsUndo}
use Rattle.redo_record.specs.declared.redo.Record.{Record}
use Rattle.redo_record.specs.declared.redo.Record.TheVariants.{InsertSlot, RemoveSlot}
use Rattle.redo_record.specs.Effect.{step}
use Rattle.bplus_tree.specs.Tree.{IsLeafPage, Linked, Stands, Tree, is_leaf}
use Rattle.commit_stamps.specs.Effects.{Points, SetsSlot}
use Rattle.commit_stamps.specs.Fields.{pointer_bytes, slot_of}
use Rattle.commit_stamps.specs.Plans.{points}
use Rattle.commit_stamps.proofs.EffectLaws.{other_after, own_after, own_apply}
use Rattle.commit_stamps.proofs.FieldLaws.{length-pointer, points_slot}
use Rattle.row_codec.specs.Records.{IsRecord, value_bytes}
use Rattle.sql_values.specs.declared.schemas.Schema.{Schema}
use Rattle.sql_database.specs.Catalog.{schema_of, schema_row}
use Rattle.undo_versions.specs.Appending.{bytes_of, fits_bytes, step_by, undo_step}
use Rattle.undo_versions.specs.Effects.{Appends}
use Rattle.undo_versions.specs.Reading.{holds_undo, older, undo_in, undone_of}
use Rattle.undo_versions.proofs.StepLaws.{appends_at_end}
use Rattle.version_store.specs.Contents.{catalog_name}
use Rattle.version_store.specs.Groups.{AllMake, Group, Makes, Writes, begins, commits, creates, writes}
use Rattle.version_store.specs.Held.{Held}
use Rattle.version_store.specs.Rooted.{Rooted}
use Rattle.version_store.specs.Stores.{Store, UndoEntry, begun, blank, catalog, changed, created, put, put_row, stamped}
use Rattle.version_store.specs.Versions.{Version}
use Rattle.version_store.proofs.GroupLaws.{groups_keep, logs_keep}
use Rattle.held_versions.specs.Example.{first_version, items, pages, place, root, row, schema, second_item, second_version, store, table_version}
use Rattle.held_versions.specs.Holds.{Holds}
use Rattle.held_versions.specs.Keeping.{grown}
use Rattle.held_versions.specs.Tables.{SaysRow}
use Rattle.held_versions.proofs.Parts.{put_elsewhere}
use Rattle.held_versions.proofs.Witness.{example_holds}
use Rattle.tree_timeline.specs.Types.{Items, Pages}
use Rattle.plan_steps.specs.Example.{ExampleRuns, back_pages, back_store, replaces, third_item, third_pages, third_step, third_store, third_undo, third_version}
use Rattle.plan_steps.specs.KeyItems.{put_item}
use Rattle.plan_steps.specs.Parts.{ChangesLeaf, KeepsOld, TouchOnly, undo_in_use}
use Rattle.plan_steps.specs.RowChanges.{IsRowChange, SaysOf, with_row}
use Rattle.plan_steps.specs.UndoSteps.{IsUndoStep, with_back}
use Rattle.plan_steps.proofs.Records.{step_other}
use Rattle.plan_steps.proofs.Rows.{row_is_changed}
use Rattle.plan_steps.proofs.Undoes.{undo_step_is_undone}

-- ---- a tree of one leaf

one_leaf : (at : Pages) (r : ℕ) (its : Items) (l : ℕ) (ns : List ℕ) → (at r).kind ≡ Leaf
    → Stands at l r None None its ns → ns ≡ r ∷ []
one_leaf at r its zero ns k s = s.1
one_leaf at r its (suc l) ns k s = absurd (let f : Leaf ≡ Inner = sym k ∙ s.2.kind in cc)

alone : (r : ℕ) → IsDistinct nat_eq (r ∷ [])
unfolding IsDistinct
alone r = (tt, tt)

linked_by : (at : Pages) (r : ℕ) (b : Bool) → (at r).next ≡ 0 → Linked at (cond b (r ∷ []) [])
linked_by at r true none = none
linked_by at r false none = tt

abbrev leaf_tree : (at : Pages) (r : ℕ) (its : Items) → IsLeafPage (at r) r None None its
    → (at r).next ≡ 0 → Tree at r its
leaf_tree at r its page none = record {
  level = 0;
  nodes = r ∷ [];
  low_enough = omega arith;
  stands = (page, refl);
  linked = linked_by at r (is_leaf (at r).kind) none;
  apart = alone r;
}

here : (r : ℕ) → Contains (r ∷ []) r
here r = (0, omega arith, refl)

touches : (new : LeafItem) → TouchOnly root (replaces new)
touches new lsn im ne =
    ap (λ (i : Image). step lsn i (InsertSlot root 0 (leaf_bytes new)))
    (step_other (RemoveSlot root 0) lsn im ne)
    ∙ step_other (InsertSlot root 0 (leaf_bytes new)) lsn im ne

-- the leaf of one item after it is replaced
leaf_changes : (its : ℕ → Items) (at : Pages) (lsn : ℕ) (new : LeafItem) (now : Items)
    → (at root).kind ≡ Leaf → (at root).next ≡ 0
    → IsLeafPage (grown lsn (replaces new) at root) root None None now
    → (grown lsn (replaces new) at root).next ≡ 0
    → ChangesLeaf its at lsn root root now (replaces new)
leaf_changes its at lsn new now kind next page none = record {
  only = touches new;
  node = λ tree.
      subst (λ (ns : List ℕ). Contains ns root)
      (sym (one_leaf at root (its root) tree.level tree.nodes kind tree.stands)) (here root);
  stands = λ tree. (
    leaf_tree (grown lsn (replaces new) at) root now page none,
    sym (one_leaf at root (its root) tree.level tree.nodes kind tree.stands),
  );
}

third_leaf : HoldsLeaf (leaf_bytes third_item)
unfolding field
third_leaf =
    let size : length (leaf_bytes third_item) ≡ 21 = refl in
    record { short_key = omega arith; long = omega (arith, size); short = omega (arith, size); flag = omega arith }

second_leaf : HoldsLeaf (leaf_bytes second_item)
unfolding field
second_leaf =
    let size : length (leaf_bytes second_item) ≡ 21 = refl in
    record { short_key = omega arith; long = omega (arith, size); short = omega (arith, size); flag = omega arith }

third_page : IsLeafPage (grown 2 (replaces third_item) pages root) root None None
    (put_item third_item.key (leaf_bytes third_item) (items root))
third_page = record {
  kind = refl;
  number = refl;
  has = refl;
  each = (third_leaf, tt);
  ascend = λ i j less within. absurd (omega arith);
  from = (tt, tt);
  below = (tt, tt);
}

back_page : IsLeafPage (grown 3 (replaces second_item) third_pages root) root None None
    (put_item (codes "a") (leaf_bytes second_item) (with_row items root third_item root))
back_page = record {
  kind = refl;
  number = refl;
  has = refl;
  each = (second_leaf, tt);
  ascend = λ i j less within. absurd (omega arith);
  from = (tt, tt);
  below = (tt, tt);
}

-- ---- items and undo items within their limits

third_spelt : IsLeaf third_item
unfolding field
third_spelt = record {
  short_key = omega arith;
  short = omega arith;
  trx = omega arith;
  older_page = omega arith;
  older_slot = omega arith;
}

second_spelt : IsLeaf second_item
unfolding field
second_spelt = record {
  short_key = omega arith;
  short = omega arith;
  trx = omega arith;
  older_page = omega arith;
  older_slot = omega arith;
}

third_kept : IsUndo (undone_of third_undo)
third_kept = record {
  trx = omega arith;
  root = omega arith;
  before_page = omega arith;
  before_slot = omega arith;
  short_key = omega arith;
  old = (second_spelt, refl);
}

-- ---- the undo item

in_use : undo_in_use pages ≡ pages 1027
unfolding number field
in_use = refl

fits : fits_bytes (pages 1027) (bytes_of third_undo) ≡ true
unfolding field
fits = refl

reads : undo_in (bytes_of third_undo) ≡ Some (undone_of third_undo)
unfolding number field holds_undo
reads = refl

step_is : third_step ≡ undo_step (pages 0) (undo_in_use pages) third_undo
step_is =
    sym (ap (λ (im : Image). undo_step (pages 0) im third_undo) in_use
    ∙ ap (λ (b : Bool). step_by b (pages 0) (pages 1027) (bytes_of third_undo)) fits)

appended : Appends (undo_in_use pages) third_undo third_step
appended =
    subst (λ (im : Image). Appends im third_undo third_step) (sym in_use)
    (appends_at_end (pages 1027) third_undo (bytes_of third_undo) refl third_kept refl reads fits)

-- ---- the slot

long_slots : length (pages 1).body ≡ 4064
unfolding field zeros
long_slots =
    let size = length-replicate {A = ℕ} 4048 0 in
    simp (length-append) (omega (arith, size))

long_after : (body bytes : List ℕ) → length body ≡ 4064 → length bytes ≡ 6
    → length (take 8 body ++ (bytes ++ drop (8 + length bytes) body)) ≡ 4064
long_after body bytes long six =
    let front = length-take-le 8 body (omega (arith, long)) in
    let back = length-drop (8 + length bytes) body in
    simp (length-append) (omega (arith, front, back, long, six))

pointed : (im : Image) → IsSlots im → length im.body ≡ 4064 → (at : UndoPtr) → at.page < 2 ^ 32
    → at.slot < 2 ^ 16 → Points im 0 at (points im 0 at ∷ [])
pointed im is long at few low =
    let size = length-pointer at in
    let one : Record = points im 0 at in
    record {
      runs = record {
        some = omega arith;
        most = omega arith;
        each = ((omega (arith, size), omega (arith, size)), tt);
        applies = λ lsn. (
          own_apply lsn (points im 0 at) [] im refl
              (record { fields = ap has_body is.kind; past_header = omega arith; within = omega (arith, size) })
              tt,
          tt,
        );
        only = λ lsn other ne. other_after lsn (points im 0 at) [] other ne.0;
      };
      slot = λ lsn.
          subst (λ (i : Image). SetsSlot im i 0 (record (slot_of im 0) { last = at }))
          (sym (own_after lsn (points im 0 at) [] im refl))
          (points_slot im 0 at lsn is long (omega arith) few low);
    }

-- ---- the change

third_changes : ChangesLeaf items pages 2 root root
    (put_item third_item.key (leaf_bytes third_item) (items root)) (replaces third_item)
third_changes =
    leaf_changes items pages 2 third_item
    (put_item third_item.key (leaf_bytes third_item) (items root)) refl refl third_page refl

third_keeps : KeepsOld items pages 0 2 root (codes "a") third_undo
unfolding number field
third_keeps =
    record { trx_is = refl; root_is = refl; key_is = refl; old_is = refl; before_is = refl }

change : IsRowChange items pages 2 0 2 root root (replaces third_item) third_item third_undo third_step
change = record {
  changes = third_changes;
  spelt = third_spelt;
  wrote = refl;
  points_to = refl;
  keeps_old = third_keeps;
  appends = record {
    step_is = step_is;
    appends = appended;
    pointed =
        pointed (pages 1) (record { kind = refl; number = refl }) long_slots (place 3) (omega arith)
        (omega arith);
  };
  counts = tt;
}

-- ---- the log that leaves the store

abbrev begun_first : Store
begun_first = begun blank 0

abbrev made : Store
made = created begun_first 0 1 (codes "t") (Some (schema_row schema))

abbrev filled : Store
filled = changed made 0 1 root (codes "a") (Some (row (codes "1")))

abbrev committed : Store
committed = stamped filled 0 1

abbrev begun_second : Store
begun_second = begun committed 0

abbrev left : Store
left = changed begun_second 0 2 root (codes "a") (Some (row (codes "2")))

abbrev log : List Group
log =
    begins 0 ∷ (creates 0 (codes "t") (schema_row schema)
    ∷ (writes 0 (codes "t") (codes "a") (Some (row (codes "1")))
    ∷ (commits 0 ∷ (begins 0 ∷ (writes 0 (codes "t") (codes "a") (Some (row (codes "2"))) ∷ [])))))

no_slot : (f : ℕ → Option ℕ) (x : Option ℕ) (v u : ℕ) → f v ≡ None → v ≢ 0 → put f 0 x v ≡ Some u → ⊥
no_slot f x v u none ne e =
    let g : None ≡ Some u = sym (put_elsewhere f 0 x v ne ∙ none) ∙ e in cc

abbrev one_stamp : ℕ → ℕ
one_stamp = put {A = ℕ} (λ t. 0) 1 1

abbrev no_slots : ℕ → Option ℕ
no_slots s = None

abbrev freed_slots : ℕ → Option ℕ
freed_slots = put {A = Option ℕ} (put {A = Option ℕ} no_slots 0 (Some 1)) 0 None

one_is_stamped : (u : ℕ) → 1 ≡ u → one_stamp u ≡ 0 → u ≡ 2
one_is_stamped u e f =
    let g : one_stamp 1 ≡ 0 = ap one_stamp e ∙ f in absurd (omega (arith, g))

writes_first : Writes made 0 1 root (codes "t") (codes "a")
writes_first = record {
  slot = refl;
  root = refl;
  sees = λ u o. sym o.0;
  alone = λ v u ne e. refl;
}

none_before : (v : ℕ) → v ≢ 0 → freed_slots v ≡ None
none_before v ne =
    put_elsewhere {A = Option ℕ} (put {A = Option ℕ} no_slots 0 (Some 1)) 0 None v ne
    ∙ put_elsewhere {A = Option ℕ} no_slots 0 (Some 1) v ne

writes_second : Writes begun_second 0 2 root (codes "t") (codes "a")
writes_second = record {
  slot = refl;
  root = refl;
  sees = λ u o. one_is_stamped u o.0 o.1;
  alone = λ v u ne e.
      absurd (no_slot freed_slots (Some 2) v u (none_before v ne) ne e);
}

log_makes : AllMake log blank left
unfolding catalog_name
log_makes = (
  begun_first,
  (refl, refl),
  (
    made,
    (1, refl, refl, refl),
    (
      filled,
      (1, root, writes_first, refl, refl),
      (
        committed,
        (1, refl, refl),
        (begun_second, (refl, refl), (left, (2, root, writes_second, refl, refl), refl)),
      ),
    ),
  ),
)

twice : {A : Type 0} (b : Bool) (x y z : A) → (if b then x else (if b then y else z)) ≡ (if b then x else z)
twice true x y z = refl
twice false x y z = refl

thrice : {A : Type 0} (b : Bool) (w x y z : A)
    → (if b then w else (if b then x else (if b then y else z))) ≡ (if b then w else z)
thrice true w x y z = refl
thrice false w x y z = refl

often : {A : Type 0} (b : Bool) (v w x y u z : A)
    → (if b then v else (if b then w else (if b then x else (if b then y else (if b then u else z)))))
    ≡ (if b then v else z)
often true v w x y u z = refl
often false v w x y u z = refl

left_is : left ≡ store
left_is = λ i. record {
  rows = λ r k.
      twice {A = List Version} (nat_eq r root && bytes_eq k (codes "a")) (second_version ∷ (first_version ∷ []))
      (first_version ∷ [])
      (put_row (λ (q : ℕ) (j : List ℕ). []) catalog (codes "t") (table_version ∷ []) r k) i;
  stamp = one_stamp;
  last = 1;
  next = 3;
  pages = 1029;
  slot = λ s. thrice {A = Option ℕ} (nat_eq s 0) (Some 2) None (Some 1) None i;
  undo = λ s.
      often {A = List UndoEntry} (nat_eq s 0) (record { root = root; key = codes "a" } ∷ []) []
      (record { root = root; key = codes "a" }
      ∷ (record { root = catalog; key = codes "t" } ∷ []))
      (record { root = catalog; key = codes "t" } ∷ []) [] [] i;
}

kept : Held store × Rooted store
kept = subst (λ (S : Store). Held S × Rooted S) left_is (logs_keep log left log_makes)

-- ---- by the law

none_else : (v u : ℕ) → v ≢ 0 → put {A = Option ℕ} no_slots 0 (Some 2) v ≡ Some u → ⊥
none_else v u ne e = no_slot no_slots (Some 2) v u refl ne e

may_write : Writes store 0 2 root (codes "t") (codes "a")
may_write = record {
  slot = refl;
  root = refl;
  sees = λ u o. one_is_stamped u o.0 o.1;
  alone = λ v u ne e. absurd (none_else v u ne e);
}

row_spelt : IsRecord schema (row (codes "3")) (codes "a") (value_bytes 0 (row (codes "3")))
unfolding field
row_spelt = record {
  fits = record { cells = (tt, (tt, tt)); key = λ e. cc };
  ints = tt;
  key_is = refl;
  value_is = refl;
  short_key = omega arith;
  short_record = omega arith;
}

schema_read : schema_of (schema_row schema) ≡ schema
schema_read = refl

says : SaysOf store (codes "t") third_item third_version
says v def one is_def =
    let list : table_version ∷ [] ≡ v ∷ [] = one in
    let same : table_version ≡ v = cc in
    let there : Some (schema_row schema) ≡ Some def = ap (λ (w : Version). w.row) same ∙ is_def in
    let text : schema_row schema ≡ def = cc in
    subst (λ (s : Schema). SaysRow s third_item third_version) (sym schema_read ∙ ap schema_of text)
    (inr (refl, (row (codes "3"), row_spelt, refl)))

holds : Holds (with_row items root third_item) third_pages third_store
holds =
    (row_is_changed items pages store 2 0 2 root root (replaces third_item) third_item third_undo
    third_step (codes "t") (Some (row (codes "3"))) example_holds kept.0 kept.1 may_write change
    says).0

makes_third : Makes (writes 0 (codes "t") (codes "a") (Some (row (codes "3")))) store third_store
unfolding catalog_name
makes_third = (2, root, may_write, refl, refl)

kept_third : Held third_store × Rooted third_store
kept_third =
    groups_keep (writes 0 (codes "t") (codes "a") (Some (row (codes "3")))) store third_store
    makes_third kept.0 kept.1

-- ---- and back

last_undo : older (third_pages (slot_of (third_pages 1) 0).last.page) (slot_of (third_pages 1) 0).last
    ≡ Some third_undo
unfolding number field holds_undo
last_undo = refl

undo : IsUndoStep (with_row items root third_item) third_pages 3 0 root (replaces second_item)
    third_undo
undo = record {
  last = last_undo;
  spelt = (second_spelt, refl);
  changes =
      leaf_changes (with_row items root third_item) third_pages 3 second_item
      (put_item (codes "a") (leaf_bytes second_item) (with_row items root third_item root)) refl refl
      back_page refl;
  pointed =
      pointed (third_pages 1) (record { kind = refl; number = refl })
      (long_after (pages 1).body (pointer_bytes (place 3)) long_slots (length-pointer (place 3)))
      (place 2) (omega arith) (omega arith);
}

back : Holds (with_back (with_row items root third_item) third_undo) back_pages back_store
back =
    (undo_step_is_undone (with_row items root third_item) third_pages third_store 3 0 2 root
    (replaces second_item) third_undo (record { root = root; key = codes "a" }) (store.undo 0) holds
    kept_third.0 kept_third.1 refl refl (inr (codes "t", refl)) undo).0

pub example_runs : ExampleRuns
example_runs = record {
  change = change;
  holds = holds;
  three = refl;
  undo = undo;
  back = back;
  two = refl;
}
