-- For the proofs: pages hold the created store after a table is made.
use Rattle.std.proofs.Common.{◌≡◌, ◌≢◌, ◌≤◌, ◌<◌, ◌+◌, ℕ, zero, suc, Bool, true, false, cond, List, [], ◌∷◌, Option, Some, None, ◌⊎◌, inl, inr, refl, sym, ap, subst, ◌∙◌, arith}
use Rattle.std.specs.Prelude.{Contains, nat_eq}
use Rattle.std.specs.List.{IsDistinct}
use Rattle.page_image.specs.declared.kind.Kind.TheVariants.{Leaf}
use Rattle.page_image.specs.Image.{Image, is_slotted, made, unmade}
use Rattle.page_view.specs.declared.leaf.LeafItem.{LeafItem}
use Rattle.page_view.specs.Leaf.{leaf_bytes}
use Rattle.redo_record.specs.declared.redo.Record.{Record}
use Rattle.redo_record.specs.declared.redo.Record.TheVariants.{Make}
use Rattle.redo_record.specs.Effect.{after_records}
use Rattle.redo_record.proofs.Fold.{after_records-page}
use Rattle.bplus_tree.specs.Tree.{IsLeafPage, Linked, Tree, is_leaf}
use Rattle.bplus_tree.proofs.Order.{all_map}
use Rattle.page_image.specs.Meta.{counters_of}
use Rattle.sql_database.specs.Catalog.{schema_of}
use Rattle.undo_versions.specs.declared.appending.UndoStep.{UndoStep}
use Rattle.undo_versions.specs.declared.items.UndoItem.{UndoItem}
use Rattle.version_store.specs.Contents.{newest_root}
use Rattle.version_store.specs.Held.{Held, count, none_of}
use Rattle.version_store.specs.Rooted.{Rooted}
use Rattle.version_store.specs.Stores.{Store, catalog, created, naming}
use Rattle.version_store.specs.Versions.{Row, Version}
use Rattle.version_store.proofs.Places.{either_name, put_row_apart, put_row_here}
use Rattle.held_versions.specs.Holds.{Holds}
use Rattle.held_versions.specs.Keeping.{grown, is_of_tree}
use Rattle.held_versions.specs.Tables.{SaysRow, SaysTable}
use Rattle.held_versions.specs.Trees.{IsRoot}
use Rattle.held_versions.specs.Versions.{VersionsAt, of_key}
use Rattle.held_versions.proofs.Parts.{put_elsewhere}
use Rattle.held_versions.proofs.Putting.{holds_named}
use Rattle.held_versions.proofs.Standing.{SameAt, all_of_tree, kept_tree, node_of_tree}
use Rattle.tree_timeline.specs.Types.{Items, Pages}
use Rattle.plan_steps.specs.Counting.{counts_pages}
use Rattle.plan_steps.specs.Creates.{CountsRoot, CreateIsCreated, IsCreate, counts_root, create_records, next_page}
use Rattle.plan_steps.specs.KeyItems.{put_item}
use Rattle.plan_steps.specs.Parts.{Restands, TouchOnly, pages_with, with_made}
use Rattle.plan_steps.specs.RowChanges.{with_row}
use Rattle.plan_steps.proofs.CountLaws.{counts_alone}
use Rattle.plan_steps.proofs.KeyLaws.{row_keeps}
use Rattle.plan_steps.proofs.Records.{Group, early, group_early, one_touches, passes, step_own, touch_as}
use Rattle.plan_steps.proofs.Sites.{Sites, made_below, slotted_tree}
use Rattle.plan_steps.proofs.Lists.{none_counted}
use Rattle.plan_steps.proofs.Trees.{Again, Was, tree_again, trees_by}
use Rattle.plan_steps.proofs.Placing.{MetaAfter, Placed, counted_alone, meta_counted, placed}
use Rattle.plan_steps.proofs.Pushing.{Pushed, Pushing, group_of, pushed_all, sites_of}

-- ---- an empty leaf is a tree

alone : (page : ℕ) → IsDistinct nat_eq (page ∷ [])
unfolding IsDistinct
alone page = (tt, tt)

only_member : (page q : ℕ) → Contains (page ∷ []) q → q ≡ page
only_member page q (zero, l, e) = sym e
only_member page q (suc k, l, e) = absurd (omega (arith, l))

linked_alone : (pages : Pages) (page : ℕ) (b : Bool) → (pages page).next ≡ 0
    → Linked pages (cond b (page ∷ []) [])
linked_alone pages page true e = e
linked_alone pages page false e = tt

empty_leaf : (page lsn : ℕ) → IsLeafPage (made (unmade page) Leaf 0 lsn) page None None []
empty_leaf page lsn = record {
  kind = refl;
  number = refl;
  has = refl;
  each = tt;
  ascend = λ i j less within. absurd (omega (arith, less, within));
  from = tt;
  below = tt;
}

abbrev empty_tree : (pages : Pages) (page lsn : ℕ) → pages page ≡ made (unmade page) Leaf 0 lsn
    → Tree pages page []
empty_tree pages page lsn e = record {
  level = 0;
  nodes = page ∷ [];
  low_enough = omega arith;
  stands = (subst (λ (im : Image). IsLeafPage im page None None []) (sym e) (empty_leaf page lsn), refl);
  linked = linked_alone pages page (is_leaf (pages page).kind) (ap (λ (im : Image). im.next) e);
  apart = alone page;
}

head_is : (a b : Version) (as_ bs : List Version) → a ∷ as_ ≡ b ∷ bs → a ≡ b
head_is a b as_ bs q = cc

-- ---- a table is made

module _ (items : ℕ → Items) (pages : Pages) (S : Store) (lsn s t leaf root : ℕ)
    (on_leaf : List Record) (item : LeafItem) (undo : UndoItem) (step : UndoStep) (row : Row)
    (h : Holds items pages S) (held : Held S) (rooted : Rooted S) (slot : S.slot s ≡ Some t)
    (none : S.rows catalog item.key ≡ [])
    (is : IsCreate items pages lsn s t leaf root on_leaf item undo step)
    (says : SaysTable item (naming (with_made S step.made) t (Some row))) where
  p : Placed pages S step
  p = placed items pages S h s undo step is.appends

  next_is : (o : Option ℕ) → next_page (pages 0) o ≡ pages_with S o
  next_is None = sym h.counters.pages_are
  next_is (Some page) = refl

  root_is : root ≡ pages_with S step.made
  root_is = is.root_is ∙ next_is step.made

  -- the root comes behind all pages, and behind the undo page
  behind : (S.pages ≤ root) × (step.at.page < root)
  behind = by_case p.case
    where
      by_case : ((step.made ≡ None) × (step.at.page ≡ (counters_of (pages 0)).undo_page))
          ⊎ ((step.made ≡ Some S.pages) × (step.at.page ≡ S.pages))
          → (S.pages ≤ root) × (step.at.page < root)
      by_case (inl (m, e)) =
          let r : root ≡ S.pages = root_is ∙ ap (pages_with S) m in
          let below = made_below items pages S h (counters_of (pages 0)).undo_page
          (ap is_slotted h.counters.undo_made) in
          (omega (arith, r), omega (arith, r, e, below))
      by_case (inr (m, e)) =
          let r : root ≡ S.pages + 1 = root_is ∙ ap (pages_with S) m in
          (omega (arith, r), omega (arith, r, e))

  abbrev T : Store
  T = created (with_made S step.made) s t item.key (Some row)

  abbrev on_meta : List Record
  on_meta = counts_root (pages 0) root step.made

  pages_are : root + 1 ≡ T.pages
  pages_are = let r = root_is in omega (arith, r)

  meta_touch : TouchOnly 0 on_meta
  meta_touch = by_case step.made is.counts
    where
      by_case : (o : Option ℕ) → CountsRoot (pages 0) root o
          → TouchOnly 0 (counts_root (pages 0) root o)
      by_case None c =
          touch_as (pages 0).page 0 (counts_root (pages 0) root None) h.counters.meta.number
          (one_touches (counts_pages (pages 0) (root + 1)))
      by_case (Some page) c =
          touch_as (pages 0).page 0 (counts_root (pages 0) root (Some page))
          h.counters.meta.number c.runs.only

  abbrev Counted : Option ℕ → Type 0
  Counted o =
      MetaAfter (pages 0) (after_records lsn (counts_root (pages 0) root o) (pages 0)) (root + 1)
      step.at.page

  meta : Counted step.made
  meta = by_case p.case
    where
      by_case : ((step.made ≡ None) × (step.at.page ≡ (counters_of (pages 0)).undo_page))
          ⊎ ((step.made ≡ Some S.pages) × (step.at.page ≡ S.pages)) → Counted step.made
      by_case (inl (m, e)) =
          let rules : CountsRoot (pages 0) root None = subst (CountsRoot (pages 0) root) m is.counts in
          let im : Image = after_records lsn (counts_root (pages 0) root None) (pages 0) in
          subst Counted (sym m)
          (subst (MetaAfter (pages 0) im (root + 1)) (sym e)
          (counted_alone (pages 0) im (root + 1)
          (counts_alone (pages 0) (root + 1) lsn h.counters.meta rules is.room)))
      by_case (inr (m, e)) =
          let c : CountsRoot (pages 0) root (Some S.pages) =
          subst (CountsRoot (pages 0) root) m is.counts in
          let im : Image = after_records lsn (counts_root (pages 0) root (Some S.pages)) (pages 0) in
          subst Counted (sym m)
          (subst (MetaAfter (pages 0) im (root + 1)) (sym e)
          (meta_counted (pages 0) im (root + 1) S.pages h.counters.meta (c.counts lsn)))

  abbrev on_root : List Record
  on_root = Make root Leaf 0 ∷ []

  pushing : Pushing items pages S T lsn s t catalog leaf root on_leaf on_root on_meta item undo step
  pushing = record {
    slot = slot;
    named = inl refl;
    changes = is.changes;
    spelt = is.spelt;
    wrote = is.wrote;
    points_to = is.points_to;
    keeps_old = is.keeps_old;
    appends = is.appends;
    other_is = inr behind.0;
    other_below = inr (let e = pages_are in omega (arith, e));
    other_only = one_touches (Make root Leaf 0);
    undo_other = λ _ e. (let b = behind in omega (arith, e, b.1));
    meta_only = meta_touch;
    meta =
        subst
        (λ (n : ℕ). MetaAfter (pages 0) (after_records lsn on_meta (pages 0)) n step.at.page)
        pages_are meta;
    more = (let e = pages_are in let b = behind in omega (arith, e, b.0));
    most = (let e = pages_are in let room = is.room in omega (arith, e, room));
    undo_below = (let e = pages_are in let b = behind in omega (arith, e, b.1));
    beside = λ u v ne e.
        none_counted v (count catalog item.key (S.undo u)) (S.rows catalog item.key)
        (held.undoes u v catalog item.key e) (ap (none_of v) none);
    next_same = refl;
    last_same = refl;
    stamp_same = refl;
    slot_same = refl;
    undo_more = refl;
  }

  abbrev now : Pages
  now = grown lsn (create_records pages s on_leaf root step) pages

  abbrev others : ℕ → Items
  others = with_row items catalog item

  abbrev g : Group
  g = group_of items pages S T lsn s t catalog leaf root on_leaf on_root on_meta item undo step h
      held pushing

  w : Sites items pages S h g
  w = sites_of items pages S T lsn s t catalog leaf root on_leaf on_root on_meta item undo step h
      held pushing

  out : Pushed items others pages now S T t catalog item
  out = pushed_all items pages S T lsn s t catalog leaf root on_leaf on_root on_meta item undo step h
      held pushing

  -- ---- the trees

  -- the root's page is none of the old pages
  old_apart : (q : ℕ) → is_of_tree (pages q).kind ≡ true → q ≢ root
  old_apart q k e =
      let below = made_below items pages S h q (slotted_tree (pages q).kind k) in
      let b = behind in omega (arith, e, below, b.0)

  leaf_apart : root ≢ leaf
  leaf_apart e =
      old_apart leaf
      (node_of_tree pages catalog (items catalog) (h.trees.trees catalog (inl refl)) leaf
      (is.changes.node (h.trees.trees catalog (inl refl)))) (sym e)

  root_early : early lsn g pages root ≡ made (unmade root) Leaf 0 lsn
  root_early =
      ap (λ (im : Image). after_records lsn on_root im)
      (passes leaf root lsn on_leaf (pages root) is.changes.only (h.counters.numbered root) leaf_apart
      ∙ h.counters.free root behind.0)
      ∙ step_own (Make root Leaf 0) lsn (unmade root) refl

  root_page : now root ≡ made (unmade root) Leaf 0 lsn
  root_page =
      group_early pages h.counters.numbered lsn g root
      (λ e. (let b = behind in omega (arith, e, b.1)))
      (λ e. (let b = behind in let few = h.counters.low in omega (arith, e, b.0, few)))
      (λ e. (let b = behind in let few = h.counters.low in omega (arith, e, b.0, few)))
      ∙ root_early

  stands : Restands pages (early lsn g pages) catalog (items catalog)
      (put_item item.key (leaf_bytes item) (items catalog))
  stands tree =
      let s = is.changes.stands tree in
      let same : SameAt (grown lsn on_leaf pages) (early lsn g pages) s.0.nodes =
      subst (SameAt (grown lsn on_leaf pages) (early lsn g pages)) (sym s.1)
      (all_map (λ q. is_of_tree (pages q).kind ≡ true)
      (λ q. early lsn g pages q ≡ grown lsn on_leaf pages q) tree.nodes
      (λ q k.
      passes root q lsn on_root (grown lsn on_leaf pages q) (one_touches (Make root Leaf 0))
      (after_records-page lsn on_leaf (pages q) ∙ h.counters.numbered q) (old_apart q k))
      (all_of_tree pages catalog (items catalog) tree)) in (
        kept_tree (grown lsn on_leaf pages) (early lsn g pages) catalog
            (put_item item.key (leaf_bytes item) (items catalog)) s.0 same,
        s.1,
      )

  not_catalog : root ≢ catalog
  not_catalog e = let low = rooted.low in let b = behind in omega (arith, e, low, b.0)

  no_items : others root ≡ []
  no_items =
      put_elsewhere items catalog (put_item item.key (leaf_bytes item) (items catalog)) root not_catalog
      ∙ is.unused

  abbrev Stands : ℕ → Type 0
  Stands = Again items others pages now S T h root

  own : Stands root
  own =
      subst
      (λ (its : Items). (tree : Tree now root its) × ((q : ℕ) → Contains tree.nodes q
      → Was items others pages now S T h root root q ⊎ ((root ≡ root) × (S.pages ≤ q))))
      (sym no_items)
      (empty_tree now root lsn root_page, λ q c. inr (refl, past q (only_member root q c)))
    where
      past : (q : ℕ) → q ≡ root → S.pages ≤ q
      past q e = let b = behind in omega (arith, e, b.0)

  roots : (r : ℕ) → IsRoot T r → (r ≡ root) ⊎ IsRoot S r
  roots r (inl e) = inr (inl e)
  roots r (inr (a, e)) = by_name (either_name a item.key)
    where
      by_name : (a ≡ item.key) ⊎ (a ≡ item.key → ⊥) → (r ≡ root) ⊎ IsRoot S r
      by_name (inl same) =
          let new : Some (pages_with S step.made) ≡ Some r =
          ap newest_root (sym (ap (λ (k : List ℕ). T.rows catalog k) same
          ∙ put_row_here S.rows catalog item.key
          (naming (with_made S step.made) t (Some row) ∷ S.rows catalog item.key))) ∙ e in
          let is_r : pages_with S step.made ≡ r = cc in
          inl (sym is_r ∙ sym root_is)
      by_name (inr ne) =
          inr (inr (
            a,
            ap newest_root (sym (put_row_apart S.rows catalog item.key
                (naming (with_made S step.made) t (Some row) ∷ S.rows catalog item.key) catalog a
                (λ _ f. ne f))) ∙ e,
          ))

  again : (r : ℕ) → IsRoot T r → Stands r
  again r a = by_root (roots r a)
    where
      by_root : (r ≡ root) ⊎ IsRoot S r → Stands r
      by_root (inl e) = subst Stands (sym e) own
      by_root (inr b) =
          let x = tree_again items pages S h lsn g w catalog (inl refl)
          (put_item item.key (leaf_bytes item) (items catalog)) is.changes.node stands r b in
          (x.0, λ q c. inl (b, subst (λ (ns : List ℕ). Contains ns q) x.1 c))

  -- ---- the versions

  new_table : (v : Version) (def : Row)
      → naming (with_made S step.made) t (Some row) ∷ S.rows catalog item.key ≡ v ∷ []
      → v.row ≡ Some def
      → (v.root ≢ catalog)
      × ((j : List ℕ)
      → VersionsAt (SaysRow (schema_of def)) now (of_key j (others v.root)) (S.rows v.root j))
  new_table v def e is_def =
      let first = head_is (naming (with_made S step.made) t (Some row)) v (S.rows catalog item.key) [] e in
      let at : root ≡ v.root = root_is ∙ ap (λ (x : Version). x.root) first in
      subst
      (λ (r : ℕ). (r ≢ catalog)
      × ((j : List ℕ) → VersionsAt (SaysRow (schema_of def)) now (of_key j (others r)) (S.rows r j)))
      at (
        not_catalog,
        λ j.
            subst (λ (xs : Items). VersionsAt (SaysRow (schema_of def)) now (of_key j xs) (S.rows root j))
            (sym no_items) (rooted.empty root j behind.0),
      )

  other_tables : (a : List ℕ) (v : Version) → (a ≡ item.key → ⊥) → S.rows catalog a ≡ v ∷ []
      → (v.root ≢ catalog)
      × ((j : List ℕ) → of_key j (others v.root) ≡ of_key j (items v.root))
  other_tables a v ne one =
      let m = rooted.made a v.root (ap newest_root one) in
      let apart : v.root ≢ catalog = λ e. omega (arith, e, m.0) in
      (apart, λ j. row_keeps items catalog item v.root j (λ e _. apart e))

  table_created : Holds others now T
  table_created =
      holds_named items others pages now S T item.key
      (naming (with_made S step.made) t (Some row) ∷ S.rows catalog item.key) h out.keeps
      (λ j ne. row_keeps items catalog item catalog j (λ _ f. ne f)) refl
      (out.versions SaysTable (naming (with_made S step.made) t (Some row)) says refl
      (h.tables item.key))
      new_table other_tables out.counters out.stamps out.slots out.lists
      (trees_by items others pages now S T h root again)

pub create_is_created : CreateIsCreated
create_is_created items pages S lsn s t leaf root on_leaf item undo step row h held rooted slot
    none is says = (
      table_created items pages S lsn s t leaf root on_leaf item undo step row h held rooted slot none
          is says,
      (out items pages S lsn s t leaf root on_leaf item undo step row h held rooted slot none is
          says).grows,
    )
