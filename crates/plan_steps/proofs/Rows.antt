-- For the proofs: pages hold the changed store after a row's change.
use Rattle.std.proofs.Common.{◌≡◌, ◌≢◌, ◌≤◌, ◌<◌, ◌+◌, ℕ, List, [], ◌∷◌, Option, Some, None, ◌⊎◌, inl, inr, refl, sym, ap, subst, ◌∙◌, arith}
use Rattle.std.specs.Prelude.{Contains}
use Rattle.page_image.specs.Image.{is_slotted}
use Rattle.page_view.specs.declared.leaf.LeafItem.{LeafItem}
use Rattle.page_view.specs.Leaf.{leaf_bytes}
use Rattle.redo_record.specs.declared.redo.Record.{Record}
use Rattle.redo_record.specs.Effect.{after_records}
use Rattle.page_image.specs.Meta.{counters_of}
use Rattle.sql_database.specs.Catalog.{schema_of}
use Rattle.undo_versions.specs.declared.appending.UndoStep.{UndoStep}
use Rattle.undo_versions.specs.declared.items.UndoItem.{UndoItem}
use Rattle.version_store.specs.Contents.{newest_root}
use Rattle.version_store.specs.Groups.{Writes}
use Rattle.version_store.specs.Held.{Held, count}
use Rattle.version_store.specs.Rooted.{Rooted}
use Rattle.version_store.specs.Stores.{Store, catalog, changed, written}
use Rattle.version_store.specs.Versions.{Row, Version}
use Rattle.version_store.proofs.Places.{put_row_apart}
use Rattle.held_versions.specs.Holds.{Holds}
use Rattle.held_versions.specs.Keeping.{grown}
use Rattle.held_versions.specs.Tables.{SaysRow}
use Rattle.held_versions.specs.Trees.{IsRoot}
use Rattle.held_versions.specs.Versions.{VersionsAt, of_key}
use Rattle.held_versions.proofs.Putting.{holds_put}
use Rattle.tree_timeline.specs.Types.{Items, Pages}
use Rattle.plan_steps.specs.KeyItems.{put_item}
use Rattle.plan_steps.specs.Parts.{CountsMade, TouchOnly, counts_made, pages_with, with_made}
use Rattle.plan_steps.specs.RowChanges.{IsRowChange, RowChangeIsChanged, SaysOf, change_records, with_row}
use Rattle.plan_steps.proofs.KeyLaws.{row_keeps}
use Rattle.plan_steps.proofs.Records.{none_touch, touch_as}
use Rattle.plan_steps.proofs.Sites.{made_below}
use Rattle.plan_steps.proofs.Pushing.{Pushed, Pushing, group_of, pushed_all, sites_of}
use Rattle.plan_steps.proofs.Lists.{none_counted}
use Rattle.plan_steps.proofs.Trees.{Again, tree_again, trees_by}
use Rattle.plan_steps.proofs.Placing.{MetaAfter, Placed, meta_counted, meta_same, placed}

-- ---- the meta page of a change

module _ (items : ℕ → Items) (pages : Pages) (S : Store) (h : Holds items pages S) (lsn : ℕ)
    (step : UndoStep) (p : Placed pages S step) (counts : CountsMade (pages 0) step.made) where
  pub made_touch : TouchOnly 0 (counts_made (pages 0) step.made)
  made_touch = by_case step.made counts
    where
      by_case : (o : Option ℕ) → CountsMade (pages 0) o → TouchOnly 0 (counts_made (pages 0) o)
      by_case None c = none_touch 0
      by_case (Some page) c = touch_as (pages 0).page 0 (counts_made (pages 0) (Some page)) h.counters.meta.number c.1.runs.only

  -- its counters, and that the page count is one that there can be
  abbrev Counted : Option ℕ → Type 0
  Counted o =
      MetaAfter (pages 0) (after_records lsn (counts_made (pages 0) o) (pages 0)) (pages_with S o)
      step.at.page
      × (S.pages ≤ pages_with S o) × (pages_with S o ≤ 32768)
      × (step.at.page < pages_with S o)

  pub meta_made : Counted step.made
  meta_made = by_case p.case
    where
      fits : MetaAfter (pages 0) (pages 0) (counters_of (pages 0)).pages
          (counters_of (pages 0)).undo_page
      fits = meta_same (pages 0) h.counters.meta

      by_case : ((step.made ≡ None) × (step.at.page ≡ (counters_of (pages 0)).undo_page))
          ⊎ ((step.made ≡ Some S.pages) × (step.at.page ≡ S.pages)) → Counted step.made
      by_case (inl (m, e)) =
          let below = made_below items pages S h (counters_of (pages 0)).undo_page
          (ap is_slotted h.counters.undo_made) in
          let most = h.counters.high in
          subst Counted (sym m) (
            subst (λ (q : ℕ). MetaAfter (pages 0) (pages 0) S.pages q) (sym e)
                (subst (λ (q : ℕ). MetaAfter (pages 0) (pages 0) q (counters_of (pages 0)).undo_page)
                (sym h.counters.pages_are) fits),
            omega arith,
            most,
            omega (arith, e, below),
          )
      by_case (inr (m, e)) =
          let c : CountsMade (pages 0) (Some S.pages) = subst (CountsMade (pages 0)) m counts in
          let few = c.0 in
          subst Counted (sym m) (
            subst
                (λ (q : ℕ). MetaAfter (pages 0)
                (after_records lsn (counts_made (pages 0) (Some S.pages)) (pages 0)) (S.pages + 1) q)
                (sym e)
                (meta_counted (pages 0)
                (after_records lsn (counts_made (pages 0) (Some S.pages)) (pages 0)) (S.pages + 1) S.pages
                h.counters.meta (c.1.counts lsn)),
            omega arith,
            few,
            omega (arith, e),
          )

-- ---- a row's change

module _ (items : ℕ → Items) (pages : Pages) (S : Store) (lsn s t root leaf : ℕ)
    (on_leaf : List Record) (item : LeafItem) (undo : UndoItem) (step : UndoStep) (name : List ℕ)
    (row : Option Row) (h : Holds items pages S) (held : Held S) (rooted : Rooted S)
    (writes : Writes S s t root name item.key)
    (is : IsRowChange items pages lsn s t root leaf on_leaf item undo step)
    (says : SaysOf S name item (written t row)) where
  p : Placed pages S step
  p = placed items pages S h s undo step is.appends

  abbrev T : Store
  T = changed (with_made S step.made) s t root item.key row

  meta : Counted items pages S h lsn step p is.counts step.made
  meta = meta_made items pages S h lsn step p is.counts

  pushing : Pushing items pages S T lsn s t root leaf leaf on_leaf []
      (counts_made (pages 0) step.made) item undo step
  pushing = record {
    slot = writes.slot;
    named = inr (name, writes.root);
    changes = is.changes;
    spelt = is.spelt;
    wrote = is.wrote;
    points_to = is.points_to;
    keeps_old = is.keeps_old;
    appends = is.appends;
    other_is = inl refl;
    other_below = inl refl;
    other_only = none_touch leaf;
    undo_other = λ ne. ne;
    meta_only = made_touch items pages S h lsn step p is.counts;
    meta = meta.0;
    more = meta.1;
    most = meta.2;
    undo_below = meta.3;
    beside = λ u v ne e.
        none_counted v (count root item.key (S.undo u)) (S.rows root item.key)
        (held.undoes u v root item.key e) (writes.alone u v ne e);
    next_same = refl;
    last_same = refl;
    stamp_same = refl;
    slot_same = refl;
    undo_more = refl;
  }

  abbrev now : Pages
  now = grown lsn (change_records pages s on_leaf step) pages

  abbrev others : ℕ → Items
  others = with_row items root item

  out : Pushed items others pages now S T t root item
  out =
      pushed_all items pages S T lsn s t root leaf leaf on_leaf []
      (counts_made (pages 0) step.made) item undo step h held pushing

  not_catalog : root ≢ catalog
  not_catalog e = let m = rooted.made name root writes.root in omega (arith, m.0, e)

  same_names : (a : List ℕ) → T.rows catalog a ≡ S.rows catalog a
  same_names a =
      put_row_apart S.rows root item.key (written t row ∷ S.rows root item.key) catalog a
      (λ e _. not_catalog (sym e))

  back : (r : ℕ) → IsRoot T r → IsRoot S r
  back r (inl e) = inl e
  back r (inr (a, e)) = inr (a, ap newest_root (sym (same_names a)) ∙ e)

  again : (r : ℕ) → IsRoot T r → Again items others pages now S T h root r
  again r a =
      let x = tree_again items pages S h lsn
      (group_of items pages S T lsn s t root leaf leaf on_leaf []
      (counts_made (pages 0) step.made) item undo step h held pushing)
      (sites_of items pages S T lsn s t root leaf leaf on_leaf []
      (counts_made (pages 0) step.made) item undo step h held pushing)
      root (inr (name, writes.root)) (put_item item.key (leaf_bytes item) (items root))
      is.changes.node is.changes.stands r (back r a) in
      (x.0, λ q c. inl (back r a, subst (λ (ns : List ℕ). Contains ns q) x.1 c))

  -- the name of the root
  is_name : (a : List ℕ) (v : Version) → S.rows catalog a ≡ v ∷ [] → v.root ≡ root → a ≡ name
  is_name a v one e =
      rooted.differ a name root (ap newest_root one ∙ ap (λ (r : ℕ). Some r) e) writes.root

  versions : (a : List ℕ) (v : Version) (def : Row) → S.rows catalog a ≡ v ∷ []
      → v.row ≡ Some def → v.root ≡ root
      → VersionsAt (SaysRow (schema_of def)) now (of_key item.key (others root))
      (written t row ∷ S.rows root item.key)
  versions a v def one is_def e =
      out.versions (SaysRow (schema_of def)) (written t row)
      (says v def (ap (S.rows catalog) (sym (is_name a v one e)) ∙ one) is_def) refl
      (subst
      (λ (r : ℕ). VersionsAt (SaysRow (schema_of def)) pages (of_key item.key (items r))
      (S.rows r item.key)) e (h.rows a item.key v def one is_def))

  row_changed : Holds others now T
  row_changed =
      holds_put items others pages now S T root item.key (written t row ∷ S.rows root item.key) h
      out.keeps (row_keeps items root item) refl not_catalog versions out.counters out.stamps
      out.slots out.lists (trees_by items others pages now S T h root again)

pub row_is_changed : RowChangeIsChanged
row_is_changed items pages S lsn s t root leaf on_leaf item undo step name row h held rooted
    writes is says = (
      row_changed items pages S lsn s t root leaf on_leaf item undo step name row h held rooted writes
          is says,
      (out items pages S lsn s t root leaf on_leaf item undo step name row h held rooted writes is
          says).grows,
    )
