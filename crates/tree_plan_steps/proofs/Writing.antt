-- For the proofs: the group that writes a row follows the event of history.
use Rattle.std.proofs.Common.{◌≡◌, ◌≤◌, ◌<◌, ◌+◌, ℕ, Bool, true, false, List, length, Option, Some, None, ◌⊎◌, inl, inr, refl, sym, ap, subst, ◌∙◌, arith}
use Rattle.std.proofs.lemmas.Bool.{cases_lt, leb-false}
use Rattle.rm_base.specs.declared.limits.TheConstants.{MAX_PAGES}
use Rattle.page_image.specs.Image.{Image, free_of}
use Rattle.page_image.specs.Meta.{counters_of, page_count}
use Rattle.page_view.specs.declared.leaf.LeafItem.{LeafItem}
use Rattle.redo_record.specs.declared.plans.Plan.{Plan}
use Rattle.tree_change.specs.Places.{leaf_on}
use Rattle.undo_versions.specs.declared.appending.UndoStep.{UndoStep}
use Rattle.undo_versions.specs.declared.items.UndoItem.{UndoItem}
use Rattle.undo_versions.specs.Appending.{bytes_of, fits_bytes, step_by}
use Rattle.sql_database.specs.declared.changes.Change.{Change}
use Rattle.table_machine.specs.Language.{Language}
use Rattle.version_store.specs.Contents.{Content}
use Rattle.version_store.specs.Groups as group
use Rattle.version_store.specs.Groups.{Writes}
use Rattle.version_store.specs.Held.{Held}
use Rattle.version_store.specs.Rooted.{Rooted}
use Rattle.version_store.specs.Stores.{Store, changed, split, written}
use Rattle.version_store.proofs.GroupLaws.{groups_keep}
use Rattle.history.specs.Clusters.{Cluster, now}
use Rattle.history.specs.Events as event
use Rattle.history.specs.Events.{Happens, installs}
use Rattle.history.specs.Invariant.{Refines}
use Rattle.history.proofs.Installs.{may_write}
use Rattle.held_versions.specs.Holds.{Holds}
use Rattle.held_versions.specs.Keeping.{grown}
use Rattle.held_versions.specs.Trees.{IsRoot}
use Rattle.tree_timeline.specs.Types.{Items, Pages}
use Rattle.plan_steps.specs.Entries.{EntriesRooted}
use Rattle.plan_steps.specs.Growth.{UndoGrows}
use Rattle.plan_steps.specs.Parts.{AppendsUndo, ChangesLeaf, CountsMade, pages_with, undo_in_use, with_made}
use Rattle.plan_steps.specs.RowChanges.{SaysOf, change_records, with_row}
use Rattle.plan_steps.specs.KeyItems.{put_item}
use Rattle.plan_steps.proofs.Entries.{entries_stay_rooted, none_stay_behind}
use Rattle.plan_steps.proofs.Placing.{Placed, placed}
use Rattle.plan_steps.proofs.Rows.{row_is_changed}
use Rattle.page_view.specs.Leaf.{leaf_bytes}
use Rattle.tree_plan_steps.specs.EventLaws.{WriteFollows}
use Rattle.tree_plan_steps.specs.Following.{Follows, MayWrite, Stands}
use Rattle.tree_plan_steps.specs.Planned.{KeepsUndoItem, UsesMade, WritesVersion}
use Rattle.tree_plan_steps.proofs.Following.{follows, held, rooted}
use Rattle.tree_plan_steps.proofs.Keys.{puts_in_one}
use Rattle.tree_plan_steps.proofs.Leaves.{put_changes_leaf}

-- the root of a tree is a page that is made
pub root_below : (items : ℕ → Items) (pages : Pages) (S : Store) → Holds items pages S → Rooted S
    → (r : ℕ) → IsRoot S r → r < S.pages
root_below items pages S h g r (inl e) = let low = h.counters.low in omega (arith, e, low)
root_below items pages S h g r (inr named) = (g.made named.0 r named.1).1

-- ---- a page that is made for the undo item

module _ (items : ℕ → Items) (pages : Pages) (S : Store) (h : Holds items pages S) (s : ℕ)
    (undo : UndoItem) (step : UndoStep) (keeps : KeepsUndoItem pages s undo step) where
  pub appended : AppendsUndo pages s undo step
  appended = record { step_is = keeps.step_is; appends = keeps.appends; pointed = keeps.pointed }

  place : Placed pages S step
  place = placed items pages S h s undo step appended

  pub more_pages : S.pages ≤ pages_with S step.made
  more_pages = by_case place.case
    where
      by_case : ((step.made ≡ None) × (step.at.page ≡ (counters_of (pages 0)).undo_page))
          ⊎ ((step.made ≡ Some S.pages) × (step.at.page ≡ S.pages))
          → S.pages ≤ pages_with S step.made
      by_case (inl (m, _)) = subst (λ (o : Option ℕ). S.pages ≤ pages_with S o) (sym m) (omega arith)
      by_case (inr (m, _)) = subst (λ (o : Option ℕ). S.pages ≤ pages_with S o) (sym m) (omega arith)

  -- a page is made only where the item does not fit, and then there is space
  within : (page : ℕ) → step.made ≡ Some page → page + 1 ≤ MAX_PAGES
  within page made =
      by_fit (fits_bytes (undo_in_use pages) (bytes_of undo)) refl
    where
      by_fit : (b : Bool) → fits_bytes (undo_in_use pages) (bytes_of undo) ≡ b → page + 1 ≤ MAX_PAGES
      by_fit true fits =
          let none : step.made ≡ None =
          ap (λ (x : UndoStep). x.made) keeps.step_is
          ∙ ap (λ (b : Bool). (step_by b (pages 0) (undo_in_use pages) (bytes_of undo)).made) fits in
          absurd (let f : None ≡ Some page = sym none ∙ made in cc)
      by_fit false fits =
          let some : step.made ≡ Some (page_count (pages 0)) =
          ap (λ (x : UndoStep). x.made) keeps.step_is
          ∙ ap (λ (b : Bool). (step_by b (pages 0) (undo_in_use pages) (bytes_of undo)).made) fits in
          let same : page_count (pages 0) ≡ page =
          (let f : Some (page_count (pages 0)) ≡ Some page = sym some ∙ made in cc) in
          let needs : free_of (undo_in_use pages) < length (bytes_of undo) + 2 =
          leb-false (length (bytes_of undo) + 2) (free_of (undo_in_use pages)) fits in
          by_space same needs (cases_lt (page_count (pages 0)) MAX_PAGES)
        where
          by_space : page_count (pages 0) ≡ page
              → free_of (undo_in_use pages) < length (bytes_of undo) + 2
              → (page_count (pages 0) < MAX_PAGES) ⊎ (MAX_PAGES ≤ page_count (pages 0))
              → page + 1 ≤ MAX_PAGES
          by_space same needs (inr full) = absurd (keeps.space (needs, full))
          by_space same needs (inl below) = omega (arith, same, below)

  counts_of : UsesMade pages step → (o : Option ℕ) → step.made ≡ o → CountsMade (pages 0) o
  counts_of uses None e = tt
  counts_of uses (Some page) e = (within page e, uses page e)

  pub counts_made : UsesMade pages step → CountsMade (pages 0) step.made
  counts_made uses = counts_of uses step.made refl

-- ---- a version that is written

pub leaf_changed : (items : ℕ → Items) (pages : Pages) (lsn s t root : ℕ) (item : LeafItem)
    (undo : UndoItem) (path : List Image) (plan : Plan) (step : UndoStep)
    → WritesVersion items pages s t root item undo path plan step
    → ChangesLeaf items pages lsn root (leaf_on path).page
    (put_item item.key (leaf_bytes item) (items root)) plan.records
leaf_changed items pages lsn s t root item undo path plan step w =
    put_changes_leaf items pages lsn root (leaf_on path).page item path plan w.path_is
    (puts_in_one path item plan w.puts) w.puts.carries

module _ {language : Language} (was : Content) (c : Cluster) (items : ℕ → Items) (pages : Pages)
    (lsn s n root : ℕ) (h : Change) (item : LeafItem) (undo : UndoItem) (path : List Image)
    (plan : Plan) (step : UndoStep) (g : Refines language was c) (st : Stands items pages (now c))
    (may : MayWrite c s n root h) (key_is : item.key ≡ h.key)
    (says : SaysOf (now c) h.table item (written n h.row))
    (w : WritesVersion items pages s n root item undo path plan step) (uses : UsesMade pages step)
  where
    abbrev S : Store
    S = now c

    abbrev p : ℕ
    p = pages_with S step.made

    abbrev T : Store
    T = changed (split S p) s n root h.key h.row

    abbrev new : Pages
    new = grown lsn (change_records pages s plan.records step) pages

    le : S.pages ≤ p
    le = more_pages items pages S st.holds s undo step w.keeps

    writes : Writes S s n root h.table h.key
    writes = may_write was c s n root may.transaction h may.others g may.may may.is_row may.sees

    stands_on : Holds (with_row items root item) new T × UndoGrows pages new
    stands_on =
        subst
        (λ (k : List ℕ). Holds (with_row items root item) new (changed (with_made S step.made) s n root k h.row)
        × UndoGrows pages new) key_is
        (row_is_changed items pages S lsn s n root (leaf_on path).page plan.records item undo step h.table
        h.row st.holds (held was c g) (rooted was c g)
        (subst (λ (k : List ℕ). Writes S s n root h.table k) (sym key_is) writes)
        (record {
          changes = leaf_changed items pages lsn s n root item undo path plan step w;
          spelt = w.spelt;
          wrote = w.wrote;
          points_to = w.points_to;
          keeps_old = w.keeps_old;
          appends = appended items pages S st.holds s undo step w.keeps;
          counts = counts_made items pages S st.holds s undo step w.keeps uses;
        }) says)

    made_keeps : Held (split S p) × Rooted (split S p)
    made_keeps = groups_keep (group.splits p) S (split S p) (le, refl) (held was c g) (rooted was c g)

    entries : EntriesRooted T
    entries =
        entries_stay_rooted.keep (group.writes s h.table h.key h.row) (split S p) T (
          n,
          root,
          record { slot = writes.slot; root = writes.root; sees = writes.sees; alone = writes.alone },
          may.is_row,
          refl,
        ) made_keeps.0 made_keeps.1
        (entries_stay_rooted.keep (group.splits p) S (split S p) (le, refl) (held was c g)
        (rooted was c g) st.entries)

    write_by : Follows language (event.writes s p) c (with_row items root item) pages new
    write_by =
        follows language (event.writes s p) c (with_row items root item) pages new T s
        (installs (c.work s) h may.others) c.machine
        (may.transaction, n, h, may.others, may.may, may.is_row, le, (root, may.sees, refl))
        (record {
          holds = stands_on.0;
          entries = entries;
          behind = none_stay_behind items S T root (put_item item.key (leaf_bytes item) (items root))
              (root_below items pages S st.holds (rooted was c g) root (inr (h.table, writes.root))) le
              st.behind;
        }) stands_on.1

pub write_follows : (language : Language) → WriteFollows language
write_follows language was c items pages lsn s n root h item undo path plan step g st may key_is
    says w uses =
    write_by was c items pages lsn s n root h item undo path plan step g st may key_is says w uses
