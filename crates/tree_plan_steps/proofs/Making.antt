-- For the proofs: the group that makes a table follows the event of history.
use Rattle.std.proofs.Common.{◌≡◌, ◌≤◌, ◌+◌, ℕ, List, [], Option, Some, None, inl, refl, sym, ap, subst, ◌∙◌, arith}
use Rattle.rm_base.specs.declared.limits.TheConstants.{MAX_PAGES}
use Rattle.page_image.specs.Image.{Image}
use Rattle.page_image.specs.Meta.{page_count}
use Rattle.page_view.specs.declared.leaf.LeafItem.{LeafItem}
use Rattle.redo_record.specs.declared.plans.Plan.{Plan}
use Rattle.tree_change.specs.Places.{leaf_on}
use Rattle.undo_versions.specs.declared.appending.UndoStep.{UndoStep}
use Rattle.undo_versions.specs.declared.items.UndoItem.{UndoItem}
use Rattle.sql_database.specs.declared.changes.Change.{Change}
use Rattle.table_machine.specs.Language.{Language}
use Rattle.version_store.specs.Contents.{Content}
use Rattle.version_store.specs.Groups as group
use Rattle.version_store.specs.Groups.{Writes}
use Rattle.version_store.specs.Held.{Held}
use Rattle.version_store.specs.Rooted.{Rooted}
use Rattle.version_store.specs.Stores.{Store, catalog, created, naming, split}
use Rattle.version_store.specs.Versions.{Row}
use Rattle.version_store.proofs.GroupLaws.{groups_keep}
use Rattle.history.specs.Clusters.{Cluster, now}
use Rattle.history.specs.Events as event
use Rattle.history.specs.Events.{Happens, installs}
use Rattle.history.specs.Invariant.{Refines}
use Rattle.history.proofs.Installs.{may_create}
use Rattle.held_versions.specs.Holds.{Holds}
use Rattle.held_versions.specs.Keeping.{grown}
use Rattle.held_versions.specs.Tables.{SaysTable}
use Rattle.tree_timeline.specs.Types.{Items, Pages}
use Rattle.plan_steps.specs.Creates.{CountsRoot, create_records, next_page}
use Rattle.plan_steps.specs.Entries.{EntriesRooted}
use Rattle.plan_steps.specs.Growth.{UndoGrows}
use Rattle.plan_steps.specs.Parts.{pages_with, with_made}
use Rattle.plan_steps.specs.RowChanges.{with_row}
use Rattle.plan_steps.specs.KeyItems.{put_item}
use Rattle.plan_steps.proofs.Creates.{create_is_created}
use Rattle.plan_steps.proofs.Entries.{entries_stay_rooted, none_stay_behind}
use Rattle.page_view.specs.Leaf.{leaf_bytes}
use Rattle.tree_plan_steps.specs.EventLaws.{CreateFollows}
use Rattle.tree_plan_steps.specs.Following.{Follows, MayCreate, Stands}
use Rattle.tree_plan_steps.specs.Planned.{WritesVersion}
use Rattle.tree_plan_steps.proofs.Following.{follows, held, rooted}
use Rattle.tree_plan_steps.proofs.Writing.{appended, leaf_changed, more_pages, root_below}

module _ {language : Language} (was : Content) (c : Cluster) (items : ℕ → Items) (pages : Pages)
    (lsn s n root : ℕ) (h : Change) (item : LeafItem) (undo : UndoItem) (path : List Image)
    (plan : Plan) (step : UndoStep) (g : Refines language was c) (st : Stands items pages (now c))
    (may : MayCreate c s n h) (key_is : item.key ≡ h.key)
    (says : SaysTable item (naming (with_made (now c) step.made) n h.row))
    (w : WritesVersion items pages s n catalog item undo path plan step)
    (root_is : root ≡ next_page (pages 0) step.made) (room : root + 1 ≤ MAX_PAGES)
    (counts : CountsRoot (pages 0) root step.made) where
  abbrev S : Store
  S = now c

  abbrev p : ℕ
  p = pages_with S step.made

  abbrev T : Option Row → Store
  T row = created (split S p) s n h.key row

  abbrev new : Pages
  new = grown lsn (create_records pages s plan.records root step) pages

  pub le : S.pages ≤ p
  le = more_pages items pages S st.holds s undo step w.keeps

  pub makes : ((row : Row) × (h.row ≡ Some row)) × (S.rows catalog h.key ≡ [])
  makes = may_create was c s n may.transaction h may.others g may.may may.is_table

  root_past : S.pages ≤ root
  root_past = by_made step.made refl
    where
      by_made : (o : Option ℕ) → step.made ≡ o → S.pages ≤ root
      by_made None e =
          let same : root ≡ page_count (pages 0) = root_is ∙ ap (next_page (pages 0)) e in
          let count = st.holds.counters.pages_are in omega (arith, same, count)
      by_made (Some page) e =
          let same : root ≡ page + 1 = root_is ∙ ap (next_page (pages 0)) e in
          let more : S.pages ≤ page + 1 = subst (λ (o : Option ℕ). S.pages ≤ pages_with S o) e le in
          omega (arith, same, more)

  pub stands_on : Holds (with_row items catalog item) new (T (Some makes.0.0)) × UndoGrows pages new
  stands_on =
      subst
      (λ (k : List ℕ). Holds (with_row items catalog item) new
      (created (with_made S step.made) s n k (Some makes.0.0)) × UndoGrows pages new) key_is
      (create_is_created items pages S lsn s n (leaf_on path).page root plan.records item undo step
      makes.0.0 st.holds (held was c g) (rooted was c g) may.may.slot
      (subst (λ (k : List ℕ). S.rows catalog k ≡ []) (sym key_is) makes.1)
      (record {
        changes = leaf_changed items pages lsn s n catalog item undo path plan step w;
        spelt = w.spelt;
        wrote = w.wrote;
        points_to = w.points_to;
        keeps_old = w.keeps_old;
        appends = appended items pages S st.holds s undo step w.keeps;
        root_is = root_is;
        room = room;
        counts = counts;
        unused = st.behind root root_past;
      })
      (subst (λ (row : Option Row). SaysTable item (naming (with_made S step.made) n row)) makes.0.1 says))

  made_keeps : Held (split S p) × Rooted (split S p)
  made_keeps = groups_keep (group.splits p) S (split S p) (le, refl) (held was c g) (rooted was c g)

  pub entries : EntriesRooted (T (Some makes.0.0))
  entries =
      entries_stay_rooted.keep (group.creates s h.key makes.0.0) (split S p) (T (Some makes.0.0))
      (n, may.may.slot, makes.1, refl) made_keeps.0 made_keeps.1
      (entries_stay_rooted.keep (group.splits p) S (split S p) (le, refl) (held was c g)
      (rooted was c g) st.entries)

  abbrev create_by : Follows language (event.creates s p) c (with_row items catalog item) pages new
  create_by =
      follows language (event.creates s p) c (with_row items catalog item) pages new (T h.row) s
      (installs (c.work s) h may.others) c.machine
      (may.transaction, n, h, may.others, may.may, may.is_table, le, refl)
      (subst (λ (row : Option Row). Stands (with_row items catalog item) new (T row)) (sym makes.0.1)
      (record {
        holds = stands_on.0;
        entries = entries;
        behind = none_stay_behind items S (T (Some makes.0.0)) catalog
            (put_item item.key (leaf_bytes item) (items catalog))
            (root_below items pages S st.holds (rooted was c g) catalog (inl refl))
            (omega (arith, le)) st.behind;
      })) stands_on.1

abbrev pub create_follows : (language : Language) → CreateFollows language
create_follows language was c items pages lsn s n root h item undo path plan step g st may key_is
    says w root_is room counts =
    create_by was c items pages lsn s n root h item undo path plan step g st may key_is says w root_is
    room counts
