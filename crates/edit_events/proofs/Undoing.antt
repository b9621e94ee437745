-- For the proofs: the plan of an undo is the event.
use Rattle.std.proofs.Common.{◌≡◌, ℕ, List, Option, Some, None, refl, sym, ap, subst}
use Rattle.page_image.specs.Image.{Image}
use Rattle.page_view.specs.declared.leaf.LeafItem.{LeafItem}
use Rattle.page_view.specs.Leaf.{leaf_bytes}
use Rattle.page_view.specs.Undo.{IsOld}
use Rattle.redo_record.specs.declared.plans.Plan.{Plan}
use Rattle.redo_record.specs.declared.redo.Record.{Record}
use Rattle.tree_change.specs.Effects.{Carries, with_item}
use Rattle.tree_change.specs.Places.{leaf_on}
use Rattle.tree_change.specs.Way.{IsWayTo}
use Rattle.undo_versions.specs.declared.items.UndoItem.{UndoItem}
use Rattle.table_machine.specs.Language.{Language}
use Rattle.version_store.specs.Contents.{Content}
use Rattle.history.specs.Clusters.{Cluster, now}
use Rattle.history.specs.Events as event
use Rattle.history.specs.Events.{MayUndo}
use Rattle.history.specs.Invariant.{Refines}
use Rattle.held_versions.specs.Keeping.{grown}
use Rattle.tree_timeline.specs.Types.{Items, Key, Pages}
use Rattle.plan_steps.specs.UndoSteps.{with_back}
use Rattle.tree_plan_steps.specs.Following.{Follows, Stands}
use Rattle.tree_plan_steps.specs.Planned.{PutsBack}
use Rattle.tree_plan_steps.specs.UndoItemLaws.{last_undo}
use Rattle.tree_plan_steps.specs.Ways.{IsPath, way_in}
use Rattle.tree_plan_steps.proofs.Undoing.{undo_follows}
use Rattle.row_edits.specs.declared.changes.BackGround.{BackGround}
use Rattle.row_edits.specs.BackPlans.{IsBackPlan, items_by, leaf_plan, plan_by}
use Rattle.row_edits.specs.RowPlans.{put_plan}
use Rattle.edit_events.specs.Events.{UndoIsEvent}
use Rattle.edit_events.specs.Reading.{IsRead}
use Rattle.edit_events.proofs.Ending.{undone_is_rooted}
use Rattle.edit_events.proofs.Putting.{is_put}
use Rattle.edit_events.proofs.Reading.{read_is_path}

-- an undo over the pages of the log as it stands
abbrev ground : Pages → ℕ → UndoItem → List Image → BackGround
ground pages s undo path = record { session = s; undo = undo; path = path; slots = pages 1 }

puts_back : (key : Key) (path : List Image) (old : Option LeafItem) → IsWayTo key path → IsOld key old
    → Carries key path (plan_by old (leaf_on path) key) (items_by key old)
    → PutsBack path key old (plan_by old (leaf_on path) key)
puts_back key path None way is carries = record { takes = refl; carries = carries }
puts_back key path (Some old) way is carries = record {
  puts = is_put key path old way;
  carries =
      subst (λ (k : Key). Carries k path (put_plan (leaf_on path) old) (with_item k (leaf_bytes old)))
      (sym is.1) carries;
}

back_is_event : (language : Language) (was : Content) (c : Cluster) (items : ℕ → Items) (pages : Pages)
    (lsn s n : ℕ) (undo : UndoItem) (path : List Image) (plan : Plan)
    → Refines language was c → Stands items pages (now c) → MayUndo c s n
    → last_undo pages s ≡ Some undo → IsRead pages undo.root undo.key path
    → IsBackPlan (ground pages s undo path) plan
    → Follows language (event.undoes s) c (with_back items undo) pages (grown lsn plan.records pages)
back_is_event language was c items pages lsn s n undo path plan g st may last read fits =
    subst
    (λ (rs : List Record). Follows language (event.undoes s) c (with_back items undo) pages
    (grown lsn rs pages)) (sym (ap (λ (p : Plan). p.records) fits.plan_is))
    (undo_follows language was c items pages lsn s n undo path (leaf_plan (ground pages s undo path)) g st may
    (record {
      last = last;
      spelt = fits.spelt;
      path_is = path_is;
      back = puts_back undo.key path undo.old
          (way_in pages undo.root (items undo.root) undo.key path path_is
          (st.holds.trees.trees undo.root (undone_is_rooted c items pages s n undo st may last)))
          fits.spelt fits.carries;
      pointed = fits.pointed;
    }))
  where
    path_is : IsPath pages undo.root (items undo.root) undo.key path
    path_is = read_is_path pages undo.root (items undo.root) undo.key path read

pub undo_is_event : (language : Language) → UndoIsEvent language
undo_is_event language was c items pages lsn n g plan refines st may last here fits =
    back_is_event language was c items pages lsn g.session n g.undo g.path plan refines st may last here.way
    (subst (λ (x : BackGround). IsBackPlan x plan) same fits)
  where
    same : g ≡ ground pages g.session g.undo g.path
    same = λ i. record { session = g.session; undo = g.undo; path = g.path; slots = here.slots i }
