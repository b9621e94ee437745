-- For the proofs: the group of an undo step follows the event of history.
use Rattle.std.proofs.Common.{◌≡◌, ℕ, List, [], ◌∷◌, Option, Some, None, refl, sym, ap, subst, ◌∙◌, arith}
use Rattle.std.specs.List.{AllByRecursion}
use Rattle.page_image.specs.Image.{Image, is_slotted}
use Rattle.page_view.specs.declared.leaf.LeafItem.{LeafItem}
use Rattle.page_view.specs.Leaf.{leaf_bytes}
use Rattle.page_view.specs.Undo.{IsOld}
use Rattle.redo_record.specs.declared.plans.Plan.{Plan}
use Rattle.tree_change.specs.Places.{leaf_on}
use Rattle.commit_stamps.specs.Fields.{slot_of}
use Rattle.undo_versions.specs.declared.items.UndoItem.{UndoItem}
use Rattle.undo_versions.specs.Reading.{older}
use Rattle.table_machine.specs.Language.{Language}
use Rattle.version_store.specs.Contents.{Content}
use Rattle.version_store.specs.Groups as group
use Rattle.version_store.specs.Stores.{Store, UndoEntry, undone}
use Rattle.history.specs.Clusters.{Cluster, now}
use Rattle.history.specs.Events as event
use Rattle.history.specs.Events.{MayUndo}
use Rattle.history.specs.Invariant.{Refines}
use Rattle.held_versions.specs.Holds.{Holds}
use Rattle.held_versions.specs.Keeping.{grown}
use Rattle.held_versions.specs.Trees.{IsRoot}
use Rattle.held_versions.specs.Undoing.{UndoList, current}
use Rattle.held_versions.proofs.Framing.{undo_slotted}
use Rattle.tree_timeline.specs.Types.{Items, Key, Pages}
use Rattle.plan_steps.specs.Growth.{UndoGrows}
use Rattle.plan_steps.specs.KeyItems.{put_item}
use Rattle.plan_steps.specs.Parts.{ChangesLeaf}
use Rattle.plan_steps.specs.UndoSteps.{put_back, undo_records, with_back}
use Rattle.plan_steps.proofs.Entries.{entries_stay_rooted, none_stay_behind}
use Rattle.plan_steps.proofs.Lists.{session_low}
use Rattle.plan_steps.proofs.Sites.{true_or_false}
use Rattle.plan_steps.proofs.Undoes.{undo_step_is_undone}
use Rattle.tree_plan_steps.specs.EventLaws.{UndoFollows}
use Rattle.tree_plan_steps.specs.Following.{Follows, Stands}
use Rattle.tree_plan_steps.specs.Planned.{PutsBack, UndoesVersion}
use Rattle.tree_plan_steps.specs.Ways.{IsPath}
use Rattle.tree_plan_steps.proofs.Following.{follows, held, rooted}
use Rattle.tree_plan_steps.proofs.Keys.{puts_in_one, takes_from_one}
use Rattle.tree_plan_steps.proofs.Leaves.{put_changes_leaf, remove_changes_leaf}
use Rattle.tree_plan_steps.proofs.Writing.{root_below}

-- ---- the leaf

back_by : (items : ℕ → Items) (pages : Pages) (lsn root : ℕ) (key : Key) (path : List Image)
    (plan : Plan) (old : Option LeafItem) → IsOld key old → IsPath pages root (items root) key path
    → PutsBack path key old plan
    → ChangesLeaf items pages lsn root (leaf_on path).page (put_back key old (items root)) plan.records
back_by items pages lsn root key path plan None is way takes =
    remove_changes_leaf items pages lsn root (leaf_on path).page key path plan way
    (takes_from_one path key plan takes) takes.carries
back_by items pages lsn root key path plan (Some old) is way puts =
    subst
    (λ (k : Key). ChangesLeaf items pages lsn root (leaf_on path).page
    (put_item k (leaf_bytes old) (items root)) plan.records) is.1
    (put_changes_leaf items pages lsn root (leaf_on path).page old path plan
    (subst (λ (k : Key). IsPath pages root (items root) k path) (sym is.1) way)
    (puts_in_one path old plan puts) puts.carries)

-- ---- the last undo item of a session

-- a session's undo list begins with the entry of its last undo item
pub record LastEntry (S : Store) (s : ℕ) (undo : UndoItem) : Type 0 where
  pub rest : List UndoEntry
  pub list : S.undo s ≡ record { root = undo.root; key = undo.key } ∷ rest

pub last_entry : (items : ℕ → Items) (pages : Pages) (S : Store) (s t : ℕ) (undo : UndoItem)
    → Holds items pages S → S.slot s ≡ Some t
    → older (pages (slot_of (pages 1) s).last.page) (slot_of (pages 1) s).last ≡ Some undo
    → LastEntry S s undo
last_entry items pages S s t undo h slot last =
    by_list (S.undo s) refl (h.undo s t (session_low pages S s t h.slots slot) slot)
  where
    by_list : (us : List UndoEntry) → S.undo s ≡ us
        → UndoList pages t (current items) (slot_of (pages 1) s).last us → LastEntry S s undo
    by_list [] e none =
        absurd (true_or_false (is_slotted (pages (slot_of (pages 1) s).last.page).kind)
        (undo_slotted (pages (slot_of (pages 1) s).last.page) (slot_of (pages 1) s).last undo last)
        (ap (λ (q : ℕ). is_slotted (pages q).kind) none ∙ ap is_slotted h.counters.meta.kind))
    by_list (u ∷ us) e list =
        let same : list.0.undo ≡ undo =
        (let f : Some list.0.undo ≡ Some undo = sym list.0.stands.item ∙ last in cc) in
        let root : u.root ≡ undo.root = list.0.root ∙ ap (λ (x : UndoItem). x.root) same in
        let key : u.key ≡ undo.key = list.0.key ∙ ap (λ (x : UndoItem). x.key) same in
        record { rest = us; list = e ∙ ap (λ (x : UndoEntry). x ∷ us) (λ i. record { root = root i; key = key i }) }

-- ---- the group

module _ {language : Language} (was : Content) (c : Cluster) (items : ℕ → Items) (pages : Pages)
    (lsn s n : ℕ) (undo : UndoItem) (path : List Image) (plan : Plan) (g : Refines language was c)
    (st : Stands items pages (now c)) (may : MayUndo c s n)
    (w : UndoesVersion items pages s undo path plan) where
  abbrev S : Store
  S = now c

  abbrev new : Pages
  new = grown lsn (undo_records pages s plan.records undo) pages

  first : LastEntry S s undo
  first = last_entry items pages S s n undo st.holds may.slot w.last

  abbrev entry : UndoEntry
  entry = record { root = undo.root; key = undo.key }

  named : IsRoot S undo.root
  named = by_entries (S.undo s) first.list (st.entries s n may.slot)
    where
      by_entries : (us : List UndoEntry) → us ≡ entry ∷ first.rest
          → AllByRecursion (λ (x : UndoEntry). IsRoot S x.root) us → IsRoot S undo.root
      by_entries us e all =
          (subst (AllByRecursion (λ (x : UndoEntry). IsRoot S x.root)) e all).0

  made : Holds (with_back items undo) new (undone S s undo.root undo.key first.rest)
      × UndoGrows pages new
  made =
      undo_step_is_undone items pages S lsn s n (leaf_on path).page plan.records undo entry first.rest
      st.holds (held was c g) (rooted was c g) may.slot first.list named
      (record {
        last = w.last;
        spelt = w.spelt;
        changes = back_by items pages lsn undo.root undo.key path plan undo.old w.spelt w.path_is w.back;
        pointed = w.pointed;
      })

  undo_by : Follows language (event.undoes s) c (with_back items undo) pages new
  undo_by =
      follows language (event.undoes s) c (with_back items undo) pages new
      (undone S s undo.root undo.key first.rest) s (c.work s) c.machine
      (n, entry, first.rest, may, first.list, refl)
      (record {
        holds = made.0;
        entries = entries_stay_rooted.keep (group.undoes s) S (undone S s undo.root undo.key first.rest)
            (n, entry, first.rest, may.slot, first.list, refl) (held was c g) (rooted was c g) st.entries;
        behind = none_stay_behind items S (undone S s undo.root undo.key first.rest) undo.root
            (put_back undo.key undo.old (items undo.root))
            (root_below items pages S st.holds (rooted was c g) undo.root named) (omega arith) st.behind;
      }) made.1

pub undo_follows : (language : Language) → UndoFollows language
undo_follows language was c items pages lsn s n undo path plan g st may w =
    undo_by was c items pages lsn s n undo path plan g st may w
