-- For the proofs: what a group leaves that puts an item into a tree, with its undo item.
use Rattle.std.proofs.Common.{◌≡◌, ◌≢◌, ◌≤◌, ◌<◌, ℕ, Bool, true, List, [], ◌∷◌, Some, None, ◌⊎◌, inl, inr, sym, ap, subst, ◌∙◌, arith}
use Rattle.rm_base.specs.declared.limits.TheConstants.{MAX_TRX_ID}
use Rattle.std.specs.Prelude.{if◌then◌else◌, option_and_then}
use Rattle.rm_base.specs.declared.places.UndoPtr.{UndoPtr}
use Rattle.page_image.specs.declared.kind.Kind.TheVariants.{Undo}
use Rattle.page_image.specs.Image.{Image, is_slotted}
use Rattle.page_view.specs.declared.leaf.LeafItem.{LeafItem}
use Rattle.page_view.specs.Leaf.{IsLeaf, leaf_bytes}
use Rattle.page_view.proofs.LeafLaws.{leaf_back}
use Rattle.redo_record.specs.declared.redo.Record.{Record}
use Rattle.redo_record.specs.Effect.{after_records}
use Rattle.commit_stamps.specs.Effects.{SetsSlot}
use Rattle.commit_stamps.specs.Fields.{slot_of}
use Rattle.commit_stamps.specs.Plans.{points}
use Rattle.undo_versions.specs.declared.appending.UndoStep.{UndoStep}
use Rattle.undo_versions.specs.declared.items.UndoItem.{UndoItem}
use Rattle.undo_versions.specs.Chains.{GoesOn, version_before}
use Rattle.undo_versions.specs.Walking.{old_of, replaced}
use Rattle.version_store.specs.Held.{Held, count}
use Rattle.version_store.specs.Stores.{Store, put}
use Rattle.version_store.specs.Versions.{Version}
use Rattle.held_versions.specs.Counting.{HasCounters, HasSlots, HasStamps, sessions}
use Rattle.held_versions.specs.Holds.{Holds}
use Rattle.held_versions.specs.Keeping.{KeepsUndo, grown, is_of_tree}
use Rattle.held_versions.specs.Trees.{IsRoot}
use Rattle.held_versions.specs.Undoing.{first_of}
use Rattle.held_versions.specs.Versions.{Has, IsPointer, StandsAt, Versions, VersionsAt, of_key}
use Rattle.held_versions.proofs.Chains.{versions_at_kept}
use Rattle.held_versions.proofs.Framing.{HasUndo}
use Rattle.held_versions.proofs.Parts.{held_trx, stamps_kept}
use Rattle.held_versions.proofs.Standing.{node_of_tree}
use Rattle.tree_timeline.specs.Types.{Items, Pages}
use Rattle.plan_steps.specs.Growth.{UndoGrows}
use Rattle.plan_steps.specs.KeyItems.{put_item}
use Rattle.plan_steps.specs.Parts.{AppendsUndo, ChangesLeaf, KeepsOld, TouchOnly}
use Rattle.plan_steps.specs.RowChanges.{with_row}
use Rattle.plan_steps.proofs.Growing.{grown_keeps}
use Rattle.plan_steps.proofs.KeyLaws.{row_here, row_keeps}
use Rattle.plan_steps.proofs.Records.{Group, records_of, touch_as, group_numbered}
use Rattle.plan_steps.proofs.Sites.{Sites, free_kept, made_below, meta_after, slotted_tree, true_or_false, slots_after, stamp_pages_kept, undo_after, undo_grows}
use Rattle.plan_steps.proofs.Lists.{lists_pushed, session_low, slots_pointed}
use Rattle.plan_steps.proofs.Placing.{MetaAfter, counters_after, grown_there, next_there, stands_there, undo_is, undo_touches}

-- the versions go on with those of the item that was replaced
pub goes_on : (Says : LeafItem → Version → Type 0) (pages : Pages) (xs : Items) (vs : List Version)
    → VersionsAt Says pages xs vs
    → GoesOn (λ old. Versions Says pages old vs) (vs ≡ []) (first_of xs)
goes_on Says pages [] vs h = h
goes_on Says pages (x ∷ []) vs h = h
goes_on Says pages (x ∷ (y ∷ xs)) vs h = absurd h

-- a pointer to an undo item leads to what it keeps
pub before_is : (pages : Pages) (item : LeafItem) (undo : UndoItem) → StandsAt pages item.older undo
    → version_before pages item ≡ undo.old
before_is pages item undo stands =
    ap (λ (b : Bool). if b then replaced (pages item.older.page) item.older else None) stands.page
    ∙ ap (option_and_then old_of) stands.item

-- ---- the group

-- What is known of a group that puts an item: its leaf, another page that it makes, if any, its undo
-- item, and the meta page after it.
pub record Pushing (items : ℕ → Items) (pages : Pages) (S T : Store) (lsn s t root leaf other : ℕ)
    (on_leaf on_other on_meta : List Record) (item : LeafItem) (undo : UndoItem) (step : UndoStep)
    : Type 0 where
  pub slot : S.slot s ≡ Some t
  pub named : IsRoot S root
  pub changes : ChangesLeaf items pages lsn root leaf
      (put_item item.key (leaf_bytes item) (items root)) on_leaf
  pub spelt : IsLeaf item
  pub wrote : item.trx ≡ t
  pub points_to : item.older ≡ step.at
  pub keeps_old : KeepsOld items pages s t root item.key undo
  pub appends : AppendsUndo pages s undo step
  pub other_is : (other ≡ leaf) ⊎ (S.pages ≤ other)
  pub other_below : (other ≡ leaf) ⊎ (other < T.pages)
  pub other_only : TouchOnly other on_other
  pub undo_other : (step.at.page ≢ leaf) → step.at.page ≢ other
  pub meta_only : TouchOnly 0 on_meta
  pub meta : MetaAfter (pages 0) (after_records lsn on_meta (pages 0)) T.pages step.at.page
  pub more : S.pages ≤ T.pages
  pub most : T.pages ≤ 32768
  pub undo_below : step.at.page < T.pages
  pub beside : (u v : ℕ) → u ≢ s → S.slot u ≡ Some v → count root item.key (S.undo u) ≡ 0
  pub next_same : T.next ≡ S.next
  pub last_same : T.last ≡ S.last
  pub stamp_same : T.stamp ≡ S.stamp
  pub slot_same : T.slot ≡ S.slot
  pub undo_more : T.undo ≡ put S.undo s (record { root = root; key = item.key } ∷ S.undo s)

-- and what it leaves
pub record Pushed (items others : ℕ → Items) (pages now : Pages) (S T : Store) (t root : ℕ)
    (item : LeafItem) : Type 1 where
  pub grows : UndoGrows pages now
  pub keeps : KeepsUndo pages now
  pub counters : HasCounters now T
  pub stamps : HasStamps now T
  pub slots : HasSlots now T
  pub lists : HasUndo others now T
  pub versions : (Says : LeafItem → Version → Type 0) (v : Version) → Says item v → v.trx ≡ t
      → VersionsAt Says pages (of_key item.key (items root)) (S.rows root item.key)
      → VersionsAt Says now (of_key item.key (others root)) (v ∷ S.rows root item.key)

module _ (items : ℕ → Items) (pages : Pages) (S T : Store) (lsn s t root leaf other : ℕ)
    (on_leaf on_other on_meta : List Record) (item : LeafItem) (undo : UndoItem) (step : UndoStep)
    (h : Holds items pages S) (held : Held S)
    (b : Pushing items pages S T lsn s t root leaf other on_leaf on_other on_meta item undo step)
  where
    pub slots_touch : TouchOnly 1 (points (pages 1) s step.at ∷ [])
    slots_touch =
        touch_as (pages 1).page 1 (points (pages 1) s step.at ∷ []) h.slots.page.number
        (λ l im ne. b.appends.pointed.runs.only l im (ne, tt))

    abbrev pub group_of : Group
    group_of = record {
      leaf = leaf;
      other = other;
      undo = step.at.page;
      on_leaf = on_leaf;
      on_other = on_other;
      on_undo = step.records;
      on_slots = points (pages 1) s step.at ∷ [];
      on_meta = on_meta;
      leaf_only = b.changes.only;
      other_only = b.other_only;
      undo_only = undo_touches items pages S h s undo step b.appends;
      slots_only = slots_touch;
      meta_only = b.meta_only;
    }

    of_tree : is_of_tree (pages leaf).kind ≡ true
    of_tree =
        node_of_tree pages root (items root) (h.trees.trees root b.named) leaf
        (b.changes.node (h.trees.trees root b.named))

    leaf_below : leaf < S.pages
    leaf_below = made_below items pages S h leaf (slotted_tree (pages leaf).kind of_tree)

    -- the undo page is not the leaf's
    not_leaf : step.at.page ≢ leaf
    not_leaf e = by_case (undo_is items pages S h s undo step b.appends)
      where
        by_case : ((pages step.at.page).kind ≡ Undo) ⊎ (S.pages ≤ step.at.page) → ⊥
        by_case (inl k) =
            true_or_false (is_of_tree (pages leaf).kind) of_tree
            (ap (λ (q : ℕ). is_of_tree (pages q).kind) (sym e) ∙ ap is_of_tree k)
        by_case (inr past) = (let below = leaf_below in omega (arith, below, past, e))

    pub sites_of : Sites items pages S h group_of
    sites_of = record {
      of_tree = of_tree;
      other_is = b.other_is;
      undo_is = undo_is items pages S h s undo step b.appends;
      undo_other = b.undo_other not_leaf;
    }

    abbrev now : Pages
    now = grown lsn (records_of group_of) pages

    abbrev others : ℕ → Items
    others = with_row items root item

    low : s < sessions
    low = session_low pages S s t h.slots b.slot

    undo_there : now step.at.page ≡ after_records lsn step.records (pages step.at.page)
    undo_there = undo_after items pages S h lsn group_of sites_of

    grows : UndoGrows pages now
    grows =
        undo_grows items pages S h lsn group_of sites_of
        (grown_there items pages S h s undo step b.appends lsn)

    keeps : KeepsUndo pages now
    keeps = grown_keeps pages now grows

    sets : SetsSlot (pages 1) (now 1) s (record (slot_of (pages 1) s) { last = step.at })
    sets =
        subst
        (λ (im : Image). SetsSlot (pages 1) im s (record (slot_of (pages 1) s) { last = step.at }))
        (sym (slots_after items pages S h lsn group_of sites_of)) (b.appends.pointed.slot lsn)

    meta_there : MetaAfter (pages 0) (now 0) T.pages step.at.page
    meta_there =
        subst (λ (im : Image). MetaAfter (pages 0) im T.pages step.at.page)
        (sym (meta_after items pages S h lsn group_of sites_of)) b.meta

    not_zero : step.at.page ≢ 0
    not_zero e = by_case (undo_is items pages S h s undo step b.appends)
      where
        by_case : ((pages step.at.page).kind ≡ Undo) ⊎ (S.pages ≤ step.at.page) → ⊥
        by_case (inl k) =
            true_or_false (is_slotted (pages 0).kind)
            (ap (λ (q : ℕ). is_slotted (pages q).kind) (sym e) ∙ ap is_slotted k)
            (ap is_slotted h.counters.meta.kind)
        by_case (inr past) = let few = h.counters.low in omega (arith, past, e, few)

    stands : StandsAt now step.at undo
    stands =
        stands_there items pages S h s undo step b.appends lsn now undo_there
        (let most = b.most in let below = b.undo_below in omega (arith, most, below)) not_zero

    not_other : (q : ℕ) → T.pages ≤ q → q ≢ other
    not_other q past e = by_case b.other_below
      where
        by_case : (other ≡ leaf) ⊎ (other < T.pages) → ⊥
        by_case (inl f) =
            (let below = leaf_below in let more = b.more in omega (arith, past, e, f, below, more))
        by_case (inr below) = omega (arith, past, e, below)

    counters : HasCounters now T
    counters =
        counters_after pages now S T step.at.page h.counters meta_there b.next_same b.last_same
        b.more b.most (group_numbered pages h.counters.numbered lsn group_of)
        (ap (λ (im : Image). im.kind) undo_there
        ∙ (next_there items pages S h s undo step b.appends lsn).kind)
        (λ q past.
        (let more = b.more in
        let below = b.undo_below in
        free_kept items pages S h lsn group_of sites_of q (omega (arith, past, more))
        (not_other q past) (λ e. omega (arith, e, past, below))))

    here : of_key item.key (others root) ≡ leaf_bytes item ∷ []
    here = row_here items root item

    lists : HasUndo others now T
    lists =
        lists_pushed items others pages now S T s t root item.key step.at keeps h.undo sets
        (row_keeps items root item) low b.slot b.slot_same b.beside undo item b.keeps_old
        (ap first_of here ∙ ap (λ (x : LeafItem). Some x) (leaf_back item b.spelt)) stands b.wrote
        b.points_to b.undo_more

    t_some : 1 ≤ t
    t_some =
        (held_trx (slot_of (pages 1) s) t (sym (h.slots.slots s low) ∙ b.slot)).1

    t_most : t ≤ MAX_TRX_ID
    t_most =
        let below = held.open_below s t b.slot in
        let within = h.stamps.within in
        omega (arith, below, within)

    has : (Says : LeafItem → Version → Type 0) (v : Version) → Says item v → v.trx ≡ t
        → Has Says now item v
    has Says v said own = record {
      says = said;
      trx = own ∙ sym b.wrote;
      some = subst (λ (x : ℕ). 1 ≤ x) (sym b.wrote) t_some;
      most = subst (λ (x : ℕ). x ≤ MAX_TRX_ID) (sym b.wrote) t_most;
      pointer = subst (λ (x : UndoPtr). IsPointer now x) (sym b.points_to) (inr (undo, stands));
    }

    replaces : version_before now item ≡ first_of (of_key item.key (items root))
    replaces =
        before_is now item undo
        (subst (λ (x : UndoPtr). StandsAt now x undo) (sym b.points_to) stands)
        ∙ b.keeps_old.old_is

    versions : (Says : LeafItem → Version → Type 0) (v : Version) → Says item v → v.trx ≡ t
        → VersionsAt Says pages (of_key item.key (items root)) (S.rows root item.key)
        → VersionsAt Says now (of_key item.key (others root)) (v ∷ S.rows root item.key)
    versions Says v said own before =
        let vs : List Version = S.rows root item.key in
        let whole : Versions Says now item (v ∷ vs) = (
          has Says v said own,
          subst (GoesOn (λ old. Versions Says now old vs) (vs ≡ [])) (sym replaces)
              (goes_on Says now (of_key item.key (items root)) vs
              (versions_at_kept Says pages now keeps (of_key item.key (items root)) vs before)),
        ) in
        subst (λ (xs : Items). VersionsAt Says now xs (v ∷ vs)) (sym here)
        (subst (λ (x : LeafItem). Versions Says now x (v ∷ vs)) (sym (leaf_back item b.spelt)) whole)

    pub pushed_all : Pushed items others pages now S T t root item
    pushed_all = record {
      grows = grows;
      keeps = keeps;
      counters = counters;
      stamps = stamps_kept pages now S T b.stamp_same b.next_same
          (stamp_pages_kept items pages S h lsn group_of sites_of) h.stamps;
      slots = slots_pointed pages now S T s step.at low h.slots sets b.slot_same;
      lists = lists;
      versions = versions;
    }
