-- For the proofs: the plan of a row's change, and of a table's making, is the event.
use Rattle.std.proofs.Common.{◌≡◌, ◌≤◌, ◌+◌, ℕ, Bool, true, false, List, [], ◌∷◌, ◌++◌, length, Option, Some, None, inl, refl, sym, ap, subst, ◌∙◌, arith}
use Rattle.std.proofs.lemmas.Bool.{leb-true}
use Rattle.rm_base.specs.declared.limits.TheConstants.{MAX_PAGES}
use Rattle.rm_base.specs.declared.places.UndoPtr.{UndoPtr}
use Rattle.page_image.specs.declared.kind.Kind.TheVariants.{Leaf}
use Rattle.page_image.specs.Image.{Image, free_of}
use Rattle.page_image.specs.Meta.{page_count}
use Rattle.page_view.specs.declared.leaf.LeafItem.{LeafItem}
use Rattle.page_view.specs.Leaf.{leaf_bytes}
use Rattle.bplus_tree.specs.Tree.{Tree}
use Rattle.redo_record.specs.declared.plans.Plan.{Plan}
use Rattle.redo_record.specs.declared.redo.Record.{Record}
use Rattle.redo_record.specs.declared.redo.Record.TheVariants.{Make}
use Rattle.tree_change.specs.Effects.{Carries, with_item}
use Rattle.tree_change.specs.Places.{leaf_on, with_key}
use Rattle.tree_change.specs.Way.{IsWayTo}
use Rattle.commit_stamps.specs.Plans.{points}
use Rattle.undo_versions.specs.declared.items.UndoItem.{UndoItem}
use Rattle.undo_versions.specs.Appending.{NeedsPage, bytes_of, counts_undo, fits_bytes, step_by, undo_step}
use Rattle.undo_versions.specs.Effects.{Uses}
use Rattle.sql_database.specs.declared.changes.Change.{Change}
use Rattle.table_machine.specs.Language.{Language}
use Rattle.version_store.specs.Contents.{Content}
use Rattle.version_store.specs.Stores as stores
use Rattle.version_store.specs.Stores.{catalog, written}
use Rattle.version_store.specs.Versions.{Version}
use Rattle.history.specs.Clusters.{Cluster, now}
use Rattle.history.specs.Events as event
use Rattle.history.specs.Invariant.{Refines}
use Rattle.held_versions.specs.Keeping.{grown}
use Rattle.held_versions.specs.Tables.{SaysTable}
use Rattle.held_versions.specs.Undoing as held
use Rattle.held_versions.specs.Undoing.{current}
use Rattle.tree_timeline.specs.Types.{Items, Pages}
use Rattle.plan_steps.specs.Creates as creates
use Rattle.plan_steps.specs.Creates.{CountsRoot, create_records}
use Rattle.plan_steps.specs.Parts as parts
use Rattle.plan_steps.specs.Parts.{pages_with, undo_in_use, with_made}
use Rattle.plan_steps.specs.RowChanges.{SaysOf, change_records, with_row}
use Rattle.tree_plan_steps.specs.Following.{Follows, MayCreate, MayWrite, Stands}
use Rattle.tree_plan_steps.specs.Planned.{WritesVersion}
use Rattle.tree_plan_steps.specs.Ways.{IsPath, way_in}
use Rattle.tree_plan_steps.proofs.Making.{create_follows}
use Rattle.tree_plan_steps.proofs.Writing.{write_follows}
use Rattle.row_edits.specs.declared.changes.RowGround.{RowGround}
use Rattle.row_edits.specs.RowPlans.{CountsFor, CountsMade, IsRowPlan, begun, counts_for, first_of, item_of, naming, next_page, pointing, put_plan, root_of, step_of, undo_of}
use Rattle.row_edits.proofs.TreeLaws.{found_in_tree}
use Rattle.edit_events.specs.Events.{TableIsEvent, WriteIsEvent}
use Rattle.edit_events.specs.Grounds.{SaysTableAtEach}
use Rattle.edit_events.specs.Reading.{IsRead}
use Rattle.edit_events.proofs.Ending.{written_is_rooted}
use Rattle.edit_events.proofs.Putting.{is_put}
use Rattle.edit_events.proofs.Reading.{read_is_path}

-- a change over the pages of the log as it stands
abbrev ground : Pages → ℕ → ℕ → LeafItem → Option ℕ → List Image → RowGround
ground pages s root item begins path = record {
  change = record { session = s; root = root; item = item; begins = begins };
  path = path;
  meta = pages 0;
  undo = undo_in_use pages;
  slots = pages 1;
}

-- ---- the item keeps all but its pointer and its root's number

key_kept : (o : Option ℕ) (root : ℕ) (item : LeafItem) (at : UndoPtr)
    → (naming o root (pointing item at)).key ≡ item.key
key_kept None root item at = refl
key_kept (Some place) root item at = refl

trx_kept : (o : Option ℕ) (root : ℕ) (item : LeafItem) (at : UndoPtr)
    → (naming o root (pointing item at)).trx ≡ item.trx
trx_kept None root item at = refl
trx_kept (Some place) root item at = refl

older_kept : (o : Option ℕ) (root : ℕ) (item : LeafItem) (at : UndoPtr)
    → (naming o root (pointing item at)).older ≡ at
older_kept None root item at = refl
older_kept (Some place) root item at = refl

-- ---- there is space for the undo item

room_left : (meta page : Image) (undo : UndoItem) (begins : Option ℕ)
    → CountsFor meta (begun begins (next_page meta (undo_step meta page undo).made)) (undo_step meta page undo).made
    → ¬ (NeedsPage page undo × (MAX_PAGES ≤ page_count meta))
room_left meta page undo begins counts full =
    by_fit (fits_bytes page (bytes_of undo)) refl begins counts
  where
    by_fit : (b : Bool) → fits_bytes page (bytes_of undo) ≡ b → (o : Option ℕ)
        → CountsFor meta (begun o (next_page meta (step_by b meta page (bytes_of undo)).made))
        (step_by b meta page (bytes_of undo)).made → ⊥
    by_fit true e o c =
        let fits : length (bytes_of undo) + 2 ≤ free_of page =
        leb-true (length (bytes_of undo) + 2) (free_of page) e in
        let needs = full.0 in absurd (omega (arith, fits, needs))
    by_fit false e None c = let most = c.0 in let many = full.1 in absurd (omega (arith, most, many))
    by_fit false e (Some place) c = let most = c.0 in let many = full.1 in absurd (omega (arith, most, many))

-- ---- the version that is written

same_first : (xs : List (List ℕ)) → first_of xs ≡ held.first_of xs
same_first [] = refl
same_first (x ∷ xs) = refl

module _ (items : ℕ → Items) (pages : Pages) (s root : ℕ) (item : LeafItem) (begins : Option ℕ)
    (path : List Image) (plan : Plan) (tree : Tree pages root (items root))
    (read : IsRead pages root item.key path)
    (fits : IsRowPlan (ground pages s root item begins path) plan) where
  abbrev G : RowGround
  G = ground pages s root item begins path

  path_is : IsPath pages root (items root) item.key path
  path_is = read_is_path pages root (items root) item.key path read

  abbrev way : IsWayTo item.key path
  way = way_in pages root (items root) item.key path path_is tree

  key_is : (item_of G).key ≡ item.key
  key_is = key_kept begins (root_of G) item (step_of G).at

  old_is : (undo_of G).old ≡ current items root (item_of G).key
  old_is =
      found_in_tree item.key path way
      ∙ (same_first (with_key item.key (items root)) ∙ ap (current items root) (sym key_is))

  pub writes_version : WritesVersion items pages s item.trx root (item_of G) (undo_of G) path
      (put_plan (leaf_on path) (item_of G)) (step_of G)
  writes_version = record {
    path_is = subst (λ (k : List ℕ). IsPath pages root (items root) k path) (sym key_is) path_is;
    spelt = fits.spelt;
    wrote = trx_kept begins (root_of G) item (step_of G).at;
    points_to = older_kept begins (root_of G) item (step_of G).at;
    puts = record {
      puts = is_put item.key path (item_of G) way;
      carries =
          subst
          (λ (k : List ℕ). Carries k path (put_plan (leaf_on path) (item_of G))
          (with_item k (leaf_bytes (item_of G)))) (sym key_is) fits.carries;
    };
    keeps_old = record {
      trx_is = refl;
      root_is = refl;
      key_is = sym key_is;
      old_is = old_is;
      before_is = refl;
    };
    keeps = record {
      space = room_left (pages 0) (undo_in_use pages) (undo_of G) begins fits.counts;
      step_is = refl;
      appends = fits.appends;
      pointed = fits.pointed;
    };
  }

-- ---- a row

same_counts : (meta : Image) (made : Option ℕ) → counts_for meta None made ≡ parts.counts_made meta made
same_counts meta None = refl
same_counts meta (Some page) = refl

uses_by : (meta : Image) (made : Option ℕ) → CountsMade meta made → (page : ℕ) → made ≡ Some page
    → Uses meta (page + 1) page (counts_undo meta (page + 1) page ∷ [])
uses_by meta None c page e = absurd (let f : None ≡ Some page = e in cc)
uses_by meta (Some p) c page e =
    let same : p ≡ page = (let f : Some p ≡ Some page = e in cc) in
    subst (λ (q : ℕ). Uses meta (q + 1) q (counts_undo meta (q + 1) q ∷ [])) same c.1

module _ (pages : Pages) (s root : ℕ) (item : LeafItem) (path : List Image) (plan : Plan)
    (fits : IsRowPlan (ground pages s root item None path) plan) where
  abbrev R : RowGround
  R = ground pages s root item None path

  abbrev put : Plan
  put = put_plan (leaf_on path) (item_of R)

  row_records : plan.records ≡ change_records pages s put.records (step_of R)
  row_records =
      ap (λ (p : Plan). p.records) fits.plan_is
      ∙ ap
      (λ (rs : List Record). put.records
      ++ ((step_of R).records ++ (points (pages 1) s (step_of R).at ∷ rs)))
      (same_counts (pages 0) (step_of R).made)

  row_follows : (language : Language) (was : Content) (c : Cluster) (items : ℕ → Items) (lsn : ℕ)
      (h : Change)
      → Refines language was c → Stands items pages (now c) → MayWrite c s item.trx root h
      → item.key ≡ h.key → SaysOf (now c) h.table item (written item.trx h.row)
      → IsRead pages root item.key path
      → Follows language (event.writes s (pages_with (now c) (step_of R).made)) c
      (with_row items root (item_of R)) pages (grown lsn plan.records pages)
  row_follows language was c items lsn h g st may key says read =
      subst
      (λ (rs : List Record). Follows language
      (event.writes s (pages_with (now c) (step_of R).made)) c
      (with_row items root (item_of R)) pages (grown lsn rs pages)) (sym row_records)
      (write_follows language was c items pages lsn s item.trx root h (item_of R) (undo_of R) path put
      (step_of R) g st may key says
      (writes_version items pages s root item None path plan
      (st.holds.trees.trees root (written_is_rooted language was c s item.trx root h g may)) read fits)
      (uses_by (pages 0) (step_of R).made fits.counts))

pub write_is_event : (language : Language) → WriteIsEvent language
write_is_event language was c items pages lsn h g plan refines st may key none says here fits =
    subst
    (λ (x : RowGround). Follows language
    (event.writes x.change.session (pages_with (now c) (step_of x).made)) c
    (with_row items x.change.root (item_of x)) pages (grown lsn plan.records pages)) (sym same)
    (row_follows pages g.change.session g.change.root g.change.item g.path plan
    (subst (λ (x : RowGround). IsRowPlan x plan) same fits) language was c items lsn h refines st may key
    says here.way)
  where
    same : g ≡ ground pages g.change.session g.change.root g.change.item None g.path
    same = λ i. record {
      change = record {
        session = g.change.session;
        root = g.change.root;
        item = g.change.item;
        begins = none i;
      };
      path = g.path;
      meta = here.meta i;
      undo = here.undo i;
      slots = here.slots i;
    }

-- ---- a table

same_next : (meta : Image) (made : Option ℕ) → next_page meta made ≡ creates.next_page meta made
same_next meta None = refl
same_next meta (Some page) = refl

same_root : (meta : Image) (root : ℕ) (made : Option ℕ)
    → counts_for meta (Some root) made ≡ creates.counts_root meta root made
same_root meta root None = refl
same_root meta root (Some page) = refl

root_room : (meta : Image) (root : ℕ) (made : Option ℕ) → CountsFor meta (Some root) made → root + 1 ≤ MAX_PAGES
root_room meta root None c = c.0
root_room meta root (Some page) c = c.0

root_counted : (meta : Image) (root : ℕ) (made : Option ℕ) → CountsFor meta (Some root) made → CountsRoot meta root made
root_counted meta root None c = c.1
root_counted meta root (Some page) c = c.1

-- a table is said whatever the item points to
says_pointing : (place root : ℕ) (item : LeafItem) (at : UndoPtr) (v : Version)
    → SaysTable (naming (Some place) root item) v
    → SaysTable (naming (Some place) root (pointing item at)) v
says_pointing place root item at v says = record {
  lives = says.lives;
  schema = says.schema;
  spells = record {
    table = says.spells.table;
    bounded = says.spells.bounded;
    spelt = says.spells.spelt;
  };
  row = says.row;
}

module _ (language : Language) (was : Content) (c : Cluster) (items : ℕ → Items) (pages : Pages)
    (lsn s place : ℕ) (item : LeafItem) (path : List Image) (h : Change) (plan : Plan)
    (g : Refines language was c) (st : Stands items pages (now c)) (may : MayCreate c s item.trx h)
    (key : item.key ≡ h.key) (says : SaysTableAtEach (Some place) item h.row)
    (read : IsRead pages catalog item.key path)
    (fits : IsRowPlan (ground pages s catalog item (Some place) path) plan) where
  abbrev T : RowGround
  T = ground pages s catalog item (Some place) path

  table_records : plan.records ≡ create_records pages s (put_plan (leaf_on path) (item_of T)).records (root_of T) (step_of T)
  table_records =
      ap (λ (p : Plan). p.records) fits.plan_is
      ∙ ap
      (λ (rs : List Record). (put_plan (leaf_on path) (item_of T)).records
      ++ (Make (root_of T) Leaf 0
      ∷ ((step_of T).records ++ (points (pages 1) s (step_of T).at ∷ rs))))
      (same_root (pages 0) (root_of T) (step_of T).made)

  root_next : (made : Option ℕ) → next_page (pages 0) made ≡ pages_with (now c) made
  root_next None = sym st.holds.counters.pages_are
  root_next (Some page) = refl

  room : root_of T + 1 ≤ MAX_PAGES
  room = root_room (pages 0) (root_of T) (step_of T).made fits.counts

  says_it : SaysTable (item_of T) (stores.naming (with_made (now c) (step_of T).made) item.trx h.row)
  says_it =
      subst
      (λ (r : ℕ). SaysTable (item_of T) (record { trx = item.trx; row = h.row; root = r }))
      (root_next (step_of T).made)
      (says_pointing place (root_of T) item (step_of T).at
      (record { trx = item.trx; row = h.row; root = root_of T }) (says (root_of T) room))

  pub table_follows : Follows language (event.creates s (pages_with (now c) (step_of T).made)) c
      (with_row items catalog (item_of T)) pages (grown lsn plan.records pages)
  table_follows =
      subst
      (λ (rs : List Record). Follows language
      (event.creates s (pages_with (now c) (step_of T).made)) c
      (with_row items catalog (item_of T)) pages (grown lsn rs pages)) (sym table_records)
      (create_follows language was c items pages lsn s item.trx (root_of T) h (item_of T) (undo_of T) path
      (put_plan (leaf_on path) (item_of T)) (step_of T) g st may key says_it
      (writes_version items pages s catalog item (Some place) path plan
      (st.holds.trees.trees catalog (inl refl)) read fits)
      (same_next (pages 0) (step_of T).made) room
      (root_counted (pages 0) (root_of T) (step_of T).made fits.counts))

pub table_is_event : (language : Language) → TableIsEvent language
table_is_event language was c items pages lsn place h g plan refines st may root_is key begins says here
    fits =
    subst
    (λ (x : RowGround). Follows language
    (event.creates x.change.session (pages_with (now c) (step_of x).made)) c
    (with_row items catalog (item_of x)) pages (grown lsn plan.records pages)) (sym same)
    (table_follows language was c items pages lsn g.change.session place g.change.item g.path h plan
    refines st may key says
    (subst (λ (r : ℕ). IsRead pages r g.change.item.key g.path) root_is here.way)
    (subst (λ (x : RowGround). IsRowPlan x plan) same fits))
  where
    same : g ≡ ground pages g.change.session catalog g.change.item (Some place) g.path
    same = λ i. record {
      change = record {
        session = g.change.session;
        root = root_is i;
        item = g.change.item;
        begins = begins i;
      };
      path = g.path;
      meta = here.meta i;
      undo = here.undo i;
      slots = here.slots i;
    }
