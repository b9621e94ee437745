-- For the proofs: the example's undo and free follow their events, by computation.
use Rattle.std.proofs.Common.{◌≡◌, ◌≤◌, ℕ, zero, suc, Bool, true, false, if◌then◌else◌, nat_eq, List, [], ◌∷◌, length, None, Some, codes, inl, refl, sym, subst, arith}
use Rattle.rm_base.specs.Fields.{field, number}
use Rattle.page_image.specs.declared.kind.Kind.TheVariants.{Inner, Leaf}
use Rattle.page_image.specs.Rules.{IsImage}
use Rattle.page_view.specs.Leaf.{HoldsLeaf, leaf_bytes}
use Rattle.bplus_tree.specs.Tree as tree
use Rattle.bplus_tree.specs.Tree.{Way}
use Rattle.tree_change.specs.Pages.{HasRows}
use Rattle.tree_change.specs.Places.{HasKey}
use Rattle.tree_change.proofs.ChangeLaws.{remove_carries}
use Rattle.commit_stamps.specs.Effects.{Frees, Points}
use Rattle.commit_stamps.specs.Fields.{no_undo, slot_of}
use Rattle.commit_stamps.specs.Plans.{free_records, points}
use Rattle.commit_stamps.proofs.CommitLaws.{frees, points_at}
use Rattle.undo_versions.specs.Reading.{holds_undo}
use Rattle.table_machine.specs.declared.entries.Entry.{Entry}
use Rattle.table_machine.specs.Machine.{Machine}
use Rattle.table_machine.specs.Moves.{downed}
use Rattle.version_store.specs.Stores.{catalog}
use Rattle.history.specs.Clusters as cluster
use Rattle.history.specs.Clusters.{Cluster, now}
use Rattle.history.specs.Events as event
use Rattle.history.specs.Events.{AllHappen, Happens, MayUndo, NoJob, crashed, cut}
use Rattle.history.specs.Invariant.{Refines}
use Rattle.history.specs.SmallLanguage.{small}
use Rattle.history.proofs.AnswerLaws.{content_fits}
use Rattle.history.proofs.Blank.{nothing}
use Rattle.history.proofs.Happening.{story}
use Rattle.history.proofs.SmallMaking.{c9}
use Rattle.history.proofs.SmallRules.{keeps_name, small_rules}
use Rattle.history.proofs.SmallSessions.{none_forced}
use Rattle.tree_plan_steps.specs.Example.{ExampleUndoes, after_create, after_undo, items, items_back, losing, table_item, table_undo, take_plan}
use Rattle.tree_plan_steps.specs.Following.{Follows, Stands}
use Rattle.plan_steps.specs.UndoSteps.{undo_records}
use Rattle.tree_plan_steps.specs.UndoItemLaws.{last_undo}
use Rattle.tree_plan_steps.specs.Ways.{IsPath}
use Rattle.tree_plan_steps.proofs.Example.{after_slots, create, good9, good_after, made_stands}
use Rattle.tree_plan_steps.proofs.Following.{free_follows}
use Rattle.tree_plan_steps.proofs.UndoItems.{last_undo_is_newest}
use Rattle.tree_plan_steps.proofs.Undoing.{undo_follows}

-- ---- the node is lost

abbrev d1 : Cluster
d1 = record c9 { durable = 2 }

abbrev m2 : Machine
m2 = downed d1.machine 0 (0 ∷ [])

abbrev d2 : Cluster
d2 = crashed d1 m2

abbrev d3 : Cluster
d3 = cut d2

losses : (journal : List Entry) × AllHappen small c9 losing journal d3
losses = (
  _,
  (
    d1,
    _,
    (let z : c9.durable ≤ 2 = omega arith in z, let z : 2 ≤ c9.lsn = omega arith in z, refl),
    refl,
    (
      d2,
      _,
      (
        m2,
        (none_forced d1.machine (let z : d1.machine.joined ≤ 3 = omega arith in z) refl refl refl, refl, refl, refl),
        inl refl,
        refl,
      ),
      refl,
      (d3, _, (λ e. absurd (grind arith), refl), refl, (refl, refl)),
    ),
  ),
)

good3 : Refines small nothing d3
good3 =
    (story small keeps_name small_rules.by_content (content_fits small_rules) nothing losing c9 losses.0
    d3 losses.1 good9).1

taken_stands : Stands items after_create (now d3)
taken_stands = made_stands

-- ---- the making is undone

read : last_undo after_create 0 ≡ Some table_undo
unfolding number field holds_undo
read = refl

leaf_holds : HoldsLeaf (leaf_bytes table_item)
unfolding field
leaf_holds =
    let size : length (leaf_bytes table_item) ≡ 29 = refl in
    record { short_key = omega arith; long = omega (arith, size); short = omega (arith, size); flag = omega arith }

leaf_rows : HasRows (after_create catalog)
leaf_rows = record {
  kind = refl;
  items = (leaf_holds, tt);
  ascend = λ i j less within. absurd (omega arith);
}

has_key : HasKey (codes "t") (after_create catalog)
has_key = (0, refl)

leaf_way : IsPath after_create catalog (items catalog) (codes "t") (after_create catalog ∷ [])
leaf_way = record { numbers = catalog ∷ []; way = λ t. by_level t.level t.nodes t.stands; read = refl }
  where
    by_level : (level : ℕ) (nodes : List ℕ)
        → tree.Stands after_create level catalog None None (items catalog) nodes
        → Way after_create level catalog (codes "t") (catalog ∷ [])
    by_level zero nodes s = refl
    by_level (suc level) nodes s = absurd (let e : Leaf ≡ Inner = s.2.kind in cc)

pointed : Points (after_create 1) 0 no_undo (points (after_create 1) 0 no_undo ∷ [])
pointed =
    points_at (after_create 1) 0 no_undo after_slots made_stands.holds.slots.page (omega arith)
    (omega arith) (omega arith)

may3 : MayUndo d3 0 1
may3 = record { quiet = λ u. refl; alive = λ e. absurd (grind arith); ending = refl; slot = refl }

undo : Follows small (event.undoes 0) d3 items_back after_create after_undo
undo =
    undo_follows small nothing d3 items after_create 4 0 1 table_undo (after_create catalog ∷ [])
    take_plan good3 taken_stands may3
    (record {
      last = read;
      spelt = tt;
      path_is = leaf_way;
      back = record {
        takes = refl;
        carries = remove_carries (after_create catalog ∷ []) (codes "t") leaf_rows has_key;
      };
      pointed = pointed;
    })

-- ---- and the slot is freed

good4 : Refines small nothing undo.after
good4 =
    (story small keeps_name small_rules.by_content (content_fits small_rules) nothing
    (event.undoes 0 ∷ []) d3 _ undo.after (undo.after, _, undo.happens, refl, (refl, refl)) good3).1

may4 : MayUndo undo.after 0 1
may4 =
    subst (λ (d : Cluster). MayUndo d 0 1) (sym undo.happens.5)
    (record {
      quiet = λ u. by_test (nat_eq u 0);
      alive = λ e. absurd (grind arith);
      ending = refl;
      slot = refl;
    })
  where
    by_test : (b : Bool) → (if b then cluster.ended else cluster.ended).job ≡ false
    by_test true = refl
    by_test false = refl

undo_slots : IsImage (after_undo 1)
undo_slots =
    good_after (undo_records after_create 0 take_plan.records table_undo) 4
    (after_create 1) (omega arith) (omega arith) after_slots (omega arith)
    (λ e. absurd (omega (arith, e)), ((pointed.runs.applies 4).0.0, tt))

no_more : (slot_of (after_undo 1) 0).last.page ≡ 0
unfolding number field
no_more = refl

freeing : Frees (after_undo 1) 0 (free_records (after_undo 1) 0)
freeing = frees (after_undo 1) 0 undo_slots undo.stands.holds.slots.page (omega arith)

pub example_undoes : ExampleUndoes create.after
example_undoes = record {
  journal = losses.0;
  taken = d3;
  losses = losses.1;
  read = read;
  last = last_undo_is_newest items after_create (now d3) 0 1 table_undo taken_stands.holds refl read;
  undo = undo;
  free =
      free_follows small nothing undo.after items_back after_undo 5 0 1 (free_records (after_undo 1) 0)
      good4 undo.stands may4 no_more freeing;
}
