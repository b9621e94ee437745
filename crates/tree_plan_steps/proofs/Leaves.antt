-- For the proofs: plans of one leaf.
use Rattle.std.proofs.Common.{◌≡◌, ℕ, List, [], ◌∷◌, refl, sym, subst, arith}
use Rattle.std.specs.Prelude.{Contains}
use Rattle.page_image.specs.Image.{Image}
use Rattle.redo_record.specs.declared.plans.Plan.{Plan}
use Rattle.tree_change.specs.Effects.{Carries, TouchesOnly}
use Rattle.tree_timeline.specs.Types.{Items, Key, Pages}
use Rattle.plan_steps.specs.Parts.{ChangesLeaf}
use Rattle.tree_plan_steps.specs.Ways.{IsPath, way_in}
use Rattle.tree_plan_steps.specs.Laws.{PutChangesLeaf, RemoveChangesLeaf}

carried : (items : ℕ → Items) (pages : Pages) (lsn root leaf : ℕ) (key : Key) (path : List Image)
    (plan : Plan) (change : Items → Items) → IsPath pages root (items root) key path
    → plan.pages ≡ leaf ∷ [] → Carries key path plan change
    → ChangesLeaf items pages lsn root leaf (change (items root)) plan.records
carried items pages lsn root leaf key path plan change p one c = record {
  only = λ l im ne.
      subst (λ (named : List ℕ). TouchesOnly named plan.records) one c.only l im (ne, tt);
  node = λ tree.
      c.within (way_in pages root (items root) key path p tree) leaf
      (subst (λ (named : List ℕ). Contains named leaf) (sym one) (0, omega arith, refl));
  stands = λ tree.
      (let s = c.stands (way_in pages root (items root) key path p tree) lsn in
      (s.tree, s.nodes_are));
}

pub put_changes_leaf : PutChangesLeaf
put_changes_leaf items pages lsn root leaf item path plan p one c =
    carried items pages lsn root leaf item.key path plan _ p one c

pub remove_changes_leaf : RemoveChangesLeaf
remove_changes_leaf items pages lsn root leaf key path plan p one c =
    carried items pages lsn root leaf key path plan _ p one c
