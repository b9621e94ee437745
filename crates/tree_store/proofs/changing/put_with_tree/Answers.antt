use Rattle.std.proofs.Common.{subst}
use Rattle.page_image.specs.Image.{Image}
use Rattle.page_view.specs.Leaf.{leaf_bytes}
use Rattle.page_store.specs.Stored.{pages_of}
use Rattle.tree_change.specs.Effects.{with_item, Begins}
use Rattle.tree_change.proofs.AnswerLaws.{on_ok}
use Rattle.tree_store.proofs.ForestLaws.{way_to}
use Rattle.tree_store.proofs.ChangeLaws.{begun_applies, ran_begun}
use Rattle.tree_store.proofs.changing.put_with_tree.Goals as goal

pub plan_with_root-requires-clause-way : goal.plan_with_root-requires-clause-way
plan_with_root-requires-clause-way c =
    let f = c.requires.forest in
    way_to (pages_of c.args.store.now) f.0 f.1 f.2 c.args.root f.3 c.args.item.now.key c.args.path.now c.requires.room.way

pub run_plan-requires-clause-apply : goal.run_plan-requires-clause-apply
run_plan-requires-clause-apply c =
    let f = c.requires.forest in
    let key = c.args.item.now.key in
    let path = c.args.path.now in
    let change = with_item key (leaf_bytes c.args.item.now) in
    let begins : Begins key path (pages_of c.args.store.now 0) c.in_ok-plan.plan change =
    subst (λ (m : Image). Begins key path m c.in_ok-plan.plan change) c.meta_page.ensures c.in_ok-plan.ensures.begins in
    begun_applies c.args.store.now f.0 f.1 f.2 c.args.root f.3 key path c.requires.room.way c.in_ok-plan.plan change begins

pub returns-clause-ok : goal.returns-clause-ok
returns-clause-ok c roots items f k =
    let key = c.args.item.now.key in
    let path = c.args.path.now in
    let change = with_item key (leaf_bytes c.args.item.now) in
    let begins : Begins key path (pages_of c.args.store.now 0) c.in_ok-plan.plan change =
    subst (λ (m : Image). Begins key path m c.in_ok-plan.plan change) c.meta_page.ensures c.in_ok-plan.ensures.begins in
    on_ok _ _ c.run_plan.result c.run_plan.ensures.ok
    (ran_begun c.args.store.now c.run_plan.new.store roots items f c.args.root k key path c.requires.room.way c.in_ok-plan.plan change begins)
