use Rattle.page_view.specs.Leaf.{leaf_bytes}
use Rattle.page_store.specs.Stored.{pages_of}
use Rattle.tree_change.specs.Effects.{with_item}
use Rattle.tree_change.proofs.AnswerLaws.{on_ok}
use Rattle.tree_store.proofs.ForestLaws.{way_to}
use Rattle.tree_store.proofs.ChangeLaws.{carried_applies, ran_carried}
use Rattle.tree_store.proofs.changing.put_on.Goals as goal

pub plan_put-requires-clause-way : goal.plan_put-requires-clause-way
plan_put-requires-clause-way c =
    let f = c.requires.forest in
    way_to (pages_of c.args.store.now) f.0 f.1 f.2 c.args.root f.3 c.args.item.now.key c.args.path.now c.requires.room.way

pub run_plan-requires-clause-apply : goal.run_plan-requires-clause-apply
run_plan-requires-clause-apply c =
    let f = c.requires.forest in
    carried_applies c.args.store.now f.0 f.1 f.2 c.args.root f.3 c.args.item.now.key c.args.path.now c.requires.room.way c.in_ok-plan.plan
    (with_item c.args.item.now.key (leaf_bytes c.args.item.now)) c.in_ok-plan.ensures.carries

pub returns-clause-ok : goal.returns-clause-ok
returns-clause-ok c roots items f k =
    on_ok _ _ c.run_plan.result c.run_plan.ensures.ok
    (ran_carried c.args.store.now c.run_plan.new.store roots items f c.args.root k c.args.item.now.key c.args.path.now c.requires.room.way c.in_ok-plan.plan
    (with_item c.args.item.now.key (leaf_bytes c.args.item.now)) c.in_ok-plan.ensures.carries)
