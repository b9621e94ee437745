use Rattle.std.proofs.Common.{◌≡◌, ◌≤◌, length, refl}
use Rattle.redo_record.specs.declared.plans.Plan.{Plan}
use Rattle.page_view.specs.Leaf.{leaf_bytes}
use Rattle.tree_change.specs.Places.{leaf_on}
use Rattle.tree_change.specs.Changes.{IsPut, with_root}
use Rattle.tree_change.specs.Effects.{Begins, with_item}
use Rattle.tree_change.proofs.AnswerLaws.{if_ok_is}
use Rattle.tree_change.proofs.WayLaws.{leaf_rows}
use Rattle.tree_change.proofs.BeginLaws.{begins_from, put_few}
use Rattle.tree_change.proofs.rooting.plan_with_root.Goals as goal

pub returns-clause-plan : goal.returns-clause-plan
returns-clause-plan c =
    if_ok_is (λ plan. (put : Plan) × IsPut (leaf_on c.args.path.now) c.args.item.now put × (plan ≡ with_root put c.args.meta.now)) (with_root c.in_ok-put.put c.args.meta.now) c.with_root.result
    c.with_root.ensures (c.in_ok-put.put, c.in_ok-put.ensures.plan, refl)

pub returns-clause-begins : goal.returns-clause-begins
returns-clause-begins c =
    let key = c.args.item.now.key in
    let path = c.args.path.now in
    let meta = c.args.meta.now in
    let change = with_item key (leaf_bytes c.args.item.now) in
    let put = c.in_ok-put.put in
    let few : length put.records ≤ 2 = put_few (leaf_on path) c.args.item.now put (leaf_rows key path c.requires.way) c.in_ok-put.ensures.plan in
    if_ok_is (λ plan. Begins key path meta plan change) (with_root put meta) c.with_root.result c.with_root.ensures
    (begins_from key path meta put change c.in_ok-put.ensures.carries few c.requires.meta c.keeps_rules.ensures c.requires.next)
