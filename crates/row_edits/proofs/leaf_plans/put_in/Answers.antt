use Rattle.std.proofs.Common.{sym, subst}
use Rattle.tree_change.specs.Pages.{HasRows}
use Rattle.tree_change.specs.Places.{leaf_on}
use Rattle.tree_change.proofs.WayLaws.{leaf_rows}
use Rattle.row_edits.proofs.LeafLaws.{put_inserts, put_updates}
use Rattle.row_edits.proofs.leaf_plans.put_in.Goals as goal

pub find-requires : goal.find-requires
find-requires c = subst HasRows (sym c.leaf_of-leaf.ensures) (leaf_rows c.args.item.now.key c.args.path.now c.requires.way)

pub returns-in-Ok-clause-plan : goal.returns-in-Ok-clause-plan
returns-in-Ok-clause-plan c =
    put_updates (leaf_on c.args.path.now) c.leaf_of-leaf.result.now c.args.item.now c.as_slice.result.now c.in-Ok.field-0 c.plan_update.result
    c.plan_update.ensures.plan (leaf_rows c.args.item.now.key c.args.path.now c.requires.way) c.leaf_of-leaf.ensures c.as_slice.ensures c.in-Ok.ensures

pub returns-in-Err-clause-plan : goal.returns-in-Err-clause-plan
returns-in-Err-clause-plan c =
    put_inserts (leaf_on c.args.path.now) c.leaf_of-leaf.result.now c.args.item.now c.as_slice.result.now c.in-Err.field-0 c.plan_insert.result
    c.plan_insert.ensures.plan c.leaf_of-leaf.ensures c.as_slice.ensures c.in-Err.ensures.1 c.in-Err.ensures.2
