use Rattle.page_view.specs.Leaf.{leaf_of}
use Rattle.bplus_tree.specs.Walk.{in_range}
use Rattle.range_reader.proofs.ItemLaws.{one_taken}
use Rattle.range_reader.proofs.items.push_leaf.Goals as goal

pub loop-i-preserved : goal.loop-i-preserved
loop-i-preserved c =
    one_taken leaf_of (in_range c.args.range.now.low c.args.range.now.high) c.args.page.now.items c.loop-i.i c.item_at.result.now _ c.loop-i.todo.items _ c.item_at.ensures.is c.loop-i.invariant c.in_ok-push_item.ensures
