use Rattle.std.proofs.Common.{rules}
use Rattle.page_view.specs.Leaf.{HoldsLeaf}
use Rattle.bplus_tree.proofs.Readable.{one_further}
use Rattle.bplus_tree.proofs.reading.holds_leaves.Goals as goal

pub loop-i-preserved : goal.loop-i-preserved
loop-i-preserved c = one_further HoldsLeaf c.args.page.now.items c.loop-i.i c.unwrap.result.now (search rules) (search rules) (search rules)
