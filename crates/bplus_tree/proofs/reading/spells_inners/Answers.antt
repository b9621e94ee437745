use Rattle.std.proofs.Common.{rules}
use Rattle.bplus_tree.specs.Walk.{SpellsInner}
use Rattle.bplus_tree.proofs.Readable.{one_further}
use Rattle.bplus_tree.proofs.reading.spells_inners.Goals as goal

pub loop-i-preserved : goal.loop-i-preserved
loop-i-preserved c = one_further SpellsInner c.args.page.now.items c.loop-i.i c.unwrap.result.now (search rules) (search rules) (search rules)
