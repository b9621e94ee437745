use Rattle.bplus_tree.proofs.Readable.{leaf_not_there}
use Rattle.range_reader.proofs.items.leaf_in.Goals as goal

pub unwrap-requires : goal.unwrap-requires
unwrap-requires c = leaf_not_there c.args.item.now c.read.result (λ k. (c.type_inv.item k).fits) c.read.ensures c.requires
