use Rattle.bplus_tree.proofs.Readable.{leaf_not_there}
use Rattle.row_edits.proofs.leaf_items.item_in.Goals as goal

pub unwrap-requires : goal.unwrap-requires
unwrap-requires c = leaf_not_there c.args.bytes.now c.read.result (λ k. (c.type_inv.bytes k).fits) c.read.ensures c.requires
