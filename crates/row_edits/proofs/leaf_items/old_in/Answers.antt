use Rattle.row_edits.proofs.LeafLaws.{no_old}
use Rattle.row_edits.proofs.leaf_items.old_in.Goals as goal

pub returns-in-Err-clause-is : goal.returns-in-Err-clause-is
returns-in-Err-clause-is c = no_old c.args.leaf.now c.args.key.now _ c.in-Err.ensures.1 c.in-Err.ensures.2
