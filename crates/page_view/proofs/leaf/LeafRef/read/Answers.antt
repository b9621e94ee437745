use Rattle.std.proofs.Common.{rules}
use Rattle.page_view.proofs.LeafLaws.{leaf_reads, no_leaf}
use Rattle.page_view.proofs.leaf.LeafRef.read.Goals as goal

pub returns-then-holds_leaf : goal.returns-then-holds_leaf
returns-then-holds_leaf c = leaf_reads c.args.item.now (λ k. (c.type_inv.item k).fits) (search rules)

pub returns-else-holds_leaf : goal.returns-else-holds_leaf
returns-else-holds_leaf c = no_leaf c.args.item.now (search rules)
