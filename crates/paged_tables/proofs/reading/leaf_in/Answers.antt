use Rattle.paged_tables.proofs.ReadLaws.{leaf_read}
use Rattle.paged_tables.proofs.reading.leaf_in.Goals as goal

pub returns-clause-there : goal.returns-clause-there
returns-clause-there c = leaf_read c.args.item.now c.read.result (λ k. (c.type_inv.item k).fits) c.requires c.read.ensures
