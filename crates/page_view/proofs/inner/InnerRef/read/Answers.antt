use Rattle.std.proofs.Common.{rules}
use Rattle.page_view.proofs.InnerLaws.{inner_reads, no_inner}
use Rattle.page_view.proofs.inner.InnerRef.read.Goals as goal

pub returns-then-holds_inner : goal.returns-then-holds_inner
returns-then-holds_inner c = inner_reads c.args.item.now (λ k. (c.type_inv.item k).fits) (search rules)

pub returns-else-holds_inner : goal.returns-else-holds_inner
returns-else-holds_inner c = no_inner c.args.item.now (search rules)
