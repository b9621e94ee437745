use Rattle.std.proofs.Common.{false, ap}
use Rattle.coherent_pool.specs.Node.{PageState, node_of}
use Rattle.coherent_pool.proofs.Steps.{new_agrees}
use Rattle.coherent_pool.proofs.node.PoolNode.crash.Goals as goal

pub returns-clause-node : goal.returns-clause-node
returns-clause-node c = λ p call. ap (λ (S : PageState). node_of false S call) (c.forget_all.ensures.state p)

pub returns-clause-kept : goal.returns-clause-kept
returns-clause-kept c = λ p. new_agrees c.forget_all.new.self.writer _ (c.forget_all.ensures.state p)
