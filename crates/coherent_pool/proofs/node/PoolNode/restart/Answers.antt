use Rattle.std.proofs.Common.{true, ap}
use Rattle.coherent_pool.specs.Node.{PageState, node_of}
use Rattle.coherent_pool.proofs.Steps.{new_agrees}
use Rattle.coherent_pool.proofs.node.PoolNode.restart.Goals as goal

pub returns-clause-node : goal.returns-clause-node
returns-clause-node c = λ p call. ap (λ (S : PageState). node_of true S call) (c.forget_all.ensures.state p)

pub returns-clause-kept : goal.returns-clause-kept
returns-clause-kept c = λ p. new_agrees c.args.writer _ (c.forget_all.ensures.state p)
