use Rattle.std.proofs.Common.{Bool, ap, ◌∙◌}
use Rattle.coherent_pool.specs.Node.{PageState, state_at, no_state, node_of}
use Rattle.coherent_pool.proofs.Steps.{new_agrees}
use Rattle.coherent_pool.proofs.node.PoolNode.new.Goals as goal

pub returns-clause-state : goal.returns-clause-state
returns-clause-state c =
    let N = c.in_ok-node.node in
    λ p call. ap (λ (S : PageState). node_of N.up S call) (c.in_ok-node.ensures.state p) ∙ ap (λ (up : Bool). node_of up no_state call) c.in_ok-node.ensures.kind.0

pub returns-clause-rules : goal.returns-clause-rules
returns-clause-rules c = λ p. new_agrees c.in_ok-node.node.writer (state_at c.in_ok-node.node p) (c.in_ok-node.ensures.state p)
