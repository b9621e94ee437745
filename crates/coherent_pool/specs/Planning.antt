-- Stated: what the law's node becomes as the node goes on with a page of a plan.
use Rattle.std.specs.Prelude.{◌≡◌, ℕ, Bool, true, false}
use Rattle.node_model.specs.Step.{Step}
use Rattle.node_model.specs.Call.{Call, Call.Quiet, Call.ToldDone, Call.ToldStarted}
use Rattle.node_model.specs.Node.{Node}
use Rattle.node_model.specs.Learning.{answered}
use Rattle.coherent_pool.specs.declared.node.PoolNode.{PoolNode}
use Rattle.coherent_pool.specs.Node.{node_at}

-- the node's part of page p becomes this, whatever call is unanswered
abbrev pub Becomes : ℕ → (Node → Node) → PoolNode → PoolNode → Type 0
Becomes p f before now = (call : Call) → node_at now p call ≡ f (node_at before p call)

-- the answer to the node's call about page p is accepted: where n is the node and r the RW
abbrev pub Answered : ℕ → Call → PoolNode → PoolNode → Type 0
Answered p call before now = (r n : ℕ) → node_at now p Quiet ≡ answered r n (node_at before p call)

-- what the home answered to the invalidate: that it is done, or that local bits are still to be set
abbrev pub done_call : Bool → Call
done_call true = ToldDone
done_call false = ToldStarted

-- the home's answer to the invalidate is taken
abbrev pub takes_done : Step → Bool
takes_done Step.PlanInvalidate = true
takes_done Step.GivenUp = true
takes_done step = false
