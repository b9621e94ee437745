use Rattle.std.proofs.Common.{refl, ◌∙◌}
use Rattle.node_model.specs.Call.{Call}
use Rattle.coherent_pool.specs.Node.{state_at}
use Rattle.coherent_pool.specs.Hearing.{takes_answer}
use Rattle.coherent_pool.specs.Changing.{settled}
use Rattle.coherent_pool.proofs.Answering.{answer_keeps_by, refusal_at, full_keeps}
use Rattle.coherent_pool.proofs.Steps.{kept_at, others_at, node_here}
use Rattle.coherent_pool.proofs.node.PoolNode.refused.Goals as goal

pub returns-clause-here : goal.returns-clause-here
returns-clause-here c =
    let N = c.args.self.now in
    let p = c.args.page in
    let S = state_at N p in
    λ call z r n e. node_here p (settled S) N c.settle.new.self Call.Quiet c.settle.ensures ∙ refusal_at call z r n N.up N.writer S e (c.requires.rules p) (c.requires.waits call z)

pub returns-clause-others : goal.returns-clause-others
returns-clause-others c =
    let N = c.args.self.now in
    let p = c.args.page in
    others_at p (settled (state_at N p)) N c.settle.new.self c.settle.ensures

pub returns-clause-kept : goal.returns-clause-kept
returns-clause-kept c =
    let N = c.args.self.now in
    let p = c.args.page in
    let S = state_at N p in
    kept_at p (settled S) N c.settle.new.self c.settle.ensures c.requires.rules
    (answer_keeps_by (λ b. settled) Call.ToldFull takes_answer full_keeps refl N.writer S (c.requires.rules p) (c.requires.waits Call.ToldFull refl))
