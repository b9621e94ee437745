use Rattle.std.proofs.Common.{Bool, refl, ◌∙◌}
use Rattle.node_model.specs.Call.{Call}
use Rattle.coherent_pool.specs.Node.{PageState, state_at}
use Rattle.coherent_pool.specs.Planning.{done_call, takes_done}
use Rattle.coherent_pool.specs.Changing.{invalidated_at}
use Rattle.coherent_pool.proofs.Answering.{answers_by, answer_keeps_by}
use Rattle.coherent_pool.proofs.PlanPages.{invalidate_moves, invalidate_keeps}
use Rattle.coherent_pool.proofs.Steps.{kept_at, others_at, node_here}
use Rattle.coherent_pool.proofs.node.PoolNode.invalidated.Goals as goal

pub returns-clause-here : goal.returns-clause-here
returns-clause-here c =
    let N = c.args.self.now in
    let p = c.args.page in
    let S = state_at N p in
    let F : Bool → PageState → PageState = λ b. invalidated_at c.args.done in
    λ r n e. node_here p (F N.writer S) N c.take_done.new.self Call.Quiet c.take_done.ensures ∙ answers_by F (done_call c.args.done) takes_done (invalidate_moves c.args.done) refl r n N.up N.writer S e (c.requires.rules p) c.requires.waits

pub returns-clause-others : goal.returns-clause-others
returns-clause-others c =
    let N = c.args.self.now in
    let p = c.args.page in
    others_at p (invalidated_at c.args.done (state_at N p)) N c.take_done.new.self c.take_done.ensures

pub returns-clause-kept : goal.returns-clause-kept
returns-clause-kept c =
    let N = c.args.self.now in
    let p = c.args.page in
    let S = state_at N p in
    let F : Bool → PageState → PageState = λ b. invalidated_at c.args.done in
    kept_at p (F N.writer S) N c.take_done.new.self c.take_done.ensures c.requires.rules (answer_keeps_by F (done_call c.args.done) takes_done (invalidate_keeps c.args.done) refl N.writer S (c.requires.rules p) c.requires.waits)
