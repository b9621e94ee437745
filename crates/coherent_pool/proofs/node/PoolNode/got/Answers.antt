use Rattle.std.proofs.Common.{Bool, refl, ◌∙◌}
use Rattle.node_model.specs.Call.{Call}
use Rattle.coherent_pool.specs.Node.{PageState, state_at}
use Rattle.coherent_pool.specs.Hearing.{takes_image}
use Rattle.coherent_pool.specs.Changing.{got_at}
use Rattle.coherent_pool.proofs.Answering.{answers_by, answer_keeps_by, load_moves, load_keeps}
use Rattle.coherent_pool.proofs.Steps.{kept_at, others_at, node_here}
use Rattle.coherent_pool.proofs.node.PoolNode.got.Goals as goal

pub returns-clause-here : goal.returns-clause-here
returns-clause-here c =
    let N = c.args.self.now in
    let p = c.args.page in
    let S = state_at N p in
    let F : Bool → PageState → PageState = λ b. got_at c.args.image in
    λ r n e. node_here p (F N.writer S) N c.take.new.self Call.Quiet c.take.ensures ∙ answers_by F (Call.ToldImage c.args.image) takes_image (load_moves c.args.image) refl r n N.up N.writer S e (c.requires.rules p) c.requires.waits

pub returns-clause-others : goal.returns-clause-others
returns-clause-others c =
    let N = c.args.self.now in
    let p = c.args.page in
    let F : Bool → PageState → PageState = λ b. got_at c.args.image in
    others_at p (F N.writer (state_at N p)) N c.take.new.self c.take.ensures

pub returns-clause-kept : goal.returns-clause-kept
returns-clause-kept c =
    let N = c.args.self.now in
    let p = c.args.page in
    let S = state_at N p in
    let F : Bool → PageState → PageState = λ b. got_at c.args.image in
    kept_at p (F N.writer S) N c.take.new.self c.take.ensures c.requires.rules (answer_keeps_by F (Call.ToldImage c.args.image) takes_image (load_keeps c.args.image) refl N.writer S (c.requires.rules p) c.requires.waits)
