use Rattle.std.proofs.Common.{Bool, refl, ◌∙◌}
use Rattle.message_network.specs.declared.calls.Reply.TheVariants.{Registered}
use Rattle.node_model.specs.Call.{Call}
use Rattle.fetch_steps.specs.Fetch.{number_of}
use Rattle.coherent_pool.specs.Node.{PageState, state_at}
use Rattle.coherent_pool.specs.Hearing.{takes_register}
use Rattle.coherent_pool.specs.Changing.{registered_at}
use Rattle.coherent_pool.proofs.Answering.{answers_by, answer_keeps_by, register_moves, register_keeps}
use Rattle.coherent_pool.proofs.Steps.{kept_at, others_at, node_here}
use Rattle.coherent_pool.proofs.node.PoolNode.registered.Goals as goal

pub returns-clause-here : goal.returns-clause-here
returns-clause-here c =
    let N = c.args.self.now in
    let p = c.args.page in
    let S = state_at N p in
    let F : Bool → PageState → PageState = λ b. registered_at b (Registered c.args.addr c.args.bit c.args.floor) in
    λ r n e. node_here p (F N.writer S) N c.enter.new.self Call.Quiet c.enter.ensures ∙ answers_by F (Call.ToldRegistered (number_of c.args.addr)) takes_register (register_moves c.args.addr c.args.bit c.args.floor) refl r n N.up N.writer S e (c.requires.rules p) c.requires.waits

pub returns-clause-others : goal.returns-clause-others
returns-clause-others c =
    let N = c.args.self.now in
    let p = c.args.page in
    let F : Bool → PageState → PageState = λ b. registered_at b (Registered c.args.addr c.args.bit c.args.floor) in
    others_at p (F N.writer (state_at N p)) N c.enter.new.self c.enter.ensures

pub returns-clause-kept : goal.returns-clause-kept
returns-clause-kept c =
    let N = c.args.self.now in
    let p = c.args.page in
    let S = state_at N p in
    let F : Bool → PageState → PageState = λ b. registered_at b (Registered c.args.addr c.args.bit c.args.floor) in
    kept_at p (F N.writer S) N c.enter.new.self c.enter.ensures c.requires.rules (answer_keeps_by F (Call.ToldRegistered (number_of c.args.addr)) takes_register (register_keeps c.args.addr c.args.bit c.args.floor) refl N.writer S (c.requires.rules p) c.requires.waits)
