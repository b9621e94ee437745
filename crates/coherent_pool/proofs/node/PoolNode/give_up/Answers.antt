use Rattle.std.proofs.Common.{◌∙◌}
use Rattle.coherent_pool.specs.Node.{state_at}
use Rattle.coherent_pool.specs.Changing.{gave_up}
use Rattle.coherent_pool.proofs.Quitting.{quits_at, quits_keeps}
use Rattle.coherent_pool.proofs.Steps.{kept_at, others_at, node_here}
use Rattle.coherent_pool.proofs.node.PoolNode.give_up.Goals as goal

pub returns-clause-here : goal.returns-clause-here
returns-clause-here c =
    let N = c.args.self.now in
    let p = c.args.page in
    let S = state_at N p in
    λ call q. node_here p (gave_up c.args.waits N.writer S) N c.leave.new.self call c.leave.ensures ∙ quits_at c.args.waits N.up N.writer S call q (c.requires.rules p) c.requires.under_way

pub returns-clause-others : goal.returns-clause-others
returns-clause-others c =
    let N = c.args.self.now in
    let p = c.args.page in
    others_at p (gave_up c.args.waits N.writer (state_at N p)) N c.leave.new.self c.leave.ensures

pub returns-clause-kept : goal.returns-clause-kept
returns-clause-kept c =
    let N = c.args.self.now in
    let p = c.args.page in
    let S = state_at N p in
    kept_at p (gave_up c.args.waits N.writer S) N c.leave.new.self c.leave.ensures c.requires.rules (quits_keeps c.args.waits N.writer S (c.requires.rules p) c.requires.under_way)
