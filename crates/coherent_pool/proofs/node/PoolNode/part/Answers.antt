use Rattle.std.proofs.Common.{◌∙◌}
use Rattle.node_model.specs.Call.{Call}
use Rattle.coherent_pool.specs.Node.{state_at}
use Rattle.coherent_pool.specs.Changing.{parted_at}
use Rattle.coherent_pool.proofs.Answering.{none_of}
use Rattle.coherent_pool.proofs.Quitting.{parts_at, parted_keeps}
use Rattle.coherent_pool.proofs.Steps.{kept_at, others_at, node_here}
use Rattle.coherent_pool.proofs.node.PoolNode.part.Goals as goal

pub returns-clause-here : goal.returns-clause-here
returns-clause-here c =
    let N = c.args.self.now in
    let p = c.args.page in
    let S = state_at N p in
    λ call. node_here p (parted_at S) N c.forget_page.new.self Call.AskUnregister c.forget_page.ensures ∙ parts_at N.up S call (none_of S.work c.requires.free)

pub returns-clause-others : goal.returns-clause-others
returns-clause-others c =
    let N = c.args.self.now in
    let p = c.args.page in
    others_at p (parted_at (state_at N p)) N c.forget_page.new.self c.forget_page.ensures

pub returns-clause-kept : goal.returns-clause-kept
returns-clause-kept c =
    let N = c.args.self.now in
    let p = c.args.page in
    let S = state_at N p in
    kept_at p (parted_at S) N c.forget_page.new.self c.forget_page.ensures c.requires.rules (parted_keeps N.writer S (c.requires.rules p) (none_of S.work c.requires.free))
