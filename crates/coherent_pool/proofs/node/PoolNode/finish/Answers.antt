use Rattle.std.proofs.Common.{◌∙◌}
use Rattle.coherent_pool.specs.declared.works.Stage.TheVariants.{Releasing}
use Rattle.coherent_pool.specs.Works.{staged_work}
use Rattle.coherent_pool.specs.Node.{state_at}
use Rattle.coherent_pool.specs.Changing.{with_work}
use Rattle.coherent_pool.proofs.Quitting.{finishes_at, finishes_keeps}
use Rattle.coherent_pool.proofs.Steps.{kept_at, others_at, node_here}
use Rattle.coherent_pool.proofs.node.PoolNode.finish.Goals as goal

pub returns-clause-here : goal.returns-clause-here
returns-clause-here c =
    let N = c.args.self.now in
    let p = c.args.page in
    let S = state_at N p in
    λ call q. node_here p (with_work S (staged_work Releasing S.work)) N c.set_stage.new.self call c.set_stage.ensures ∙ finishes_at N.up N.writer S call q c.requires.held

pub returns-clause-others : goal.returns-clause-others
returns-clause-others c =
    let N = c.args.self.now in
    let p = c.args.page in
    let S = state_at N p in
    others_at p (with_work S (staged_work Releasing S.work)) N c.set_stage.new.self c.set_stage.ensures

pub returns-clause-kept : goal.returns-clause-kept
returns-clause-kept c =
    let N = c.args.self.now in
    let p = c.args.page in
    let S = state_at N p in
    kept_at p (with_work S (staged_work Releasing S.work)) N c.set_stage.new.self c.set_stage.ensures c.requires.rules (finishes_keeps N.writer S (c.requires.rules p) c.requires.held)
