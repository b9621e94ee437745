use Rattle.std.proofs.Common.{true}
use Rattle.coherent_pool.specs.Node.{state_at}
use Rattle.coherent_pool.specs.Changing.{with_bit}
use Rattle.coherent_pool.proofs.Quitting.{stale_keeps}
use Rattle.coherent_pool.proofs.Steps.{kept_at, others_at, node_here}
use Rattle.coherent_pool.proofs.node.PoolNode.make_stale.Goals as goal

pub returns-clause-here : goal.returns-clause-here
returns-clause-here c =
    let N = c.args.self.now in
    let p = c.args.page in
    λ call. node_here p (with_bit (state_at N p) true) N c.set_bit.new.self call c.set_bit.ensures

pub returns-clause-others : goal.returns-clause-others
returns-clause-others c =
    let N = c.args.self.now in
    let p = c.args.page in
    others_at p (with_bit (state_at N p) true) N c.set_bit.new.self c.set_bit.ensures

pub returns-clause-kept : goal.returns-clause-kept
returns-clause-kept c =
    let N = c.args.self.now in
    let p = c.args.page in
    let S = state_at N p in
    kept_at p (with_bit S true) N c.set_bit.new.self c.set_bit.ensures c.requires (stale_keeps N.writer S (c.requires p))
