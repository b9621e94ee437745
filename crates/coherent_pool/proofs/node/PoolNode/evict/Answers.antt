use Rattle.std.proofs.Common.{◌∙◌}
use Rattle.coherent_pool.specs.Node.{state_at}
use Rattle.coherent_pool.specs.Changing.{evicted_at}
use Rattle.coherent_pool.proofs.Answering.{none_of}
use Rattle.coherent_pool.proofs.Quitting.{evicts_at, evicted_keeps}
use Rattle.coherent_pool.proofs.Steps.{kept_at, others_at, node_here}
use Rattle.coherent_pool.proofs.node.PoolNode.evict.Goals as goal

pub returns-clause-here : goal.returns-clause-here
returns-clause-here c =
    let N = c.args.self.now in
    let p = c.args.page in
    λ call. node_here p (evicted_at (state_at N p)) N c.let_leave.new.self call c.let_leave.ensures ∙ evicts_at N.up (state_at N p) call

pub returns-clause-others : goal.returns-clause-others
returns-clause-others c =
    let N = c.args.self.now in
    let p = c.args.page in
    others_at p (evicted_at (state_at N p)) N c.let_leave.new.self c.let_leave.ensures

pub returns-clause-kept : goal.returns-clause-kept
returns-clause-kept c =
    let N = c.args.self.now in
    let p = c.args.page in
    let S = state_at N p in
    kept_at p (evicted_at S) N c.let_leave.new.self c.let_leave.ensures c.requires.rules (evicted_keeps N.writer S (none_of S.work c.requires.free))
