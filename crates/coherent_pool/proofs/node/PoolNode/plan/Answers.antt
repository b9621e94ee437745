use Rattle.std.proofs.Common.{◌∙◌}
use Rattle.coherent_pool.specs.Node.{state_at}
use Rattle.coherent_pool.specs.Changing.{planned_at}
use Rattle.coherent_pool.proofs.Answering.{none_of, few_pins}
use Rattle.coherent_pool.proofs.PlanPages.{plans_at, planned_keeps}
use Rattle.coherent_pool.proofs.Steps.{kept_at, others_at, node_here}
use Rattle.coherent_pool.proofs.node.PoolNode.plan.Goals as goal

pub begin_page-requires : goal.begin_page-requires
begin_page-requires c =
    let S = state_at c.args.self.now c.args.page in
    let free = none_of S.work c.requires.free in
    record { free = free; few = few_pins c.args.self.now.writer S (c.requires.rules c.args.page) free }

pub returns-clause-here : goal.returns-clause-here
returns-clause-here c =
    let N = c.args.self.now in
    let p = c.args.page in
    let S = state_at N p in
    λ call. node_here p (planned_at N.writer p S) N c.begin_page.new.self call c.in_ok-begin_page.ensures.ok ∙ plans_at p N.up N.writer S call (none_of S.work c.requires.free)

pub returns-clause-others : goal.returns-clause-others
returns-clause-others c =
    let N = c.args.self.now in
    let p = c.args.page in
    others_at p (planned_at N.writer p (state_at N p)) N c.begin_page.new.self c.in_ok-begin_page.ensures.ok

pub returns-clause-kept : goal.returns-clause-kept
returns-clause-kept c =
    let N = c.args.self.now in
    let p = c.args.page in
    let S = state_at N p in
    kept_at p (planned_at N.writer p S) N c.begin_page.new.self c.in_ok-begin_page.ensures.ok c.requires.rules
    (planned_keeps p N.writer S (c.requires.rules p) (none_of S.work c.requires.free) c.requires.copy)
