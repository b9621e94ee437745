use Rattle.std.proofs.Common.{Bool, refl, ap, ◌∙◌}
use Rattle.node_model.specs.Call.{Call}
use Rattle.node_model.specs.Node.{Node}
use Rattle.node_model.specs.Learning.{answered}
use Rattle.fetch_steps.specs.Fetch.{number_of}
use Rattle.coherent_pool.specs.Node.{PageState, state_at}
use Rattle.coherent_pool.specs.Changing.{entered_at}
use Rattle.coherent_pool.proofs.Moves.{keeps_by}
use Rattle.coherent_pool.proofs.PlanPages.{is_again, changes_by, entered_moves, entered_keeps}
use Rattle.coherent_pool.proofs.Steps.{kept_at, others_at, node_here}
use Rattle.coherent_pool.proofs.node.PoolNode.registered_again.Goals as goal

pub returns-clause-here : goal.returns-clause-here
returns-clause-here c =
    let N = c.args.self.now in
    let p = c.args.page in
    let F : Bool → PageState → PageState = entered_at c.args.page c.args.addr in
    λ r n. node_here p (F N.writer (state_at N p)) N c.enter_again.new.self Call.Quiet c.enter_again.ensures
    ∙ changes_by F (λ (M : Node). answered r n M) is_again (Call.ToldRegistered (number_of c.args.addr)) Call.Quiet (entered_moves p c.args.addr r n) refl N.up N.writer (state_at N p) (c.requires.rules p) (ap is_again c.requires.waits)

pub returns-clause-others : goal.returns-clause-others
returns-clause-others c =
    let N = c.args.self.now in
    let p = c.args.page in
    let F : Bool → PageState → PageState = entered_at c.args.page c.args.addr in
    others_at p (F N.writer (state_at N p)) N c.enter_again.new.self c.enter_again.ensures

pub returns-clause-kept : goal.returns-clause-kept
returns-clause-kept c =
    let N = c.args.self.now in
    let p = c.args.page in
    let F : Bool → PageState → PageState = entered_at c.args.page c.args.addr in
    kept_at p (F N.writer (state_at N p)) N c.enter_again.new.self c.enter_again.ensures c.requires.rules
    (keeps_by F is_again (entered_keeps p c.args.addr) refl N.writer (state_at N p) (c.requires.rules p) (ap is_again c.requires.waits))
