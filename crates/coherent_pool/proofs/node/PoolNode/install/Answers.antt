use Rattle.std.proofs.Common.{Bool, refl, ap, ◌∙◌}
use Rattle.node_model.specs.Node.{Node}
use Rattle.node_model.specs.Learning.{installs}
use Rattle.coherent_pool.specs.Node.{PageState, state_at}
use Rattle.coherent_pool.specs.Changing.{installed_at}
use Rattle.coherent_pool.proofs.Moves.{keeps_by}
use Rattle.coherent_pool.proofs.PlanPages.{is_install, changes_by, install_moves, install_keeps}
use Rattle.coherent_pool.proofs.Steps.{kept_at, others_at, node_here}
use Rattle.coherent_pool.proofs.node.PoolNode.install.Goals as goal

pub returns-clause-here : goal.returns-clause-here
returns-clause-here c =
    let N = c.args.self.now in
    let p = c.args.page in
    let F : Bool → PageState → PageState = λ b. installed_at c.args.image in
    λ call. node_here p (F N.writer (state_at N p)) N c.change.new.self call c.change.ensures
    ∙ changes_by F (λ (M : Node). installs M c.args.image) is_install call call (install_moves c.args.image call) refl N.up N.writer (state_at N p) (c.requires.rules p) (ap is_install c.requires.done)

pub returns-clause-others : goal.returns-clause-others
returns-clause-others c =
    let N = c.args.self.now in
    let p = c.args.page in
    let F : Bool → PageState → PageState = λ b. installed_at c.args.image in
    others_at p (F N.writer (state_at N p)) N c.change.new.self c.change.ensures

pub returns-clause-kept : goal.returns-clause-kept
returns-clause-kept c =
    let N = c.args.self.now in
    let p = c.args.page in
    let F : Bool → PageState → PageState = λ b. installed_at c.args.image in
    kept_at p (F N.writer (state_at N p)) N c.change.new.self c.change.ensures c.requires.rules
    (keeps_by F is_install (install_keeps c.args.image) refl N.writer (state_at N p) (c.requires.rules p) (ap is_install c.requires.done))
