use Rattle.std.proofs.Common.{Bool, refl, ap, ◌∙◌}
use Rattle.node_model.specs.Node.{Node}
use Rattle.node_model.specs.Learning.{stands, after_write}
use Rattle.coherent_pool.specs.Node.{PageState, state_at}
use Rattle.coherent_pool.specs.Changing.{written_at}
use Rattle.coherent_pool.proofs.Moves.{keeps_by}
use Rattle.coherent_pool.proofs.PlanPages.{is_write, changes_by, copy_written, written_keeps}
use Rattle.coherent_pool.proofs.Steps.{kept_at, others_at, node_here}
use Rattle.coherent_pool.proofs.node.PoolNode.wrote_copy.Goals as goal

pub returns-clause-here : goal.returns-clause-here
returns-clause-here c =
    let N = c.args.self.now in
    let p = c.args.page in
    let F : Bool → PageState → PageState = λ b. written_at in
    λ call. node_here p (F N.writer (state_at N p)) N c.set_stage.new.self call c.set_stage.ensures
    ∙ changes_by F (λ (M : Node). stands M (after_write M.step)) is_write call call (copy_written call) refl N.up N.writer (state_at N p) (c.requires.rules p) (ap is_write c.requires.writes)

pub returns-clause-others : goal.returns-clause-others
returns-clause-others c =
    let N = c.args.self.now in
    let p = c.args.page in
    let F : Bool → PageState → PageState = λ b. written_at in
    others_at p (F N.writer (state_at N p)) N c.set_stage.new.self c.set_stage.ensures

pub returns-clause-kept : goal.returns-clause-kept
returns-clause-kept c =
    let N = c.args.self.now in
    let p = c.args.page in
    let F : Bool → PageState → PageState = λ b. written_at in
    kept_at p (F N.writer (state_at N p)) N c.set_stage.new.self c.set_stage.ensures c.requires.rules
    (keeps_by F is_write written_keeps refl N.writer (state_at N p) (c.requires.rules p) (ap is_write c.requires.writes))
