use Rattle.std.proofs.Common.{Bool, refl, ◌∙◌}
use Rattle.node_model.specs.Learning.{after_plan_down}
use Rattle.coherent_pool.specs.Node.{PageState, state_at, step_at_page}
use Rattle.coherent_pool.specs.Changing.{unslotted}
use Rattle.coherent_pool.proofs.Moves.{keeps_by}
use Rattle.coherent_pool.proofs.PlanPages.{meets_slot, meets_either, changes_by, copy_lost, lost_keeps}
use Rattle.coherent_pool.proofs.Steps.{kept_at, others_at, node_here}
use Rattle.coherent_pool.proofs.node.PoolNode.copy_slab_lost.Goals as goal

pub returns-clause-here : goal.returns-clause-here
returns-clause-here c =
    let N = c.args.self.now in
    let p = c.args.page in
    let F : Bool → PageState → PageState = unslotted c.args.page in
    λ call. node_here p (F N.writer (state_at N p)) N c.lose_copy.new.self call c.lose_copy.ensures
    ∙ changes_by F after_plan_down meets_slot call call (copy_lost p call) refl N.up N.writer (state_at N p) (c.requires.rules p) (meets_either (step_at_page N p) c.requires.meets)

pub returns-clause-others : goal.returns-clause-others
returns-clause-others c =
    let N = c.args.self.now in
    let p = c.args.page in
    let F : Bool → PageState → PageState = unslotted c.args.page in
    others_at p (F N.writer (state_at N p)) N c.lose_copy.new.self c.lose_copy.ensures

pub returns-clause-kept : goal.returns-clause-kept
returns-clause-kept c =
    let N = c.args.self.now in
    let p = c.args.page in
    let F : Bool → PageState → PageState = unslotted c.args.page in
    kept_at p (F N.writer (state_at N p)) N c.lose_copy.new.self c.lose_copy.ensures c.requires.rules
    (keeps_by F meets_slot (lost_keeps p) refl N.writer (state_at N p) (c.requires.rules p) (meets_either (step_at_page N p) c.requires.meets))
