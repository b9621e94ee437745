use Rattle.std.proofs.Common.{Bool, refl}
use Rattle.page_latches.specs.declared.latch.Latch.TheVariants.{Granted}
use Rattle.node_model.specs.Step.{wants_x}
use Rattle.fetch_steps.specs.declared.acts.Told.TheVariants.{Latch as Tried}
use Rattle.coherent_pool.specs.Node.{PageState, state_at}
use Rattle.coherent_pool.specs.Changing.{excluded}
use Rattle.coherent_pool.proofs.Moves.{moves_by, keeps_by, exclude_moves, exclude_keeps}
use Rattle.coherent_pool.proofs.Steps.{kept_at, hears_at, others_at}
use Rattle.coherent_pool.proofs.node.PoolNode.granted_x.Goals as goal

pub returns-clause-here : goal.returns-clause-here
returns-clause-here c =
    let N = c.args.self.now in
    let p = c.args.page in
    let F : Bool → PageState → PageState = λ b. excluded in
    λ v. hears_at p (F N.writer (state_at N p)) N c.exclude.new.self (Tried Granted) v c.exclude.ensures
    (λ r n call e q. moves_by F (Tried Granted) v wants_x (exclude_moves v) refl r n N.up N.writer (state_at N p) call e q (c.requires.rules p) c.requires.tries)

pub returns-clause-others : goal.returns-clause-others
returns-clause-others c =
    let N = c.args.self.now in
    let p = c.args.page in
    let F : Bool → PageState → PageState = λ b. excluded in
    others_at p (F N.writer (state_at N p)) N c.exclude.new.self c.exclude.ensures

pub returns-clause-kept : goal.returns-clause-kept
returns-clause-kept c =
    let N = c.args.self.now in
    let p = c.args.page in
    let F : Bool → PageState → PageState = λ b. excluded in
    kept_at p (F N.writer (state_at N p)) N c.exclude.new.self c.exclude.ensures c.requires.rules
    (keeps_by F wants_x (exclude_keeps) refl N.writer (state_at N p) (c.requires.rules p) c.requires.tries)
