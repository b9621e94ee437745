use Rattle.std.proofs.Common.{Bool, refl}
use Rattle.page_latches.specs.declared.latch.Latch.TheVariants.{Granted}
use Rattle.node_model.specs.Step.{wants_s}
use Rattle.fetch_steps.specs.declared.acts.Told.TheVariants.{Latch as Tried}
use Rattle.coherent_pool.specs.Node.{PageState, state_at}
use Rattle.coherent_pool.specs.Changing.{shared}
use Rattle.coherent_pool.proofs.Moves.{moves_by, keeps_by, share_moves, share_keeps}
use Rattle.coherent_pool.proofs.Steps.{kept_at, hears_at, others_at}
use Rattle.coherent_pool.proofs.node.PoolNode.granted_s.Goals as goal

pub returns-clause-here : goal.returns-clause-here
returns-clause-here c =
    let N = c.args.self.now in
    let p = c.args.page in
    let F : Bool → PageState → PageState = λ b. shared in
    λ v. hears_at p (F N.writer (state_at N p)) N c.share.new.self (Tried Granted) v c.in_ok-share.ensures.ok
    (λ r n call e q. moves_by F (Tried Granted) v wants_s (share_moves v) refl r n N.up N.writer (state_at N p) call e q (c.requires.rules p) c.requires.tries)

pub returns-clause-others : goal.returns-clause-others
returns-clause-others c =
    let N = c.args.self.now in
    let p = c.args.page in
    let F : Bool → PageState → PageState = λ b. shared in
    others_at p (F N.writer (state_at N p)) N c.share.new.self c.in_ok-share.ensures.ok

pub returns-clause-kept : goal.returns-clause-kept
returns-clause-kept c =
    let N = c.args.self.now in
    let p = c.args.page in
    let F : Bool → PageState → PageState = λ b. shared in
    kept_at p (F N.writer (state_at N p)) N c.share.new.self c.in_ok-share.ensures.ok c.requires.rules
    (keeps_by F wants_s (share_keeps) refl N.writer (state_at N p) (c.requires.rules p) c.requires.tries)
