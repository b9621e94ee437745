use Rattle.std.proofs.Common.{Bool, refl, Err}
use Rattle.fetch_steps.specs.declared.acts.Told.TheVariants.{Slab}
use Rattle.coherent_pool.specs.Node.{PageState, state_at}
use Rattle.coherent_pool.specs.Hearing.{meets_slab}
use Rattle.coherent_pool.specs.Changing.{lost_at}
use Rattle.coherent_pool.proofs.Moves.{moves_by, keeps_by, lose_moves, lose_keeps}
use Rattle.coherent_pool.proofs.Steps.{kept_at, hears_at, others_at}
use Rattle.coherent_pool.proofs.node.PoolNode.slab_lost.Goals as goal

pub returns-clause-here : goal.returns-clause-here
returns-clause-here c =
    let N = c.args.self.now in
    let p = c.args.page in
    let F : Bool → PageState → PageState = λ b. lost_at (Slab (Err c.args.why)) in
    λ v. hears_at p (F N.writer (state_at N p)) N c.lose.new.self (Slab (Err c.args.why)) v c.lose.ensures
    (λ r n call e q. moves_by F (Slab (Err c.args.why)) v meets_slab (lose_moves c.args.why v) refl r n N.up N.writer (state_at N p) call e q (c.requires.rules p) c.requires.meets)

pub returns-clause-others : goal.returns-clause-others
returns-clause-others c =
    let N = c.args.self.now in
    let p = c.args.page in
    let F : Bool → PageState → PageState = λ b. lost_at (Slab (Err c.args.why)) in
    others_at p (F N.writer (state_at N p)) N c.lose.new.self c.lose.ensures

pub returns-clause-kept : goal.returns-clause-kept
returns-clause-kept c =
    let N = c.args.self.now in
    let p = c.args.page in
    let F : Bool → PageState → PageState = λ b. lost_at (Slab (Err c.args.why)) in
    kept_at p (F N.writer (state_at N p)) N c.lose.new.self c.lose.ensures c.requires.rules
    (keeps_by F meets_slab (lose_keeps c.args.why) refl N.writer (state_at N p) (c.requires.rules p) c.requires.meets)
