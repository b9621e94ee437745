use Rattle.std.proofs.Common.{Bool, refl, true}
use Rattle.fetch_steps.specs.declared.acts.Told.TheVariants.{Cleaned}
use Rattle.coherent_pool.specs.Node.{PageState, state_at}
use Rattle.coherent_pool.specs.Hearing.{cleans_slot}
use Rattle.coherent_pool.specs.Changing.{told_at}
use Rattle.coherent_pool.proofs.Moves.{moves_by, keeps_by, clean_moves, clean_keeps}
use Rattle.coherent_pool.proofs.Steps.{kept_at, hears_at, others_at}
use Rattle.coherent_pool.proofs.node.PoolNode.cleaned.Goals as goal

pub returns-clause-here : goal.returns-clause-here
returns-clause-here c =
    let N = c.args.self.now in
    let p = c.args.page in
    let F : Bool → PageState → PageState = λ b. told_at (Cleaned true) in
    λ v. hears_at p (F N.writer (state_at N p)) N c.tell.new.self (Cleaned true) v c.tell.ensures
    (λ r n call e q. moves_by F (Cleaned true) v cleans_slot (clean_moves v) refl r n N.up N.writer (state_at N p) call e q (c.requires.rules p) c.requires.cleans)

pub returns-clause-others : goal.returns-clause-others
returns-clause-others c =
    let N = c.args.self.now in
    let p = c.args.page in
    let F : Bool → PageState → PageState = λ b. told_at (Cleaned true) in
    others_at p (F N.writer (state_at N p)) N c.tell.new.self c.tell.ensures

pub returns-clause-kept : goal.returns-clause-kept
returns-clause-kept c =
    let N = c.args.self.now in
    let p = c.args.page in
    let F : Bool → PageState → PageState = λ b. told_at (Cleaned true) in
    kept_at p (F N.writer (state_at N p)) N c.tell.new.self c.tell.ensures c.requires.rules
    (keeps_by F cleans_slot (clean_keeps) refl N.writer (state_at N p) (c.requires.rules p) c.requires.cleans)
