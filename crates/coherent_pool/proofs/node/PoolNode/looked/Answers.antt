use Rattle.std.proofs.Common.{Bool, refl}
use Rattle.fetch_steps.specs.declared.acts.Told.TheVariants.{Seen as Looked}
use Rattle.coherent_pool.specs.Node.{PageState, state_at}
use Rattle.coherent_pool.specs.Hearing.{looks}
use Rattle.coherent_pool.specs.Changing.{seen_at}
use Rattle.coherent_pool.proofs.Moves.{moves_by, keeps_by, look_moves, look_keeps}
use Rattle.coherent_pool.proofs.Steps.{kept_at, hears_at, others_at}
use Rattle.coherent_pool.proofs.node.PoolNode.looked.Goals as goal

pub returns-clause-here : goal.returns-clause-here
returns-clause-here c =
    let N = c.args.self.now in
    let p = c.args.page in
    let F : Bool → PageState → PageState = λ b. seen_at b c.args.seen in
    λ v. hears_at p (F N.writer (state_at N p)) N c.see.new.self (Looked c.args.seen) v c.see.ensures
    (λ r n call e q. moves_by F (Looked c.args.seen) v looks (look_moves c.args.seen v) refl r n N.up N.writer (state_at N p) call e q (c.requires.rules p) c.requires.looks)

pub returns-clause-others : goal.returns-clause-others
returns-clause-others c =
    let N = c.args.self.now in
    let p = c.args.page in
    let F : Bool → PageState → PageState = λ b. seen_at b c.args.seen in
    others_at p (F N.writer (state_at N p)) N c.see.new.self c.see.ensures

pub returns-clause-kept : goal.returns-clause-kept
returns-clause-kept c =
    let N = c.args.self.now in
    let p = c.args.page in
    let F : Bool → PageState → PageState = λ b. seen_at b c.args.seen in
    kept_at p (F N.writer (state_at N p)) N c.see.new.self c.see.ensures c.requires.rules
    (keeps_by F looks (look_keeps c.args.seen) refl N.writer (state_at N p) (c.requires.rules p) c.requires.looks)
