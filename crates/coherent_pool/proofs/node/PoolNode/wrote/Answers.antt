use Rattle.std.proofs.Common.{Bool, refl, Ok}
use Rattle.fetch_steps.specs.declared.acts.Told.TheVariants.{Slab}
use Rattle.coherent_pool.specs.Node.{PageState, state_at}
use Rattle.coherent_pool.specs.Hearing.{writes_slot}
use Rattle.coherent_pool.specs.Changing.{told_at}
use Rattle.coherent_pool.proofs.Moves.{moves_by, keeps_by, write_moves, write_keeps}
use Rattle.coherent_pool.proofs.Steps.{kept_at, hears_at, others_at}
use Rattle.coherent_pool.proofs.node.PoolNode.wrote.Goals as goal

pub returns-clause-here : goal.returns-clause-here
returns-clause-here c =
    let N = c.args.self.now in
    let p = c.args.page in
    let F : Bool → PageState → PageState = λ b. told_at (Slab (Ok tt)) in
    λ v. hears_at p (F N.writer (state_at N p)) N c.tell.new.self (Slab (Ok tt)) v c.tell.ensures
    (λ r n call e q. moves_by F (Slab (Ok tt)) v writes_slot (write_moves v) refl r n N.up N.writer (state_at N p) call e q (c.requires.rules p) c.requires.writes)

pub returns-clause-others : goal.returns-clause-others
returns-clause-others c =
    let N = c.args.self.now in
    let p = c.args.page in
    let F : Bool → PageState → PageState = λ b. told_at (Slab (Ok tt)) in
    others_at p (F N.writer (state_at N p)) N c.tell.new.self c.tell.ensures

pub returns-clause-kept : goal.returns-clause-kept
returns-clause-kept c =
    let N = c.args.self.now in
    let p = c.args.page in
    let F : Bool → PageState → PageState = λ b. told_at (Slab (Ok tt)) in
    kept_at p (F N.writer (state_at N p)) N c.tell.new.self c.tell.ensures c.requires.rules
    (keeps_by F writes_slot (write_keeps) refl N.writer (state_at N p) (c.requires.rules p) c.requires.writes)
