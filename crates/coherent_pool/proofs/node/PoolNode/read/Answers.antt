use Rattle.std.proofs.Common.{Bool, refl, Ok}
use Rattle.fetch_steps.specs.declared.acts.Told.TheVariants.{Slab}
use Rattle.coherent_pool.specs.Node.{PageState, state_at}
use Rattle.coherent_pool.specs.Hearing.{reads_slot}
use Rattle.coherent_pool.specs.Changing.{read_at}
use Rattle.coherent_pool.proofs.Moves.{moves_by, keeps_by, read_moves, read_keeps}
use Rattle.coherent_pool.proofs.Steps.{kept_at, hears_at, others_at}
use Rattle.coherent_pool.proofs.node.PoolNode.read.Goals as goal

pub returns-clause-here : goal.returns-clause-here
returns-clause-here c =
    let N = c.args.self.now in
    let p = c.args.page in
    let F : Bool → PageState → PageState = λ b. read_at b c.args.image in
    hears_at p (F N.writer (state_at N p)) N c.read_slot.new.self (Slab (Ok tt)) c.args.image c.in_ok-read_slot.ensures.ok
    (λ r n call e q. moves_by F (Slab (Ok tt)) c.args.image reads_slot (read_moves c.args.image c.args.image) refl r n N.up N.writer (state_at N p) call e q (c.requires.rules p) c.requires.reads)

pub returns-clause-others : goal.returns-clause-others
returns-clause-others c =
    let N = c.args.self.now in
    let p = c.args.page in
    let F : Bool → PageState → PageState = λ b. read_at b c.args.image in
    others_at p (F N.writer (state_at N p)) N c.read_slot.new.self c.in_ok-read_slot.ensures.ok

pub returns-clause-kept : goal.returns-clause-kept
returns-clause-kept c =
    let N = c.args.self.now in
    let p = c.args.page in
    let F : Bool → PageState → PageState = λ b. read_at b c.args.image in
    kept_at p (F N.writer (state_at N p)) N c.read_slot.new.self c.in_ok-read_slot.ensures.ok c.requires.rules
    (keeps_by F reads_slot (read_keeps c.args.image) refl N.writer (state_at N p) (c.requires.rules p) c.requires.reads)
