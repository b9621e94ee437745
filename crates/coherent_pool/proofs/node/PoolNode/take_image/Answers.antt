use Rattle.std.proofs.Common.{◌≡◌, Bool, true, Option, Some, if◌then◌else◌, sym, ◌∙◌, subst, refl}
use Rattle.page_image.specs.Image.{Image}
use Rattle.message_model.specs.declared.Got.TheVariants.{Image as Given}
use Rattle.message_network.specs.declared.calls.Reply.TheVariants.{Got}
use Rattle.fetch_steps.specs.declared.acts.Told.TheVariants.{Answer}
use Rattle.coherent_pool.specs.Node.{PageState, state_at, Changes}
use Rattle.coherent_pool.specs.Works.{loaded_work}
use Rattle.coherent_pool.specs.Changing.{told_at, with_work, fetches}
use Rattle.coherent_pool.proofs.Steps.{then_changes}
use Rattle.coherent_pool.proofs.node.PoolNode.take_image.Goals as goal

pub returns-then-fetches : goal.returns-then-fetches
returns-then-fetches c =
    let N = c.args.self.now in
    let M = c.tell.new.self in
    let O = c.set_image.new.self in
    let p = c.args.page in
    let S = state_at N p in
    let told = Answer (Got (Given c.args.image)) in
    let goes : fetches S.work ≡ true = sym c.fetches.ensures ∙ c.if-fetches.true in
    let f : PageState → PageState = λ T. with_work T (loaded_work (Some c.args.image) T.work) in
    let given = c.image_in-image.ensures c.args.image refl in
    let second : Changes p (f (state_at M p)) M O = subst (λ (o : Option Image). Changes p (with_work (state_at M p) (loaded_work o (state_at M p).work)) M O) given c.set_image.ensures in
    let both : Changes p (f (told_at told S)) N O = then_changes p f (told_at told S) N M O c.tell.ensures second in
    subst (λ (t : Bool). Changes p (if t then f (told_at told S) else S) N O) (sym goes) both
