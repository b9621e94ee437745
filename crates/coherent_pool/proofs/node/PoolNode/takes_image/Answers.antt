use Rattle.std.proofs.Common.{◌≡◌, Option, Some, sym, subst, ap, ◌∙◌, refl}
use Rattle.node_model.specs.Call.{Call}
use Rattle.coherent_pool.specs.declared.works.FetchWork.{FetchWork}
use Rattle.coherent_pool.specs.Node.{state_at, step_in}
use Rattle.coherent_pool.specs.Keeping.{WorkAgrees}
use Rattle.coherent_pool.specs.Hearing.{takes_image}
use Rattle.coherent_pool.proofs.WhatIsWanted.{image_work}
use Rattle.coherent_pool.proofs.node.PoolNode.takes_image.Goals as goal

pub returns-in-Some : goal.returns-in-Some
returns-in-Some c =
    let N = c.args.self.now in
    let S = state_at N c.args.page in
    let w : FetchWork = c.in-Some.work.now in
    let found : S.work ≡ Some w = sym c.in-Some.ensures in
    let agrees : WorkAgrees N.writer S.copy S.known.bit (Some w) = subst (λ (o : Option FetchWork). WorkAgrees N.writer S.copy S.known.bit o) found (c.requires c.args.page).work in
    λ image. c.takes_answer.ensures ∙ (sym (image_work (Call.ToldImage image) N.writer S.copy S.known.bit w refl agrees) ∙ ap (λ (o : Option FetchWork). takes_image (step_in o (Call.ToldImage image))) (sym found))
