use Rattle.std.proofs.Common.{◌≡◌, Option, Some, sym, subst, ap, ◌∙◌}
use Rattle.coherent_pool.specs.declared.works.FetchWork.{FetchWork}
use Rattle.coherent_pool.specs.Node.{state_at, step_in}
use Rattle.coherent_pool.specs.Keeping.{WorkAgrees}
use Rattle.coherent_pool.specs.Planning.{takes_done, done_call}
use Rattle.coherent_pool.proofs.WhatIsWanted.{done_work, is_done_call}
use Rattle.coherent_pool.proofs.node.PoolNode.takes_invalidate.Goals as goal

pub returns-in-Some : goal.returns-in-Some
returns-in-Some c =
    let N = c.args.self.now in
    let S = state_at N c.args.page in
    let w : FetchWork = c.in-Some.work.now in
    let found : S.work ≡ Some w = sym c.in-Some.ensures in
    let agrees : WorkAgrees N.writer S.copy S.known.bit (Some w) = subst (λ (o : Option FetchWork). WorkAgrees N.writer S.copy S.known.bit o) found (c.requires c.args.page).work in
    λ done. c.takes_answer.ensures ∙ (sym (done_work (done_call done) N.writer S.copy S.known.bit w (is_done_call done) agrees) ∙ ap (λ (o : Option FetchWork). takes_done (step_in o (done_call done))) (sym found))
