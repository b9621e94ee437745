use Rattle.std.proofs.Common.{◌≡◌, ℕ, Option, Some, sym, subst, ap, ◌∙◌}
use Rattle.node_model.specs.Call.{Call}
use Rattle.fetch_steps.specs.Acts.{act_of}
use Rattle.coherent_pool.specs.declared.works.FetchWork.{FetchWork}
use Rattle.coherent_pool.specs.Works.{work_at}
use Rattle.coherent_pool.specs.Node.{state_at, address_in, step_in}
use Rattle.coherent_pool.specs.Keeping.{WorkAgrees}
use Rattle.coherent_pool.proofs.NextAct.{page_of_work, has_own_image}
use Rattle.coherent_pool.proofs.node.PoolNode.next.Goals as goal

pub act_of-requires : goal.act_of-requires
act_of-requires c =
    let N = c.args.self.now in
    let p = c.args.page in
    let S = state_at N p in
    let w : FetchWork = c.in-Some.work.now in
    let found : work_at N.works p ≡ Some w = sym c.in-Some.ensures in
    has_own_image N.writer S.copy S.known.bit w (subst (λ (o : Option FetchWork). WorkAgrees N.writer S.copy S.known.bit o) found (c.requires p).work)

pub returns-in-Some : goal.returns-in-Some
returns-in-Some c =
    let N = c.args.self.now in
    let p = c.args.page in
    let S = state_at N p in
    let w : FetchWork = c.in-Some.work.now in
    let found : work_at N.works p ≡ Some w = sym c.in-Some.ensures in
    let page : w.step.page ≡ p = page_of_work N.works p w found in
    c.act_of.ensures ∙ ap (λ (q : ℕ). act_of q w.step.address (step_in (Some w) Call.Quiet)) page
    ∙ ap (λ (o : Option FetchWork). act_of p (address_in S.known o) (step_in o Call.Quiet)) (sym found)
