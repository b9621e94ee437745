use Rattle.fetch_steps.specs.declared.acts.Action.TheVariants as action
use Rattle.cluster_core.proofs.EndLaws.{append_asked, ran_beside, runs_beside}
use Rattle.cluster_core.proofs.ending.append_turn.Goals as goal

pub tell_ran-requires-clause-plans : goal.tell_ran-requires-clause-plans
tell_ran-requires-clause-plans g c =
    let w = g.W.Worker.work c.args.worker.now in
    let s = g.P.PagePool.state c.args.pool.now in
    let mid = g.P.PagePool.state c.act_beside.new.pool in
    ran_beside g.W.Worker.terms g.W.Worker.undoes c.args.n mid w
    (runs_beside g.W.Worker.terms g.W.Worker.undoes c.args.n action.Append c.in_ok-answer.answer s mid w c.in_ok-answer.ensures.steps c.requires.plans)
    (append_asked g.W.Worker.terms w (s.node c.args.n) c.requires.stands)
