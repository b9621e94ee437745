use Rattle.std.proofs.Common.{subst}
use Rattle.cluster_core.specs.Stages.{Stands}
use Rattle.cluster_core.specs.declared.stages.Stage.{Stage}
use Rattle.cluster_core.proofs.EndLaws.{stamp_asked}
use Rattle.cluster_core.proofs.WorkLaws.{stamp_runs}
use Rattle.cluster_core.proofs.working.worker_turn.Goals as goal

pub tell_stamp-requires-clause-plans : goal.tell_stamp-requires-clause-plans
tell_stamp-requires-clause-plans g c =
    let w = g.W.Worker.work c.args.worker.now in
    let s = g.P.PagePool.state c.args.pool.now in
    stamp_runs g.W.Worker.terms g.W.Worker.undoes c.args.n c.args.stamp w s c.args.stage c.requires.ready
    (stamp_asked g.W.Worker.terms w (s.node c.args.n) c.args.stamp
    (subst (λ (x : Stage). Stands g.W.Worker.terms w (s.node c.args.n) x) c.in-Stamping.is c.requires.stands))
