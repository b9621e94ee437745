use Rattle.cluster_core.proofs.HearLaws.{begun_stands}
use Rattle.cluster_core.proofs.hearing.tell_ran.Goals as goal

pub returns-clause-stands : goal.returns-clause-stands
returns-clause-stands g c =
    begun_stands g.W.Worker.terms c.args.n _ (g.W.Worker.work c.next.new.self) c.in_ok-act.act (g.P.PagePool.state c.args.pool.now)
    (g.P.PagePool.state c.begin.new.pool) c.in_ok-stage.stage c.in_ok-stage.ensures.begins c.in_ok-act.ensures.act c.in_ok-act.ensures.works c.requires.free
