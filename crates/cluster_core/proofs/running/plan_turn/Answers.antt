use Rattle.std.proofs.Common.{sym}
use Rattle.cluster_core.proofs.PlanLaws.{plan_uninstalled, planned_by, still_planned}
use Rattle.cluster_core.proofs.running.plan_turn.Goals as goal

pub fill-requires-clause-uninstalled : goal.fill-requires-clause-uninstalled
fill-requires-clause-uninstalled g c =
    plan_uninstalled g.W.Worker.terms (g.W.Worker.work c.args.worker.now) ((g.P.PagePool.state c.act.new.pool).node c.args.n) c.args.installed
    c.in_ok-outcome.outcome c.in-Some.slots (sym c.in-Some.ensures)
    (still_planned g.W.Worker.terms c.args.n (g.W.Worker.work c.args.worker.now) c.args.installed c.in_ok-outcome.outcome (g.P.PagePool.state c.args.pool.now)
    (g.P.PagePool.state c.act.new.pool) c.requires.serves c.requires.stands c.in_ok-outcome.ensures.acts)

pub plan_goes-requires-clause-planned : goal.plan_goes-requires-clause-planned
plan_goes-requires-clause-planned g c =
    planned_by g.W.Worker.terms (g.W.Worker.work c.args.worker.now) ((g.P.PagePool.state c.act.new.pool).node c.args.n) c.args.installed
    c.now_installed-installed.result c.in_ok-outcome.outcome c.end_in-end.result c.now_installed-installed.ensures c.end_in-end.ensures
    (still_planned g.W.Worker.terms c.args.n (g.W.Worker.work c.args.worker.now) c.args.installed c.in_ok-outcome.outcome (g.P.PagePool.state c.args.pool.now)
    (g.P.PagePool.state c.act.new.pool) c.requires.serves c.requires.stands c.in_ok-outcome.ensures.acts)
