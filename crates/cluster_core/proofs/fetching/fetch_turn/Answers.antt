use Rattle.std.proofs.Common.{sym}
use Rattle.cluster_core.proofs.TurnLaws.{fetch_acted, fetch_filled, fetch_uninstalled, still_fetched}
use Rattle.cluster_core.proofs.fetching.fetch_turn.Goals as goal

pub fill-requires-clause-uninstalled : goal.fill-requires-clause-uninstalled
fill-requires-clause-uninstalled g c =
    fetch_uninstalled c.args.page ((g.P.PagePool.state c.act.new.pool).node c.args.n)
    (still_fetched c.args.n c.args.page c.in_ok-outcome.outcome (g.P.PagePool.state c.args.pool.now) (g.P.PagePool.state c.act.new.pool) c.requires.serves
    (sym c.if-not-is_busy.ensures.busy) c.requires.fetched c.in_ok-outcome.ensures.acts)

pub returns-in_ok-turned-in-None-clause-turns : goal.returns-in_ok-turned-in-None-clause-turns
returns-in_ok-turned-in-None-clause-turns g c =
    fetch_acted g.W.Worker.terms g.W.Worker.undoes c.args.n c.args.page c.args.stage c.in_ok-outcome.outcome (g.W.Worker.work c.args.worker.now)
    (g.W.Worker.work c.fetch_goes.new.worker) (g.P.PagePool.state c.args.pool.now) (g.P.PagePool.state c.act.new.pool) (g.P.PagePool.state c.fetch_goes.new.pool)
    c.in_ok-turned-in-None.turned (sym c.if-not-is_busy.ensures.busy) c.in_ok-outcome.ensures.acts (sym c.in-None.ensures) c.in_ok-turned-in-None.ensures.goes

pub returns-in_ok-turned-in-Some-clause-turns : goal.returns-in_ok-turned-in-Some-clause-turns
returns-in_ok-turned-in-Some-clause-turns g c =
    fetch_filled g.W.Worker.terms g.W.Worker.undoes c.args.n c.args.page c.in-Some.slots c.args.stage c.in_ok-outcome.outcome (g.W.Worker.work c.args.worker.now)
    (g.W.Worker.work c.fill.new.worker) (g.P.PagePool.state c.args.pool.now) (g.P.PagePool.state c.act.new.pool) (g.P.PagePool.state c.fill.new.pool)
    c.in_ok-turned-in-Some.turned (sym c.if-not-is_busy.ensures.busy) c.in_ok-outcome.ensures.acts (sym c.in-Some.ensures) c.in_ok-turned-in-Some.ensures.fills
