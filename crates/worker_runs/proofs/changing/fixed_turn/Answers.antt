use Rattle.worker_runs.proofs.RunLaws.{told_ok}
use Rattle.worker_runs.proofs.changing.fixed_turn.Goals as goal

pub returns : goal.returns
returns g c = record {
  turn = told_ok g.W.Worker.terms g.W.Worker.undoes (g.W.Worker.work c.args.worker.now) _ c.in_ok-page.page c.tell.result (g.P.Pool.handed c.args.pool.now) _ c.tell.ensures c.in_ok-page.ensures.handed;
}
