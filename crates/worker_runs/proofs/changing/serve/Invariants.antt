use Rattle.worker_runs.specs.Runs.{IsRunOver}
use Rattle.worker_runs.proofs.changing.serve.Given as goal

abbrev pub invariant-loop : goal.invariant-loop
invariant-loop g l =
    IsRunOver g.W.Worker.terms (g.W.Worker.serves l.fn.job) (g.P.Pool.handed l.initial.pool) l.act (g.W.Worker.work l.worker) (g.P.Pool.handed l.pool)
