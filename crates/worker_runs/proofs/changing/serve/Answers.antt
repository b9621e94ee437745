use Rattle.std.proofs.Common.{subst}
use Rattle.statement_work.specs.declared.acts.Act.{Act}
use Rattle.worker_runs.specs.Runs.{IsRunOver}
use Rattle.worker_runs.proofs.RunLaws.{over_ends, over_goes_on}
use Rattle.worker_runs.proofs.changing.serve.Goals as goal

pub returns-in-Reply : goal.returns-in-Reply
returns-in-Reply g c =
    let w = g.W.Worker.serves c.args.job in
    let P : Act → Type 0 = λ a. IsRunOver g.W.Worker.terms w (g.P.Pool.handed c.args.pool.now) a (g.W.Worker.work c.loop.worker) (g.P.Pool.handed c.loop.pool) in
    over_ends g.W.Worker.terms (g.W.Worker.finds c.args.job) w (g.W.Worker.work c.loop.worker) c.in-Reply.reply (g.P.Pool.handed c.args.pool.now) (g.P.Pool.handed c.loop.pool)
    (g.met.W.Worker.right c.args.job) (subst P c.in-Reply.is c.loop.invariant)

pub loop-preserved : goal.loop-preserved
loop-preserved g c =
    let w = g.W.Worker.serves c.args.job in
    let P : Act → Type 0 = λ a. IsRunOver g.W.Worker.terms w (g.P.Pool.handed c.args.pool.now) a (g.W.Worker.work c.loop.worker) (g.P.Pool.handed c.loop.pool) in
    over_goes_on g.W.Worker.terms g.W.Worker.undoes w (g.W.Worker.work c.loop.worker) _ c.in-Do.deed _ (g.P.Pool.handed c.args.pool.now) (g.P.Pool.handed c.loop.pool) _
    (subst P c.in-Do.is c.loop.invariant) c.in_ok-act-in-Do.ensures.turn
