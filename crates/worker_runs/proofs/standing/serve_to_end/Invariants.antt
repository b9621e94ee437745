use Rattle.std.specs.Prelude.{List}
use Rattle.statement_work.specs.Works.{Input}
use Rattle.worker_runs.specs.Runs.{IsRun}
use Rattle.worker_runs.specs.Standing.{acts_left}
use Rattle.worker_runs.proofs.standing.serve_to_end.Given as goal

abbrev pub invariant-loop-act : goal.invariant-loop-act
invariant-loop-act g l = (xs : List Input) × IsRun g.W.Worker.terms (g.W.Worker.serves l.fn.job) xs l.act (g.W.Worker.work l.worker)

abbrev pub decreases-loop-act : goal.decreases-loop-act
decreases-loop-act g l = acts_left (g.P.StillPages.now l.pages) l.act (g.W.Worker.work l.worker)
