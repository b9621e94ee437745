use Rattle.std.proofs.Common.{subst, [], ◌∷◌, ◌++◌}
use Rattle.statement_work.specs.declared.acts.Act.{Act}
use Rattle.statement_work.specs.Works.{Input}
use Rattle.worker_runs.specs.Runs.{IsRun}
use Rattle.worker_runs.specs.Standing.{deed_input}
use Rattle.worker_runs.proofs.RunLaws.{ends, goes_on}
use Rattle.worker_runs.proofs.StandingLaws.{fewer, not_sure}
use Rattle.worker_runs.proofs.standing.serve_to_end.Goals as goal

pub returns-in-Reply : goal.returns-in-Reply
returns-in-Reply g c =
    let w = g.W.Worker.serves c.args.job in
    let xs = c.loop-act.invariant.0 in
    let P : Act → Type 0 = λ a. IsRun g.W.Worker.terms w xs a (g.W.Worker.work c.loop-act.worker) in (
      xs,
      ends g.W.Worker.terms (g.W.Worker.finds c.args.job) w (g.W.Worker.work c.loop-act.worker) xs c.in-Reply.reply
          (g.met.W.Worker.right c.args.job xs) (subst P c.in-Reply.is c.loop-act.invariant.1),
    )

pub loop-act-preserved : goal.loop-act-preserved
loop-act-preserved g c =
    let w = g.W.Worker.serves c.args.job in
    let xs = c.loop-act.invariant.0 in
    let x : Input = deed_input (g.P.StillPages.now c.args.pages.now) c.in-Do.deed in
    let P : Act → Type 0 = λ a. IsRun g.W.Worker.terms w xs a (g.W.Worker.work c.loop-act.worker) in (
      xs ++ x ∷ [],
      goes_on g.W.Worker.terms g.W.Worker.undoes w (g.W.Worker.work c.loop-act.worker) _ xs x c.in-Do.deed _
          (subst P c.in-Do.is c.loop-act.invariant.1) c.in_ok-act-in-Do.ensures.turn,
    )

pub loop-act-smaller : goal.loop-act-smaller
loop-act-smaller g c =
    let w = g.W.Worker.serves c.args.job in
    let xs = c.loop-act.invariant.0 in
    let P : Act → Type 0 = λ a. IsRun g.W.Worker.terms w xs a (g.W.Worker.work c.loop-act.worker) in
    rw c.in-Do.is (fewer g.W.Worker.terms g.W.Worker.undoes (g.P.StillPages.now c.args.pages.now) w (g.W.Worker.work c.loop-act.worker) _ xs c.in-Do.deed _
    (subst P c.in-Do.is c.loop-act.invariant.1) c.in_ok-act-in-Do.ensures.turn)

pub turn-requires-clause-plain : goal.turn-requires-clause-plain
turn-requires-clause-plain g c =
    let w = g.W.Worker.serves c.args.job in
    let xs = c.loop-act.invariant.0 in
    let P : Act → Type 0 = λ a. IsRun g.W.Worker.terms w xs a (g.W.Worker.work c.loop-act.worker) in
    not_sure g.W.Worker.terms w (g.W.Worker.work c.loop-act.worker) xs c.in-Do.deed c.requires.plain (subst P c.in-Do.is c.loop-act.invariant.1)
