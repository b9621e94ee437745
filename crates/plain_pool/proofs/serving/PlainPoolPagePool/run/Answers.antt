use Rattle.std.proofs.Common.{sym, ◌∙◌}
use Rattle.plain_pool.proofs.Showing.{run_free, run_taken, runnable}
use Rattle.plain_pool.proofs.serving.PlainPoolPagePool.run.Goals as goal

pub returns-then-has_work-clause-begins : goal.returns-then-has_work-clause-begins
returns-then-has_work-clause-begins c =
    run_taken c.args.self.now c.args._n c.args.plan c.requires.there (sym c.has_work.ensures ∙ c.if-has_work.true)

pub begin_plan-requires : goal.begin_plan-requires
begin_plan-requires c = runnable c.args.self.now c.args.plan c.requires.runnable

pub returns-clause-begins : goal.returns-clause-begins
returns-clause-begins c =
    run_free c.args.self.now c.begin_plan.new.self c.args._n c.args.plan c.requires.there (sym c.has_work.ensures ∙ c.if-has_work.false) c.begin_plan.ensures
