use Rattle.std.proofs.Common.{◌∙◌, subst}
use Rattle.statement_reader.specs.Machine.{Begins}
use Rattle.statement_reader.proofs.progress.Progress.next_row.Goals as goal

pub returns-in-Some-clause-same : goal.returns-in-Some-clause-same
returns-in-Some-clause-same c = λ d.
    subst (Begins d c.args.statement.now c.loop-self.self c.begin_row.new.self) c.in-Some.is (c.in_ok-reader.ensures.begins d) ∙ c.loop-self.invariant d

pub loop-self-preserved : goal.loop-self-preserved
loop-self-preserved c = λ d.
    subst (Begins d c.args.statement.now c.loop-self.self c.begin_row.new.self) c.in-None.is (c.in_ok-reader.ensures.begins d) ∙ c.loop-self.invariant d
