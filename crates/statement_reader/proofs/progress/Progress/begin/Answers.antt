use Rattle.std.proofs.Common.{rules, ◌≡◌, None}
use Rattle.statement_reader.proofs.ProgressLaws.{ok_same, begins_unnamed_is}
use Rattle.statement_reader.specs.Question.{left_range}
use Rattle.statement_reader.proofs.progress.Progress.begin.Goals as goal

pub returns-in-None-clause-same : goal.returns-in-None-clause-same
returns-in-None-clause-same c = λ d.
    let none : None ≡ left_range c.args.statement.now = search rules in
    ok_same _ _ d c.args.statement.now c.name_right.new.self c.name_right.result (begins_unnamed_is d c.args.statement.now c.args.self.now none)
    (c.name_right.ensures.same d)
