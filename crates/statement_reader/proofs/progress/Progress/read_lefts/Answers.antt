use Rattle.std.proofs.Common.{refl}
use Rattle.statement_reader.proofs.ProgressLaws.{ok_same, some_left_is}
use Rattle.statement_reader.proofs.progress.Progress.read_lefts.Goals as goal

pub returns-in-Some-clause-same : goal.returns-in-Some-clause-same
returns-in-Some-clause-same c = λ d.
    ok_same _ _ d c.args.statement.now c.next_left.new.self c.next_left.result
    (some_left_is d c.args.statement.now c.args.self.now
    record c.args.self.now { schemas = c.in_ok-self.field-0; ranges = c.in_ok-self-2.field-0; at = 0; rows = c.new.result }
    c.in-Some.root c.in-Some.ensures refl refl refl c.in_ok-self.ensures c.in_ok-self-2.ensures refl c.new.ensures)
    (c.next_left.ensures.same d)
