use Rattle.std.proofs.Common.{rules, ◌≡◌, slice_get, Some, refl}
use Rattle.statement_reader.proofs.ProgressLaws.{ok_begun}
use Rattle.statement_reader.proofs.progress.Progress.begin_row.Goals as goal

pub returns-clause-begins : goal.returns-clause-begins
returns-clause-begins c = λ d.
    let there : slice_get c.args.self.now.lefts c.args.self.now.next ≡ Some c.unwrap-row.result.now = search rules in
    ok_begun d c.args.statement.now c.args.self.now
    record c.args.self.now { ranges = c.in_ok-self.field-0; at = 0; rows = c.new.result; next = c.args.after }
    c.first_right.new.self c.first_right.result c.unwrap-row.result.now there c.in_ok-self.ensures c.requires.after refl refl refl refl refl refl
    (c.first_right.ensures.begins d c.args.statement.now)
