use Rattle.std.proofs.Common.{rules, ◌≡◌, true, refl}
use Rattle.sql_exec.specs.Answer.{is_join}
use Rattle.statement_reader.proofs.ProgressLaws.{ok_same, paired_is}
use Rattle.statement_reader.proofs.progress.Progress.read_rights.Goals as goal

pub returns-clause-same : goal.returns-clause-same
returns-clause-same c = λ d.
    let both : is_join c.args.statement.now ≡ true = search rules in
    ok_same _ _ d c.args.statement.now c.next_row.new.self c.next_row.result
    (paired_is d c.args.statement.now c.args.self.now record c.args.self.now { lefts = c.args.lefts; lists = c.new.result; next = 0 }
    c.args.lefts both refl c.new.ensures refl refl refl refl refl)
    (c.next_row.ensures.same d)
