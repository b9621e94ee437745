use Rattle.std.proofs.Common.{◌≤◌, length, refl, arith}
use Rattle.statement_reader.proofs.ProgressLaws.{ok_same, lefts_end_is, lefts_ready}
use Rattle.statement_reader.proofs.progress.Progress.next_left.Goals as goal

pub returns-then-self-len-clause-same : goal.returns-then-self-len-clause-same
returns-then-self-len-clause-same c = λ d.
    let few : length c.args.self.now.ranges ≤ c.args.self.now.at = omega (arith, c.if-self-len.true, c.len.ensures) in
    ok_same _ _ d c.args.statement.now c.read_rights.new.self c.read_rights.result
    (lefts_end_is d c.args.statement.now c.args.self.now record c.args.self.now { rows = c.new.result }
    c.args.root c.replace-rows.result c.requires few c.replace-rows.ensures.value refl refl refl refl)
    (c.read_rights.ensures.same d)

pub returns-clause-ready : goal.returns-clause-ready
returns-clause-ready c = lefts_ready _ c.in_ok-reader.reader c.args.root refl c.requires c.in_ok-reader.ensures.settled c.in_ok-reader.ensures.asks
