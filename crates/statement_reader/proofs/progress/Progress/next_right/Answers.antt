use Rattle.std.proofs.Common.{◌≤◌, length, refl, arith}
use Rattle.statement_reader.proofs.ProgressLaws.{ok_same, rights_end_is, rights_ready}
use Rattle.statement_reader.proofs.progress.Progress.next_right.Goals as goal

pub returns-then-self-len-clause-same : goal.returns-then-self-len-clause-same
returns-then-self-len-clause-same c = λ d.
    let few : length c.args.self.now.ranges ≤ c.args.self.now.at = omega (arith, c.if-self-len.true, c.len.ensures) in
    ok_same _ _ d c.args.statement.now c.next_row.new.self c.next_row.result
    (rights_end_is d c.args.statement.now c.args.self.now record c.args.self.now { rows = c.replace-rows.new.dest; lists = c.push.new.self }
    c.args.root c.replace-rows.result c.requires few c.replace-rows.ensures.value c.in_ok-push.ensures.ok refl refl refl refl refl refl)
    (c.next_row.ensures.same d)

pub returns-clause-ready : goal.returns-clause-ready
returns-clause-ready c = rights_ready _ c.in_ok-reader.reader c.args.root refl c.requires c.in_ok-reader.ensures.settled c.in_ok-reader.ensures.asks
