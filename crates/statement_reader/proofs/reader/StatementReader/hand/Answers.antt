use Rattle.statement_reader.proofs.ReaderLaws.{open_if_ok}
use Rattle.statement_reader.proofs.reader.StatementReader.hand.Goals as goal

pub returns-in-Some-clause-open : goal.returns-in-Some-clause-open
returns-in-Some-clause-open c =
    open_if_ok c.give.result c.args.self.now.progress c.args.self.now.reader c.in-Some.reader c.give.new.self c.in-Some.is c.requires.ready c.give.ensures.settled
