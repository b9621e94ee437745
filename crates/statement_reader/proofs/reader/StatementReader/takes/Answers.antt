use Rattle.statement_reader.proofs.ReaderLaws.{reading_asks}
use Rattle.statement_reader.proofs.reader.StatementReader.takes.Goals as goal

pub returns-in-Some-clause-asked : goal.returns-in-Some-clause-asked
returns-in-Some-clause-asked c = λ d st.
    reading_asks d st c.args.self.now.progress c.args.self.now.reader c.in-Some.reader c.args.page.now c.takes.result c.in-Some.is c.requires c.takes.ensures
