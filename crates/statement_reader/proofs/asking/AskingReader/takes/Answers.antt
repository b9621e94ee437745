use Rattle.statement_reader.specs.Spelling.{decoder}
use Rattle.statement_reader.proofs.KeptLaws.{none_asked, some_asked}
use Rattle.statement_reader.proofs.asking.AskingReader.takes.Goals as goal

pub returns-in-None : goal.returns-in-None
returns-in-None c = none_asked c.args.self.now c.self.inside.statement c.self.inside.reader c.args.page.now c.self.view_is c.in-None.is

pub returns-in-Some : goal.returns-in-Some
returns-in-Some c =
    some_asked c.args.self.now c.self.inside.statement c.self.inside.reader c.in-Some.reader c.args.page.now c.takes.result c.self.view_is c.in-Some.is
    (c.takes.ensures.asked decoder c.self.inside.statement)
