use Rattle.statement_reader.specs.Spelling.{decoder}
use Rattle.statement_reader.proofs.KeptLaws.{none_wanted, some_wanted}
use Rattle.statement_reader.proofs.asking.AskingReader.next.Goals as goal

pub returns-in-None : goal.returns-in-None
returns-in-None c = none_wanted c.args.self.now c.self.inside.statement c.self.inside.reader c.self.view_is c.in-None.is

pub returns-in-Some : goal.returns-in-Some
returns-in-Some c =
    some_wanted c.args.self.now c.self.inside.statement c.self.inside.reader c.in-Some.reader c.next.result c.self.view_is c.in-Some.is
    (c.next.ensures.wanted decoder c.self.inside.statement)
