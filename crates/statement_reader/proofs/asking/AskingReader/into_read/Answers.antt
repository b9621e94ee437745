use Rattle.std.proofs.Common.{◌∙◌}
use Rattle.statement_reader.specs.Spelling.{decoder}
use Rattle.statement_reader.proofs.KeptLaws.{none_told, some_told}
use Rattle.statement_reader.proofs.asking.AskingReader.into_read.Goals as goal

pub returns-in-None : goal.returns-in-None
returns-in-None c = none_told c.args.self c.self.inside.statement c.self.inside.reader c.self.view_is c.in-None.is

pub returns-in-Some : goal.returns-in-Some
returns-in-Some c =
    c.read_with.ensures
    ∙ some_told c.args.self c.self.inside.statement c.self.inside.reader c.in-Some.reader c.into_found.result c.self.view_is c.in-Some.is
    (c.into_found.ensures decoder c.self.inside.statement)
