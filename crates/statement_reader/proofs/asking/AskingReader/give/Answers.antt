use Rattle.std.proofs.Common.{sym}
use Rattle.statement_reader.proofs.KeptLaws.{answered, present_asked}
use Rattle.statement_reader.proofs.asking.AskingReader.give.Goals as goal

pub read_on-requires-clause-asked : goal.read_on-requires-clause-asked
read_on-requires-clause-asked c =
    present_asked c.args.self.now c.self.inside.statement c.self.inside.reader c.in-Some.reader c.args.page.now c.self.view_is (sym c.in-Some.ensures.value)
    c.self.invariant c.requires.asked

pub returns-in_ok-read_on-in-Some-clause-after : goal.returns-in_ok-read_on-in-Some-clause-after
returns-in_ok-read_on-in-Some-clause-after c =
    answered c.args.self.now c.self.inside.statement c.self.inside.reader c.in-Some.reader c.in_ok-read_on-in-Some.field-0 c.args.page.now c.self.view_is
    (sym c.in-Some.ensures.value) c.in_ok-read_on-in-Some.ensures.after
