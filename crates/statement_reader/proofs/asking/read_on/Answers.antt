use Rattle.statement_reader.specs.Spelling.{decoder}
use Rattle.statement_reader.proofs.SpellingLaws.{decodes}
use Rattle.statement_reader.proofs.asking.read_on.Goals as goal

pub returns-clause-after : goal.returns-clause-after
returns-clause-after c = c.in_ok-give.ensures.after decoder decodes
