use Rattle.std.proofs.Common.{refl}
use Rattle.statement_reader.proofs.ProgressLaws.{rights_ready}
use Rattle.statement_reader.proofs.progress.Progress.first_right.Goals as goal

pub returns-clause-ready : goal.returns-clause-ready
returns-clause-ready c = rights_ready _ c.in_ok-reader.reader c.in-Some.root refl c.in-Some.ensures c.in_ok-reader.ensures.settled c.in_ok-reader.ensures.asks
