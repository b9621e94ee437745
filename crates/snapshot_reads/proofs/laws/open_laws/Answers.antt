use Rattle.snapshot_reads.proofs.laws.open_laws.Goals as goal
use Rattle.snapshot_reads.proofs.Opening.{begins, installs_more, uses_more}

pub returns : goal.returns
returns c = record { begins = begins; more = uses_more; installs = installs_more }
