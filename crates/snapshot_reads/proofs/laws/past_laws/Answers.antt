use Rattle.snapshot_reads.proofs.laws.past_laws.Goals as goal
use Rattle.snapshot_reads.proofs.GoingOn.{goes_on}
use Rattle.snapshot_reads.proofs.Others.{others_leave}

pub returns : goal.returns
returns c = record { on = goes_on; others = others_leave }
