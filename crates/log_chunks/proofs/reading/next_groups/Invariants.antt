use Rattle.std.proofs.Common.{length}
use Rattle.log_chunks.proofs.ReadLaws.{Reads}
use Rattle.log_chunks.proofs.reading.next_groups.Given as goal

-- the bytes go on after the groups that were read exactly where all of them go on from the start
abbrev pub invariant-loop-rest : goal.invariant-loop-rest
invariant-loop-rest l = Reads l.fn.last l.bytes l.groups l.before l.rest

abbrev pub decreases-loop-rest : goal.decreases-loop-rest
decreases-loop-rest l = length l.rest
