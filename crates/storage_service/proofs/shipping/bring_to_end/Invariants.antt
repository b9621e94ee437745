use Rattle.std.proofs.Common.{◌-◌, length}
use Rattle.storage_service.specs.Keeping.{IsBrought}
use Rattle.storage_service.proofs.shipping.bring_to_end.Given as goal

abbrev pub invariant-groups : goal.invariant-groups
invariant-groups l = IsBrought l.log.groups l.initial.chunk l.chunk.applied l.chunk

abbrev pub decreases-groups : goal.decreases-groups
decreases-groups l = length l.log.groups - l.chunk.applied
