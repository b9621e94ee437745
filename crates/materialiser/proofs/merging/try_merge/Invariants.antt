use Rattle.std.proofs.Common.{drop}
use Rattle.materialiser.proofs.MergeLaws.{Merges}
use Rattle.materialiser.proofs.merging.try_merge.Given as goal

-- the groups that are left bring the page to what all of them bring the base to
abbrev pub invariant-loop-group : goal.invariant-loop-group
invariant-loop-group l = Merges l.from l.upto l.group-items l.base (drop l.group-index l.group-items) l.page
