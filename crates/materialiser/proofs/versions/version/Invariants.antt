use Rattle.materialiser.specs.Versions.{PastFrom}
use Rattle.materialiser.proofs.versions.version.Given as goal

-- each image looked at is past the LSN
abbrev pub invariant-loop-place : goal.invariant-loop-place
invariant-loop-place l = PastFrom l.place l.images l.at
