use Rattle.std.proofs.Common.{◌≡◌, ◌==◌, ◌-◌, slice_index}
use Rattle.page_image.specs.Faults.{first_failing}
use Rattle.page_image.proofs.faults.bytes_fault.Given as goal

abbrev pub invariant-loop-k : goal.invariant-loop-k
invariant-loop-k l = first_failing (λ k. slice_index l.bytes k == 0) l.k (l.to - l.k) ≡ first_failing (λ k. slice_index l.bytes k == 0) l.from (l.to - l.from)
