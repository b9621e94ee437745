use Rattle.std.proofs.Common.{◌==◌, ◌∙◌, sym, slice_index, ℕ}
use Rattle.std.proofs.lemmas.Bool.{eq-eqb}
use Rattle.page_image.proofs.FaultLaws.{first_failing-pass}
use Rattle.page_image.proofs.faults.bytes_fault.Goals as goal

pub loop-k-preserved : goal.loop-k-preserved
loop-k-preserved c =
    sym (first_failing-pass (λ (k : ℕ). slice_index c.args.bytes.now k == 0) c.loop-k.k c.args.to c.loop-k-test.true (eq-eqb (slice_index c.args.bytes.now c.loop-k.k) 0 c.if-bytes-k-ne0.false))
    ∙ c.loop-k.invariant
