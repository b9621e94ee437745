use Rattle.std.proofs.Common.{◌+◌, ◌*◌, ℕ, sym, ap, ◌∙◌, arith}
use Rattle.std.specs.Option.{option_map}
use Rattle.page_image.specs.Faults.{slot_holds}
use Rattle.page_image.proofs.FaultLaws.{first_failing-pass, first_failing-fail, slot_says}
use Rattle.page_image.proofs.faults.slots_fault.Goals as goal

pub returns-then-not-slot_holds-clause-fault : goal.returns-then-not-slot_holds-clause-fault
returns-then-not-slot_holds-clause-fault c =
    ap (option_map (λ (i : ℕ). 32 + 2 * i))
    (sym (first_failing-fail (slot_holds c.args.bytes.now c.args.count) c.loop-i.i c.args.count c.loop-i-test.true (sym c.slot_holds.ensures ∙ c.if-not-slot_holds.true)) ∙ c.loop-i.invariant.rest)

pub loop-i-preserved : goal.loop-i-preserved
loop-i-preserved c =
    let holds = sym c.slot_holds.ensures ∙ c.if-not-slot_holds.false in
    record {
      rest = sym (first_failing-pass (slot_holds c.args.bytes.now c.args.count) c.loop-i.i c.args.count c.loop-i-test.true holds) ∙ c.loop-i.invariant.rest;
      bound = omega (arith, (slot_says c.args.bytes.now c.args.count c.loop-i.i holds).0, c.loop-i.invariant.bound);
    }
