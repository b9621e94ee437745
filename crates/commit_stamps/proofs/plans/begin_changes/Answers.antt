use Rattle.std.proofs.Common.{arith}
use Rattle.commit_stamps.proofs.BeginLaws.{begins}
use Rattle.commit_stamps.proofs.plans.begin_changes.Goals as goal

pub returns : goal.returns
returns c =
    begins c.args.meta.now c.args.slots.now c.args.s c.args.t c.keeps_rules.ensures c.keeps_rules-2.ensures c.requires.meta c.requires.slots
    (omega (arith, c.number-number.ensures.bound)) (omega arith)
