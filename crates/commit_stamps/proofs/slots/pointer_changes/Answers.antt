use Rattle.std.proofs.Common.{arith}
use Rattle.commit_stamps.proofs.CommitLaws.{points_at}
use Rattle.commit_stamps.proofs.slots.pointer_changes.Goals as goal

pub returns : goal.returns
returns c =
    points_at c.args.slots.now c.args.s c.args.at c.keeps_rules.ensures c.requires (omega (arith, c.number-number.ensures.bound)) (omega arith) (omega arith)
