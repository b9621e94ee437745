use Rattle.std.proofs.Common.{arith}
use Rattle.commit_stamps.proofs.CommitLaws.{frees}
use Rattle.commit_stamps.proofs.plans.free_changes.Goals as goal

pub returns : goal.returns
returns c = frees c.args.slots.now c.args.s c.keeps_rules.ensures c.requires (omega (arith, c.number-number.ensures.bound))
