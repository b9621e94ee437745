use Rattle.std.proofs.Common.{arith}
use Rattle.undo_versions.proofs.StepLaws.{uses}
use Rattle.undo_versions.proofs.counting.counting_changes.Goals as goal

pub returns : goal.returns
returns c =
    uses c.args.meta.now c.args.count c.args.page c.requires c.keeps_rules.ensures (omega arith) (omega (arith, c.number-number.ensures.bound))
