use Rattle.std.proofs.Common.{rules}
use Rattle.bplus_tree.proofs.Entries.{entry_lent}
use Rattle.bplus_tree.proofs.steps.child_for.Goals as goal

pub unwrap-requires : goal.unwrap-requires
unwrap-requires c = search (rules, entry_lent)
