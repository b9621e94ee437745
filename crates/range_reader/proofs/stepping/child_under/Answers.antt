use Rattle.std.proofs.Common.{rules}
use Rattle.bplus_tree.proofs.Entries.{entry_lent}
use Rattle.range_reader.proofs.stepping.child_under.Goals as goal

pub unwrap-requires : goal.unwrap-requires
unwrap-requires c = search (rules, entry_lent)
