use Rattle.std.proofs.Common.{sym, subst}
use Rattle.tree_change.specs.Pages.{HasRows}
use Rattle.tree_change.proofs.WayLaws.{leaf_rows}
use Rattle.tree_change.proofs.putting.plan_put.Goals as goal

pub has_key-requires : goal.has_key-requires
has_key-requires c = subst HasRows (sym c.leaf_of.ensures) (leaf_rows c.args.item.now.key c.args.path.now c.requires.way)
