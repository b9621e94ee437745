use Rattle.std.proofs.Common.{sym, subst}
use Rattle.tree_change.specs.Pages.{HasRows}
use Rattle.tree_change.proofs.WayLaws.{leaf_rows}
use Rattle.row_edits.proofs.row_plans.undo_of.Goals as goal

pub old_in-requires : goal.old_in-requires
old_in-requires c =
    subst HasRows (sym c.leaf_of.ensures) (leaf_rows c.args.basis.now.change.item.key c.args.basis.now.path c.requires.way)
