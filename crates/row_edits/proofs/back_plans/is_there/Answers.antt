use Rattle.std.proofs.Common.{List, ℕ, sym, subst, ◌∙◌}
use Rattle.page_view.specs.Keys.{IsFound, keys_of}
use Rattle.tree_change.specs.Pages.{HasRows}
use Rattle.tree_change.proofs.WayLaws.{leaf_rows}
use Rattle.row_edits.proofs.BackLaws.{there_is}
use Rattle.row_edits.proofs.back_plans.is_there.Goals as goal

pub find-requires : goal.find-requires
find-requires c = subst HasRows (sym c.leaf_of.ensures) (leaf_rows c.args.key.now c.args.path.now c.requires)

pub returns : goal.returns
returns c =
    c.is_ok.ensures.value
    ∙ there_is c.args.key.now c.args.path.now c.leaf_of.result.now c.find.result c.requires c.leaf_of.ensures
    (subst (λ (k : List ℕ). IsFound (keys_of c.leaf_of.result.now.items) k c.find.result) c.as_slice.ensures c.find.ensures)
