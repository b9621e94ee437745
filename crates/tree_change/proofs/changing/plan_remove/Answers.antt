use Rattle.std.proofs.Common.{◌≡◌, ap, sym, ◌∙◌, subst}
use Rattle.page_image.specs.Image.{Image}
use Rattle.redo_record.specs.declared.plans.Plan.{Plan}
use Rattle.tree_change.specs.Places.{leaf_on}
use Rattle.tree_change.specs.Pages.{HasRows}
use Rattle.tree_change.specs.Changes.{remove_plan}
use Rattle.tree_change.specs.Effects.{Carries, without_item}
use Rattle.tree_change.proofs.WayLaws.{leaf_rows, some_pages}
use Rattle.tree_change.proofs.ChangeLaws.{remove_carries}
use Rattle.tree_change.proofs.changing.plan_remove.Goals as goal

pub leaf_of-requires : goal.leaf_of-requires
leaf_of-requires c = some_pages c.args.item.now.key c.args.path.now c.requires.way

pub remove_from-requires : goal.remove_from-requires
remove_from-requires c = subst HasRows (sym c.leaf_of.ensures) (leaf_rows c.args.item.now.key c.args.path.now c.requires.way)

pub returns-clause-carries : goal.returns-clause-carries
returns-clause-carries c =
    let is : c.in_ok-plan.plan ≡ remove_plan (leaf_on c.args.path.now) c.args.item.now.key =
    c.in_ok-plan.ensures ∙ ap (λ (im : Image). remove_plan im c.as_slice.result.now) c.leaf_of.ensures ∙ ap (remove_plan (leaf_on c.args.path.now)) c.as_slice.ensures in
    subst (λ (p : Plan). Carries c.args.item.now.key c.args.path.now p (without_item c.args.item.now.key)) (sym is)
    (remove_carries c.args.path.now c.args.item.now.key (leaf_rows c.args.item.now.key c.args.path.now c.requires.way) c.requires.there)
