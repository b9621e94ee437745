use Rattle.std.proofs.Common.{◌≤◌, ◌-◌, sym, subst}
use Rattle.rm_base.specs.declared.limits.TheConstants.{PAGE_BYTES, PAGE_HEADER_BYTES}
use Rattle.page_image.specs.Image.{Image, used}
use Rattle.page_view.specs.Leaf.{leaf_bytes}
use Rattle.tree_change.specs.Places.{leaf_on}
use Rattle.tree_change.specs.Pages.{HasRows}
use Rattle.tree_change.specs.Room.{size_of, room_for}
use Rattle.tree_change.specs.Changes.{update_plan}
use Rattle.tree_change.specs.Effects.{Carries, with_item}
use Rattle.tree_change.proofs.AnswerLaws.{when_planned}
use Rattle.tree_change.proofs.WayLaws.{leaf_rows, some_pages}
use Rattle.tree_change.proofs.ChangeLaws.{update_carries}
use Rattle.tree_change.proofs.changing.plan_update.Goals as goal

pub replace_in-requires-clause-leaf : goal.replace_in-requires-clause-leaf
replace_in-requires-clause-leaf c = subst HasRows (sym c.leaf_of-leaf.ensures) (leaf_rows c.args.item.now.key c.args.path.now c.requires.way)

pub leaf_of-leaf-requires : goal.leaf_of-leaf-requires
leaf_of-leaf-requires c = some_pages c.args.item.now.key c.args.path.now c.requires.way

pub returns-clause-carries : goal.returns-clause-carries
returns-clause-carries c =
    let fits : used (leaf_on c.args.path.now).items ≤ PAGE_BYTES - PAGE_HEADER_BYTES =
    subst (λ (im : Image). used im.items ≤ PAGE_BYTES - PAGE_HEADER_BYTES) c.leaf_of-leaf.ensures c.items_fit.ensures in
    let change = with_item c.args.item.now.key (leaf_bytes c.args.item.now) in
    when_planned (size_of c.args.item.now ≤ room_for c.args.item.now.key c.leaf_of-leaf.result.now) (update_plan c.leaf_of-leaf.result.now c.args.item.now) (λ p. Carries c.args.item.now.key c.args.path.now p change) c.replace_in.result
    c.replace_in.ensures.room c.replace_in.ensures.plan
    (subst (λ (im : Image). size_of c.args.item.now ≤ room_for c.args.item.now.key im → Carries c.args.item.now.key c.args.path.now (update_plan im c.args.item.now) change)
    (sym c.leaf_of-leaf.ensures)
    (λ room. update_carries c.args.path.now c.args.item.now c.requires.item (leaf_rows c.args.item.now.key c.args.path.now c.requires.way) c.requires.there room fits))
