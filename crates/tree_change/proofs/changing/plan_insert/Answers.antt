use Rattle.std.proofs.Common.{◌≤◌, sym, subst}
use Rattle.page_image.specs.Image.{Image}
use Rattle.page_view.specs.Leaf.{leaf_bytes}
use Rattle.tree_change.specs.Pages.{HasRows}
use Rattle.tree_change.specs.Room.{size_of, room_for}
use Rattle.tree_change.specs.Changes.{insert_plan}
use Rattle.tree_change.specs.Effects.{Carries, with_item}
use Rattle.tree_change.proofs.AnswerLaws.{when_planned}
use Rattle.tree_change.proofs.WayLaws.{leaf_rows, some_pages}
use Rattle.tree_change.proofs.ChangeLaws.{insert_carries}
use Rattle.tree_change.proofs.changing.plan_insert.Goals as goal

pub insert_into-requires-clause-leaf : goal.insert_into-requires-clause-leaf
insert_into-requires-clause-leaf c = subst HasRows (sym c.leaf_of.ensures) (leaf_rows c.args.item.now.key c.args.path.now c.requires.way)

pub leaf_of-requires : goal.leaf_of-requires
leaf_of-requires c = some_pages c.args.item.now.key c.args.path.now c.requires.way

pub returns-clause-carries : goal.returns-clause-carries
returns-clause-carries c =
    let change = with_item c.args.item.now.key (leaf_bytes c.args.item.now) in
    when_planned (size_of c.args.item.now ≤ room_for c.args.item.now.key c.leaf_of.result.now) (insert_plan c.leaf_of.result.now c.args.item.now) (λ p. Carries c.args.item.now.key c.args.path.now p change) c.insert_into.result
    c.insert_into.ensures.room c.insert_into.ensures.plan
    (subst (λ (im : Image). size_of c.args.item.now ≤ room_for c.args.item.now.key im → Carries c.args.item.now.key c.args.path.now (insert_plan im c.args.item.now) change)
    (sym c.leaf_of.ensures)
    (λ room. insert_carries c.args.path.now c.args.item.now c.requires.item (leaf_rows c.args.item.now.key c.args.path.now c.requires.way) c.requires.absent room))
