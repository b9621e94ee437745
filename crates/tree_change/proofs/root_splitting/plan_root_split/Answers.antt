use Rattle.std.proofs.Common.{◌≡◌, ◌≤◌, ◌+◌, sym, subst}
use Rattle.page_image.specs.Meta.{page_count}
use Rattle.page_image.specs.Image.{Image}
use Rattle.page_image.specs.Rules.{IsImage}
use Rattle.tree_change.specs.Places.{page_on}
use Rattle.tree_change.specs.Pages.{IsTreePage}
use Rattle.tree_change.specs.Splits.{root_split_plan, IsSplitPlace}
use Rattle.tree_change.specs.Effects.{Keeps}
use Rattle.tree_change.proofs.AnswerLaws.{when_placed}
use Rattle.tree_change.proofs.WayLaws.{tree_pages, some_pages}
use Rattle.tree_change.proofs.RootTree.{root_keeps}
use Rattle.tree_change.proofs.root_splitting.plan_root_split.Goals as goal

pub root_of-root-requires : goal.root_of-root-requires
root_of-root-requires c = some_pages c.args.item.now.key c.args.path.now c.requires.way

pub split_root-requires-clause-root : goal.split_root-requires-clause-root
split_root-requires-clause-root c =
    subst IsTreePage (sym c.root_of-root.ensures)
    (tree_pages c.args.item.now.key c.args.path.now c.requires.way 0 (some_pages c.args.item.now.key c.args.path.now c.requires.way))

pub returns-clause-keeps : goal.returns-clause-keeps
returns-clause-keeps c =
    let e : c.root_of-root.result.now ≡ page_on c.args.path.now 0 = c.root_of-root.ensures in
    when_placed (page_count c.args.meta.now + 1 ≤ 32767) (λ at. IsSplitPlace c.root_of-root.result.now.items at)
    (λ at. root_split_plan c.root_of-root.result.now at c.args.meta.now)
    (λ plan. Keeps c.args.item.now.key c.args.path.now c.args.meta.now plan) c.split_root.result
    c.split_root.ensures.room c.split_root.ensures.plan
    (λ bound at place.
    subst (λ (o : Image). Keeps c.args.item.now.key c.args.path.now c.args.meta.now (root_split_plan o at c.args.meta.now)) (sym e)
    (root_keeps c.args.item.now.key c.args.path.now at c.args.meta.now (subst (λ (o : Image). IsSplitPlace o.items at) e place)
    (tree_pages c.args.item.now.key c.args.path.now c.requires.way 0 (some_pages c.args.item.now.key c.args.path.now c.requires.way))
    (subst IsImage e c.keeps_rules.ensures) c.requires.low c.requires.meta c.keeps_rules-2.ensures bound))
