use Rattle.std.proofs.Common.{◌≡◌, ◌≤◌, ◌<◌, ◌+◌, ℕ, List, length, get_or, arith, ap, sym, subst, ◌∙◌}
use Rattle.std.proofs.lemmas.List.{get_or_read}
use Rattle.page_image.specs.Meta.{page_count}
use Rattle.page_image.specs.Image.{Image, unmade, free_of}
use Rattle.page_image.specs.Rules.{IsImage}
use Rattle.tree_change.specs.Places.{page_on}
use Rattle.tree_change.specs.Pages.{HasChildren, IsTreePage}
use Rattle.tree_change.specs.Splits.{split_plan, IsSplitPlace, IsFirstFull}
use Rattle.tree_change.specs.Effects.{Keeps}
use Rattle.tree_change.proofs.AnswerLaws.{when_placed}
use Rattle.tree_change.proofs.WayLaws.{tree_pages, inner_children}
use Rattle.tree_change.proofs.FullLaws.{inner_room}
use Rattle.tree_change.proofs.SplitKeeps.{split_keeps}
use Rattle.tree_change.proofs.splitting.plan_split.Goals as goal

-- what an index reads, in the path
read : (pages path : List Image) (i : ℕ) (x : Image) → pages ≡ path → i < length pages → x ≡ get_or pages i x → x ≡ page_on path i
read pages path i x e h is = get_or_read pages i x h is (unmade 0) ∙ ap (λ (l : List Image). get_or l i (unmade 0)) e

pub above_full-above-requires-clause-pages : goal.above_full-above-requires-clause-pages
above_full-above-requires-clause-pages c =
    subst (λ (l : List Image). (i : ℕ) → i < length l → IsTreePage (page_on l i)) (sym c.as_slice-pages.ensures)
    (tree_pages c.args.item.now.key c.args.path.now c.requires.way)

pub split_below-requires-clause-parent : goal.split_below-requires-clause-parent
split_below-requires-clause-parent c =
    let pages : List Image = c.as_slice-pages.result.now in
    let path : List Image = c.args.path.now in
    let above : ℕ = c.above_full-above.result in
    let within : above + 1 < length pages = c.above_full-above.ensures.within in
    let long = ap length c.as_slice-pages.ensures in
    let is : c.index-pages-above-2.result ≡ page_on path above = read pages path above c.index-pages-above-2.result c.as_slice-pages.ensures (omega arith) c.index-pages-above-2.is in
    subst HasChildren (sym is) (inner_children c.args.item.now.key path c.requires.way above (omega (arith, long, within)))

pub split_below-requires-clause-page : goal.split_below-requires-clause-page
split_below-requires-clause-page c =
    let pages : List Image = c.as_slice-pages.result.now in
    let path : List Image = c.args.path.now in
    let at : ℕ = c.above_full-above.result + 1 in
    let within : at < length pages = c.above_full-above.ensures.within in
    let long = ap length c.as_slice-pages.ensures in
    let is : c.index-pages-above-3.result ≡ page_on path at = read pages path at c.index-pages-above-3.result c.as_slice-pages.ensures within c.index-pages-above-3.is in
    subst IsTreePage (sym is) (tree_pages c.args.item.now.key path c.requires.way at (omega (arith, long, within)))

pub returns-clause-keeps : goal.returns-clause-keeps
returns-clause-keeps c =
    let pages : List Image = c.as_slice-pages.result.now in
    let path : List Image = c.args.path.now in
    let key = c.args.item.now.key in
    let above : ℕ = c.above_full-above.result in
    let e : pages ≡ path = c.as_slice-pages.ensures in
    let within : above + 1 < length pages = c.above_full-above.ensures.within in
    let long = ap length e in
    let full : IsFirstFull c.args.item.now path (above + 1) = subst (λ (l : List Image). IsFirstFull c.args.item.now l (above + 1)) e c.above_full-above.ensures in
    let r1 : c.index-pages-above.result ≡ page_on path (above + 1) = read pages path (above + 1) c.index-pages-above.result e within c.index-pages-above.is in
    let r2 : c.index-pages-above-2.result ≡ page_on path above = read pages path above c.index-pages-above-2.result e (omega arith) c.index-pages-above-2.is in
    let r3 : c.index-pages-above-3.result ≡ page_on path (above + 1) = read pages path (above + 1) c.index-pages-above-3.result e within c.index-pages-above-3.is in
    let image : IsImage (page_on path (above + 1)) = subst IsImage r1 c.keeps_rules.ensures in
    let page_is : IsTreePage (page_on path (above + 1)) = tree_pages key path c.requires.way (above + 1) (omega (arith, long, within)) in
    let parent : HasChildren (page_on path above) = inner_children key path c.requires.way above (omega (arith, long, within)) in
    let room : 71 ≤ free_of (page_on path above) = inner_room c.args.item.now (page_on path above) parent.kind (full.others above (omega arith)) in
    when_placed (page_count c.args.meta.now ≤ 32767) (λ at. IsSplitPlace c.index-pages-above-3.result.items at)
    (λ at. split_plan c.args.item.now.key c.index-pages-above-2.result c.index-pages-above-3.result at c.args.meta.now)
    (λ plan. Keeps c.args.item.now.key c.args.path.now c.args.meta.now plan) c.split_below.result
    c.split_below.ensures.room c.split_below.ensures.plan
    (λ bound at place.
    subst (λ (o : Image). Keeps c.args.item.now.key c.args.path.now c.args.meta.now (split_plan c.args.item.now.key o c.index-pages-above-3.result at c.args.meta.now)) (sym r2)
    (subst (λ (o : Image). Keeps c.args.item.now.key c.args.path.now c.args.meta.now (split_plan c.args.item.now.key (page_on path above) o at c.args.meta.now)) (sym r3)
    (split_keeps key path above at c.args.meta.now (omega (arith, long, within)) (subst (λ (o : Image). IsSplitPlace o.items at) r3 place) page_is image room c.requires.meta c.keeps_rules-2.ensures bound)))
