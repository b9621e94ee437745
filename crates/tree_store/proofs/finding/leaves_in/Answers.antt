use Rattle.std.proofs.Common.{◌≡◌, ◌≤◌, ℕ, List, [], Some, None, sym, ap, subst, ◌∙◌}
use Rattle.page_image.specs.Image.{Image}
use Rattle.bplus_tree.specs.Walk.{Walking, wanted, Told, IsToRead}
use Rattle.page_store.specs.Stored.{pages_of}
use Rattle.tree_store.specs.Found.{noted, HoldsRange}
use Rattle.tree_store.proofs.ForestLaws.{root_bound}
use Rattle.tree_store.proofs.WalkLaws.{OnWalk, walk_starts, walk_steps, walk_ends, range_held}
use Rattle.tree_store.proofs.PageLaws.{page_there, page_is}
use Rattle.tree_store.proofs.finding.leaves_in.Goals as goal

pub loop-at-init : goal.loop-at-init
loop-at-init c items tree =
    let ps = pages_of c.args.store.now in
    let root = c.args.root in
    let low = c.args.range.low in
    let high = c.args.range.high in
    let bound : root ≤ 32767 = root_bound ps c.requires.0 c.requires.1 c.requires.2 root c.requires.3 in
    let f = c.search_laws.ensures.range ps root items tree bound low high in (
      f,
      subst (λ (ls : List ℕ). OnWalk ps c.new-walk.result ls f.leaves) (sym c.new-leaves.ensures)
          (subst (λ (w : Walking). OnWalk ps w [] f.leaves) (sym c.new-walk.ensures) (walk_starts ps root items tree.nodes low high f)),
    )

pub unwrap-requires : goal.unwrap-requires
unwrap-requires c =
    let ps = pages_of c.args.store.now in
    let f = c.requires in
    let inv = c.loop-at.invariant (f.1 c.args.root) (f.2.trees c.args.root f.3).tree in
    let e : wanted c.loop-at.walk.want ≡ Some c.in-Some.at = ap wanted (sym c.next.ensures.wanted) ∙ sym c.page.ensures ∙ c.in-Some.is in
    let s = walk_steps ps c.loop-at.walk c.loop-at.leaves inv.0.leaves c.in-Some.at inv.1 e in
    page_there c.page-in-Some.result (ps c.in-Some.at) c.in-Some.at _ c.page-in-Some.ensures s.0.0

pub give-requires-clause-readable : goal.give-requires-clause-readable
give-requires-clause-readable c =
    let ps = pages_of c.args.store.now in
    let f = c.requires in
    let inv = c.loop-at.invariant (f.1 c.args.root) (f.2.trees c.args.root f.3).tree in
    let e : wanted c.loop-at.walk.want ≡ Some c.in-Some.at = ap wanted (sym c.next.ensures.wanted) ∙ sym c.page.ensures ∙ c.in-Some.is in
    let s = walk_steps ps c.loop-at.walk c.loop-at.leaves inv.0.leaves c.in-Some.at inv.1 e in
    let is : c.unwrap.result.now ≡ ps c.in-Some.at = page_is c.page-in-Some.result c.unwrap.result _ _ c.page-in-Some.ensures c.unwrap.ensures in
    subst IsToRead (sym is) s.0.0

pub loop-at-preserved : goal.loop-at-preserved
loop-at-preserved c items tree =
    let ps = pages_of c.args.store.now in
    let inv = c.loop-at.invariant items tree in
    let e : wanted c.loop-at.walk.want ≡ Some c.in-Some.at = ap wanted (sym c.next.ensures.wanted) ∙ sym c.page.ensures ∙ c.in-Some.is in
    let s = walk_steps ps c.loop-at.walk c.loop-at.leaves inv.0.leaves c.in-Some.at inv.1 e in
    let is : c.unwrap.result.now ≡ ps c.in-Some.at = page_is c.page-in-Some.result c.unwrap.result _ _ c.page-in-Some.ensures c.unwrap.ensures in
    let told : Told c.loop-at.walk (ps c.in-Some.at) c.give.new.self = subst (λ (o : Image). Told c.loop-at.walk o c.give.new.self) is c.give.ensures.told in
    let leaves : c.note.new.leaves ≡ noted c.loop-at.leaves c.loop-at.walk.want = c.in_ok-note.ensures ∙ ap (noted c.loop-at.leaves) c.next-in-Some.ensures.wanted in
    (inv.0, subst (λ (ls : List ℕ). OnWalk ps c.give.new.self ls inv.0.leaves) (sym leaves) (s.1 c.give.new.self told))

pub returns : goal.returns
returns c roots items f k =
    let ps = pages_of c.args.store.now in
    let root = c.args.root in
    let tree = (f.trees root k).tree in
    let inv = c.loop-at.invariant (items root) tree in
    let e : wanted c.loop-at.walk.want ≡ None = ap wanted (sym c.next.ensures.wanted) ∙ sym c.page.ensures ∙ c.in_default.is in
    let all : inv.0.leaves ≡ c.loop-at.leaves = walk_ends ps c.loop-at.walk c.loop-at.leaves inv.0.leaves inv.1 e in
    subst (HoldsRange ps c.args.range.low c.args.range.high (items root)) all (range_held ps root (items root) tree c.args.range.low c.args.range.high inv.0)
