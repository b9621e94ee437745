use Rattle.std.proofs.Common.{◌≡◌, ℕ, List, [], ◌∷◌, ◌++◌, Some, sym, ap, subst, ◌∙◌}
use Rattle.page_image.specs.Image.{Image}
use Rattle.bplus_tree.specs.Walk.{start, Told, IsToRead}
use Rattle.page_store.specs.Stored.{pages_of}
use Rattle.tree_store.proofs.WayLaws.{OnWay, way_starts, way_needs, way_steps, way_ends}
use Rattle.tree_store.proofs.PageLaws.{page_there, page_is}
use Rattle.tree_store.proofs.finding.way.Goals as goal

pub loop-at-init : goal.loop-at-init
loop-at-init c =
    let ps = pages_of c.args.store.now in
    let root = c.args.root in
    let key = c.args.key.now in
    let f = c.requires in
    let tree = (f.2.trees root f.3).tree in
    let key_is : c.append.new.self ≡ key = c.in_ok-append.ensures.ok ∙ ap (λ (l : List ℕ). l ++ key) c.new-sought.ensures in
    let descent = c.new-descent.ensures ∙ ap (λ (k : List ℕ). start root (Some k) (Some k)) key_is in
    subst (λ (p : List Image). OnWay ps root key p c.new-descent.result) (sym c.new-path.ensures)
    (subst (OnWay ps root key []) (sym descent) (way_starts ps root (f.1 root) tree key (c.search_laws.ensures.leaf ps root (f.1 root) tree key)))

pub unwrap-page-requires : goal.unwrap-page-requires
unwrap-page-requires c =
    let ps = pages_of c.args.store.now in
    let e = sym c.next.ensures.wanted ∙ c.in-Need.is in
    let h = way_needs ps c.args.root c.args.key.now c.loop-at.path c.loop-at.descent c.in-Need.at c.loop-at.invariant e in
    page_there c.page.result (ps c.in-Need.at) c.in-Need.at _ c.page.ensures h.0

pub give-requires-clause-readable : goal.give-requires-clause-readable
give-requires-clause-readable c =
    let ps = pages_of c.args.store.now in
    let e = sym c.next.ensures.wanted ∙ c.in-Need.is in
    let h = way_needs ps c.args.root c.args.key.now c.loop-at.path c.loop-at.descent c.in-Need.at c.loop-at.invariant e in
    let is : c.unwrap-page.result.now ≡ ps c.in-Need.at = page_is c.page.result c.unwrap-page.result _ _ c.page.ensures c.unwrap-page.ensures in
    subst IsToRead (sym is) h.0

pub loop-at-preserved : goal.loop-at-preserved
loop-at-preserved c =
    let ps = pages_of c.args.store.now in
    let root = c.args.root in
    let key = c.args.key.now in
    let e = sym c.next.ensures.wanted ∙ c.in-Need.is in
    let is : c.unwrap-page.result.now ≡ ps c.in-Need.at = page_is c.page.result c.unwrap-page.result _ _ c.page.ensures c.unwrap-page.ensures in
    let told : Told c.loop-at.descent (ps c.in-Need.at) c.give.new.self = subst (λ (o : Image). Told c.loop-at.descent o c.give.new.self) is c.give.ensures.told in
    let path : c.push.new.self ≡ c.loop-at.path ++ ps c.in-Need.at ∷ [] =
    c.in_ok-push.ensures.ok ∙ ap (λ (o : Image). c.loop-at.path ++ o ∷ []) (c.in_ok-copy.ensures ∙ is) in
    subst (λ (p : List Image). OnWay ps root key p c.give.new.self) (sym path)
    (way_steps ps root key c.loop-at.path c.loop-at.descent c.give.new.self c.in-Need.at c.loop-at.invariant e told)

pub returns : goal.returns
returns c =
    way_ends (pages_of c.args.store.now) c.args.root c.args.key.now c.loop-at.path c.loop-at.descent c.loop-at.invariant
    (λ p e. c.in_default.not-Need p (c.next.ensures.wanted ∙ e))
