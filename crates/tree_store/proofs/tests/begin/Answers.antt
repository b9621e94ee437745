use Rattle.std.proofs.Common.{◌≡◌, [], ◌∷◌, ◌++◌, sym, subst}
use Rattle.std.specs.Prelude.{Contains}
use Rattle.page_view.specs.Leaf.{leaf_bytes}
use Rattle.page_store.specs.Stored.{pages_of}
use Rattle.page_image.specs.Meta.{page_count}
use Rattle.tree_change.specs.Effects.{with_item}
use Rattle.tree_change.proofs.MemberLaws.{among}
use Rattle.bplus_tree.specs.Forest.{Forest, with_tree}
use Rattle.tree_store.proofs.tests.begin.Goals as goal

pub returns : goal.returns
returns c =
    let f = c.requires in
    let root = c.args.root in
    let item = c.in_ok-item.item in
    let old = c.in_ok-path.ensures.forest f.0 f.1 f.2 f.3 in
    let count = page_count (pages_of c.make_room.new.store 0) in
    let is : c.in-Some.new ≡ count = c.in-Some.ensures.1 in
    let its = with_tree (with_tree f.1 root (with_item item.key (leaf_bytes item) (f.1 root))) count [] in
    let new : Forest (pages_of c.put_with_tree.new.store) (f.0 ++ count ∷ []) its = c.in_ok-put_with_tree.ensures.ok f.0 f.1 old f.3 in
    let there : Contains (f.0 ++ count ∷ []) c.in-Some.new = subst (Contains (f.0 ++ count ∷ [])) (sym is) (among f.0 [] count) in
    (f.0 ++ count ∷ [], its, new, there)
