use Rattle.page_view.specs.Leaf.{leaf_bytes}
use Rattle.page_store.specs.Stored.{pages_of}
use Rattle.tree_change.specs.Effects.{with_item}
use Rattle.bplus_tree.specs.Forest.{Forest, IsRoot, with_tree}
use Rattle.tree_store.proofs.ChangeLaws.{either_way}
use Rattle.version_tests.proofs.trees.put_version.Goals as goal

pub returns : goal.returns
returns c =
    let f = c.requires in
    let e = c.in_ok-answer.ensures in
    let item = c.args.item.now in
    let ps = pages_of c.put.new.store in
    let its = with_tree f.1 c.args.root (with_item item.key (leaf_bytes item) (f.1 c.args.root)) in
    either_way c.in_ok-answer.answer (Forest ps f.0 its) (Forest ps f.0 f.1) (IsRoot ps c.args.root)
    (e.ok f.0 f.1 f.2 f.3) (e.stays f.0 f.1 f.2 f.3) (λ g. (f.0, its, g, f.3)) (λ g. (f.0, f.1, g, f.3))
