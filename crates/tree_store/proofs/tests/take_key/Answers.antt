use Rattle.std.proofs.Common.{[], ◌∷◌}
use Rattle.page_store.specs.Stored.{pages_of}
use Rattle.tree_change.specs.Effects.{without_item}
use Rattle.bplus_tree.specs.Forest.{Forest, IsRoot, with_tree}
use Rattle.tree_store.proofs.ChangeLaws.{either_way}
use Rattle.tree_store.proofs.tests.take_key.Goals as goal

pub returns : goal.returns
returns c =
    let f = c.requires in
    let e = c.in_ok-answer.ensures in
    let ps = pages_of c.take_out.new.store in
    let its = with_tree f.1 c.args.root (without_item (c.args.key ∷ []) (f.1 c.args.root)) in
    either_way c.in_ok-answer.answer (Forest ps f.0 its) (Forest ps f.0 f.1) (IsRoot ps c.args.root) (e.ok f.0 f.1 f.2 f.3) (e.stays f.0 f.1 f.2 f.3)
    (λ g. (f.0, its, g, f.3)) (λ g. (f.0, f.1, g, f.3))
