-- A tree stays where its pages do.
use Rattle.std.proofs.Common.{◌≡◌, ℕ, List, Option, None, refl, sym, ap, subst}
use Rattle.std.specs.List.{AllByRecursion}
use Rattle.page_image.specs.Image.{Image}
use Rattle.bplus_tree.specs.Tree.{Tree, is_leaf, leaves_of, Linked}
use Rattle.tree_change.specs.Effects.{StandsOn}
use Rattle.tree_change.proofs.ListLaws.{all_weaker}
use Rattle.tree_change.proofs.SortLaws.{all_filter}
use Rattle.tree_change.proofs.SpotLaws.{SameAt, stands_frame}
use Rattle.tree_change.proofs.LinkLaws.{filter_same, SameNext, linked_on_same}

pub tree_frame : (pages others : ℕ → Image) (root : ℕ) (items : List (List ℕ)) (tree : Tree pages root items) → SameAt pages others tree.nodes → StandsOn others root items tree.nodes tree.level
tree_frame pages others root items tree same =
    let kinds = all_weaker (λ q. others q ≡ pages q) (λ q. is_leaf (others q).kind ≡ is_leaf (pages q).kind) (λ q e. ap (λ (o : Image). is_leaf o.kind) e) tree.nodes same in
    let nexts : SameNext pages others tree.nodes = all_weaker (λ q. others q ≡ pages q) (λ q. (others q).next ≡ (pages q).next) (λ q e. ap (λ (o : Image). o.next) e) tree.nodes same in
    let leaves = filter_same (λ q. is_leaf (others q).kind) (λ q. is_leaf (pages q).kind) tree.nodes kinds in
    let framed : Tree others root items = record {
      level = tree.level;
      nodes = tree.nodes;
      low_enough = tree.low_enough;
      stands = stands_frame pages others tree.level root None None items tree.nodes same tree.stands;
      linked = subst (Linked others) (sym leaves)
          (linked_on_same pages others (leaves_of pages tree.nodes) (all_filter (λ q. (others q).next ≡ (pages q).next) (λ q. is_leaf (pages q).kind) tree.nodes nexts) tree.linked);
      apart = tree.apart;
    } in
    record { tree = framed; nodes_are = refl; level_is = refl }
