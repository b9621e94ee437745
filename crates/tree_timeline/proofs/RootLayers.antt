-- What a split of the root does to each layer.
use Rattle.std.proofs.Common.{◌≡◌, ◌+◌, ℕ, zero, suc, false, List, [], ◌∷◌, ◌++◌, Some, None, sym, ap, subst, ◌∙◌, arith, append_assoc}
use Rattle.std.specs.List.{flat_map}
use Rattle.page_view.specs.Inner.{InnerItem}
use Rattle.bplus_tree.proofs.Order.{all_map}
use Rattle.bplus_tree.specs.Tree.{Tree, is_leaf}
use Rattle.tree_timeline.specs.Fences.{Fence, entries_in, cut, children, layer}
use Rattle.tree_timeline.specs.Ranges.{height}
use Rattle.tree_timeline.specs.Steps.{RootSplits}
use Rattle.tree_timeline.specs.Types.{Items, Pages}
use Rattle.tree_timeline.proofs.Frames.{same_below}
use Rattle.tree_timeline.proofs.Heights.{Tall, stands_tall, tall_height}
use Rattle.tree_timeline.proofs.Inserting.{halves_join}
use Rattle.tree_timeline.proofs.Members.{Member, members}

pub root_one : (pages others : Pages) (root : ℕ) (nodes : List ℕ) (lsn : ℕ)
    (r : RootSplits pages others root nodes lsn)
    → layer others root 1 ≡ record {
      low = None;
      page = r.left;
    } ∷ (record { low = Some r.separator; page = r.right } ∷ [])
root_one pages others root nodes lsn r = ap (λ (l : List InnerItem). cut None l ++ []) r.is

root_two : (pages others : Pages) (root : ℕ) (nodes : List ℕ) (lsn : ℕ)
    (r : RootSplits pages others root nodes lsn) → is_leaf (pages root).kind ≡ false
    → layer others root 2 ≡ layer pages root 1
root_two pages others root nodes lsn r inner =
    ap (flat_map (children others)) (root_one pages others root nodes lsn r)
    ∙ (sym
    (append_assoc (cut None (entries_in (others r.left)))
    (cut (Some r.separator) (entries_in (others r.right))) [])
    ∙ ap (λ (x : List Fence). x ++ []) (halves_join None _ _ _ r.separator (r.halves inner)))

pub root_layers : (pages others : Pages) (root : ℕ) (items : Items) (tree : Tree pages root items)
    (lsn : ℕ) (r : RootSplits pages others root tree.nodes lsn)
    (depth tall : ℕ) → suc depth + tall ≡ tree.level
    → layer others root (suc (suc depth)) ≡ layer pages root (suc depth)
root_layers pages others root items tree lsn r zero tall e =
    let high : tree.level ≡ suc tall = omega (arith, e) in
    let t : Tall pages (suc tall) root =
    subst (λ (n : ℕ). Tall pages n root) high
    (stands_tall pages tree.level root None None items tree.nodes tree.stands) in
    root_two pages others root tree.nodes lsn r t.0
root_layers pages others root items tree lsn r (suc depth) tall e =
    let up : suc depth + suc tall ≡ tree.level = omega (arith, e) in
    let t = stands_tall pages tree.level root None None items tree.nodes tree.stands in
    ap (flat_map (children others))
    (root_layers pages others root items tree lsn r depth (suc tall) up)
    ∙ same_below pages others (layer pages root (suc depth))
    (all_map (Member pages tree.nodes (suc tall)) _ (layer pages root (suc depth))
    (λ f m. ap entries_in (r.same f.page m.inside
    (λ q. let x =
    sym (tall_height pages (suc tall) f.page m.tall_is) ∙ ap (λ (p : ℕ). height (pages p)) q
    ∙ tall_height pages tree.level root t in omega (arith, x, up))))
    (members pages root items tree.nodes tree.level (suc depth) (suc tall) tree.stands up))
