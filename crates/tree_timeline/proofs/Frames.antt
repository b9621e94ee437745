-- Layers whose pages keep their entries.
use Rattle.std.proofs.Common.{◌≡◌, ◌+◌, ℕ, zero, suc, List, [], ◌∷◌, ◌++◌, refl, ap, ◌∙◌, arith}
use Rattle.std.specs.List.{AllByRecursion, flat_map}
use Rattle.bplus_tree.proofs.Order.{all_map}
use Rattle.tree_timeline.specs.Fences.{Fence, entries_in, cut, children, layer}
use Rattle.tree_timeline.specs.Steps.{KeepsShape}
use Rattle.tree_timeline.specs.Types.{Items, Pages}
use Rattle.tree_timeline.proofs.Members.{Member, InTree, members}

-- pages with the same entries have the same layer below
pub same_below : (pages others : Pages) (fs : List Fence)
    → AllByRecursion (λ f. entries_in (others f.page) ≡ entries_in (pages f.page)) fs
    → flat_map (children others) fs ≡ flat_map (children pages) fs
same_below pages others [] a = refl
same_below pages others (f ∷ fs) a =
    ap (λ (x : List Fence). x ++ flat_map (children others) fs) (ap (cut f.low) a.0)
    ∙ ap (λ (y : List Fence). children pages f ++ y) (same_below pages others fs a.1)

-- the layer below one that is as before, whose pages are as before
pub same_deeper : (pages others : Pages) (root depth : ℕ)
    → layer others root depth ≡ layer pages root depth
    → AllByRecursion (λ f. entries_in (others f.page) ≡ entries_in (pages f.page))
    (layer pages root depth) → layer others root (suc depth) ≡ layer pages root (suc depth)
same_deeper pages others root depth e a =
    ap (flat_map (children others)) e ∙ same_below pages others (layer pages root depth) a

pub stays_layers : (pages others : Pages) (root : ℕ) (items : Items) (nodes : List ℕ)
    (level depth tall : ℕ) → InTree pages root items nodes level
    → KeepsShape pages others nodes → depth + tall ≡ level
    → layer others root depth ≡ layer pages root depth
stays_layers pages others root items nodes level zero tall s st e = refl
stays_layers pages others root items nodes level (suc depth) tall s st e =
    let up : depth + suc tall ≡ level = omega (arith, e) in
    same_deeper pages others root depth
    (stays_layers pages others root items nodes level depth (suc tall) s st up)
    (all_map (Member pages nodes (suc tall)) _ (layer pages root depth)
    (λ f m. ap entries_in (st.inner f.page m.inside m.tall_is.0))
    (members pages root items nodes level depth (suc tall) s up))
