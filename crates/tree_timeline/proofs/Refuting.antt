-- What goes wrong with one condition less.
use Rattle.std.proofs.Common.{◌≡◌, ◌≤◌, ◌+◌, ◌++◌, ℕ, zero, suc, [], ◌∷◌, List, Some, None, refl, ap, arith, inr}
use Rattle.page_view.specs.Inner.{InnerItem}
use Rattle.bplus_tree.specs.Tree.{Tree}
use Rattle.bplus_tree.specs.Walk.{LeadsTo}
use Rattle.tree_timeline.specs.Types.{Key, Items}
use Rattle.tree_timeline.specs.Fences.{cut}
use Rattle.tree_timeline.specs.Ranges.{Covers}
use Rattle.tree_timeline.specs.Found.{FindsEach}
use Rattle.tree_timeline.specs.Example.{item, first_entry, second_entry, third_entry, whole, unlinked, splitting, merging, three_items, visit}
use Rattle.tree_timeline.specs.Loose.{LooseReadLaw, AnyStepLaw}
use Rattle.tree_timeline.proofs.Members.{covers_member}
use Rattle.tree_timeline.proofs.Neighbours.{next_of}
use Rattle.tree_timeline.proofs.Rows.{entries_are}
use Rattle.tree_timeline.proofs.ExampleTrees.{is_first, is_second, is_third, less_greater, equal_greater, whole_tree, halved_tree}
use Rattle.tree_timeline.proofs.ExampleTimes.{member, timeline, whole_structure, halved_structure, covers_right}

-- before the split the key 3 leads to page 3
leads : LeadsTo (whole 1) (3 ∷ []) 3
leads = (
  1,
  second_entry,
  (omega arith, (λ e. less_greater e), λ i a b. absurd (omega (arith, a, b))),
  refl,
  is_second,
  refl,
)

pub loose : LooseReadLaw → ⊥
loose law =
    let key : Key = 3 ∷ [] in
    let found : FindsEach splitting (visit 1 3 ∷ []) three_items (Some key) (Some key) 0 1 =
    law splitting 1 0 three_items timeline (Some key) (Some key) 0 (visit 1 3) []
    (3, 1, omega arith, leads, (refl, refl)) tt (inr (inr (refl, refl))) in
    let e : [] ≡ item 3 ∷ [] = found.each key ((λ e. equal_greater e), λ e. equal_greater e) in
    cc

merged : (t : ℕ) → Tree (merging t) 1 (three_items t)
merged zero = halved_tree
merged (suc t) = whole_tree

pub merge : AnyStepLaw → ⊥
merge law =
    let c = law merging 1 1 three_items merged stamps 0 1 0 4 (Some (3 ∷ [])) None covers_right
    (λ e. omega (arith, e)) (omega arith) in
    let m =
    covers_member whole 1 (item 1 ∷ item 2 ∷ item 3 ∷ []) whole_tree 0 4 (Some (3 ∷ [])) c.now
    c.covers in
    member (λ q. q ≡ 4 → ⊥) (1 ∷ 2 ∷ 3 ∷ []) 4
    ((λ e. omega (arith, e)), ((λ e. omega (arith, e)), ((λ e. omega (arith, e)), tt))) m.0 refl
  where
    stamps : (t q : ℕ) → (merging t q).structure ≤ 1 + t
    stamps zero q = let e = halved_structure q in omega (arith, e)
    stamps (suc t) q = let e = whole_structure q in omega (arith, e)

abbrev unlinked_covers : Covers unlinked 1 0 3 (Some (2 ∷ [])) (Some (3 ∷ []))
unlinked_covers = record {
  depth = 1;
  left = record { low = None; page = 2 } ∷ [];
  right = record { low = Some (3 ∷ []); page = 4 } ∷ [];
  deep = refl;
  are = ap (λ (entries : List InnerItem). cut None entries ++ [])
      (entries_are (unlinked 1) (first_entry ∷ (second_entry ∷ (third_entry ∷ []))) refl
      (is_first, (is_second, (is_third, tt))));
  high_is = refl;
}

pub old_next : (items : Items) → Tree unlinked 1 items → ⊥
old_next items tree =
    let n = next_of unlinked 1 items tree 3 (Some (2 ∷ [])) (Some (3 ∷ [])) unlinked_covers in
    let e : 0 ≡ 4 = n.0 in
    omega (arith, e)
