-- Reads of the example's tree, across its split, each step by computation.
use Rattle.std.proofs.Common.{◌≡◌, ◌≤◌, ◌<◌, ℕ, zero, suc, [], ◌∷◌, slice_index_or, None, refl, arith, inl, inr}
use Rattle.std.specs.declared.cmp.Ordering.TheVariants.{Greater}
use Rattle.page_view.specs.Keys.{keys_of, key_cmp}
use Rattle.bplus_tree.specs.declared.want.Want.{Want}
use Rattle.bplus_tree.specs.declared.want.Want.TheVariants.{Need, Leaf, Finished}
use Rattle.bplus_tree.specs.Walk.{Walking, start, LeadsTo}
use Rattle.tree_timeline.specs.Walks.{Walk, LightWalk}
use Rattle.tree_timeline.specs.Searching.{Searches}
use Rattle.tree_timeline.specs.Example.{first_entry, whole, halved, splitting, visit, across}
use Rattle.tree_timeline.proofs.ExampleTrees.{is_first, equal_greater}

-- the empty key leads to the first child
whole_leads : LeadsTo (whole 1) [] 2
whole_leads = (0, first_entry, (omega arith, (λ e. equal_greater e), after), refl, is_first, refl)
  where
    after : (i : ℕ) → 1 ≤ i → i < 2
        → key_cmp (slice_index_or (keys_of (whole 1).items) i []) [] ≡ Greater
    after zero a b = absurd (omega (arith, a))
    after (suc zero) a b = refl
    after (suc (suc i)) a b = absurd (omega (arith, b))

halved_leads : LeadsTo (halved 1) [] 2
halved_leads = (0, first_entry, (omega arith, (λ e. equal_greater e), after), refl, is_first, refl)
  where
    after : (i : ℕ) → 1 ≤ i → i < 3
        → key_cmp (slice_index_or (keys_of (halved 1).items) i []) [] ≡ Greater
    after zero a b = absurd (omega (arith, a))
    after (suc zero) a b = refl
    after (suc (suc zero)) a b = refl
    after (suc (suc (suc i))) a b = absurd (omega (arith, b))

pub walk : Walk splitting 1 None None 0 (visit 0 2) (visit 1 3 ∷ visit 1 4 ∷ [])
walk = record {
  down = (2, 0, omega arith, stays, whole_leads, (refl, refl));
  along = (omega arith, refl, omega arith, (omega arith, refl, omega arith, tt));
  ends = inl refl;
}
  where
    stays : (v : ℕ) → 0 ≤ v → v ≤ 0 → splitting v 1 ≡ splitting 0 1
    stays zero a b = refl
    stays (suc v) a b = absurd (omega (arith, b))

pub light : LightWalk splitting 1 0 None None 0 1 (visit 1 2) (visit 1 3 ∷ visit 1 4 ∷ [])
light = record {
  after = omega arith;
  down = (2, 1, omega arith, halved_leads, omega arith, (refl, refl));
  along = (omega arith, refl, omega arith, (omega arith, refl, omega arith, tt));
  ends = inl refl;
}

abbrev searching : Want → ℕ → Walking
searching want passed = record { low = None; high = None; want = want; depth = 1; passed = passed }

pub search : Searches splitting 0 (start 1 None None) 0 (visit 0 1 ∷ visit 0 2 ∷ across) across
search = (
  searching (Need 2) 0,
  across,
  refl,
  omega arith,
  ((λ h. absurd (omega (arith, h))), λ h. (2, whole_leads, refl)),
  inr (omega arith),
  refl,
  (
    searching (Leaf 2) 0,
    across,
    refl,
    omega arith,
    refl,
    inr (omega arith),
    refl,
    (
      searching (Leaf 3) 1,
      visit 1 3 ∷ visit 1 4 ∷ [],
      refl,
      omega arith,
      refl,
      tt,
      refl,
      (
        searching (Leaf 4) 2,
        visit 1 4 ∷ [],
        refl,
        omega arith,
        refl,
        tt,
        refl,
        (searching Finished 2, [], refl, omega arith, refl, tt, refl, (refl, refl)),
      ),
    ),
  ),
)
