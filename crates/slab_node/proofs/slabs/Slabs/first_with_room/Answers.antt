use Rattle.std.proofs.Common.{◌≡◌, ◌<◌, ◌≤◌, ℕ, Bool, true, false, nat_lt, length, refl, subst, List, arith}
use Rattle.std.proofs.lemmas.Bool.{ltb-true, ltb-false}
use Rattle.slab_node.specs.Slab.{SlabState}
use Rattle.slab_node.specs.Slabs.{has_room, slab_at}
use Rattle.slab_node.proofs.SlabLists.{room_past}
use Rattle.slab_node.proofs.slabs.Slabs.first_with_room.Goals as goal

past_all : (xs : List SlabState) (k i : ℕ) → ((j : ℕ) → j < k → has_room (slab_at xs j) ≡ false) → length xs ≤ k → has_room (slab_at xs i) ≡ false
past_all xs k i below end = by (nat_lt i k) refl
  where
    by : (b : Bool) → nat_lt i k ≡ b → has_room (slab_at xs i) ≡ false
    by true h = below i (ltb-true i k h)
    by false h = let past : k ≤ i = ltb-false i k h in room_past xs i (omega arith)

pub returns-clause-none : goal.returns-clause-none
returns-clause-none c =
    λ none i.
    subst (λ (xs : List SlabState). has_room (slab_at xs i) ≡ false) c.as_slice-slabs.ensures.slabs
    (past_all c.as_slice-slabs.result.now c.loop-place.place i c.loop-place.invariant c.loop-place-test.false)
