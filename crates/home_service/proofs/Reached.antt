-- An address that is a slot of a slab, or is none.
use Rattle.std.proofs.Common.{◌≡◌, ℕ, zero, suc, false, List, [], ◌∷◌, Some, None, refl}
use Rattle.std.specs.List.{slice_get}
use Rattle.slab_node.specs.Slab.{SlabState}
use Rattle.slab_node.specs.Slabs.{slab_at}

pub slab_there : (slabs : List SlabState) (k : ℕ) (T : SlabState) → slice_get slabs k ≡ Some T → slab_at slabs k ≡ T
slab_there [] k T h = absurd cc
slab_there (x ∷ slabs) zero T h = cc
slab_there (x ∷ slabs) (suc k) T h = slab_there slabs k T h

pub none_down : (slabs : List SlabState) (k : ℕ) → slice_get slabs k ≡ None → (slab_at slabs k).up ≡ false
none_down [] k h = refl
none_down (x ∷ slabs) zero h = absurd cc
none_down (x ∷ slabs) (suc k) h = none_down slabs k h
