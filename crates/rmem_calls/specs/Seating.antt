-- Stated: the addresses of the entries as slots of the slabs.
use Rattle.std.specs.Prelude.{◌≡◌, ℕ, true, false, List, Some}
use Rattle.slab_node.specs.Free.{is_free}
use Rattle.slab_node.specs.Slab.{SlabState}
use Rattle.slab_node.specs.Slabs.{slab_at}
pub use Rattle.home_tables.specs.Table.{slot_in, slab_in, incarnation_in}
use Rattle.home_tables.specs.Home.{HomeState, entry_at}

-- an address on a live slab has its incarnation and a slot that is taken, and no two entries share an address
pub record AreSeated (H : HomeState) (slabs : List SlabState) : Type 0 where
  pub incarnation : (p x : ℕ) → (entry_at H p).address ≡ Some x → (slab_at slabs (slab_in x)).up ≡ true → incarnation_in x ≡ (slab_at slabs (slab_in x)).incarnation
  pub taken : (p x : ℕ) → (entry_at H p).address ≡ Some x → (slab_at slabs (slab_in x)).up ≡ true → is_free (slab_at slabs (slab_in x)).taken (slot_in x) ≡ false
  pub apart : (p q x : ℕ) → (entry_at H p).address ≡ Some x → (entry_at H q).address ≡ Some x → p ≡ q
