-- Stated: which slots a sweep frees.
use Rattle.std.specs.Prelude.{◌≡◌, ◌<◌, ℕ, true, false, List, length, Some}
use Rattle.home_model.specs.Entry.{Entry as HomeEntry, stays}
use Rattle.slab_node.specs.Free.{is_free}
use Rattle.slab_node.specs.Slab.{SlabState}
use Rattle.slab_node.specs.Slabs.{slab_at}
use Rattle.home_tables.specs.Table.{slot_in, slab_in, incarnation_in}
use Rattle.home_tables.specs.Home.{HomeState, entry_at}

-- the entry has the address x, and the sweep at the tail removes it
abbrev pub Goes : HomeEntry → ℕ → ℕ → Type 0
Goes E tail x = (E.address ≡ Some x) × (stays E tail ≡ false)

-- an entry with the address x is removed
abbrev pub GoesAt : HomeState → ℕ → ℕ → Type 0
GoesAt H tail x = (p : ℕ) × Goes (entry_at H p) tail x

-- the address x is of a slot of a slab that is up, in its incarnation
pub record IsLive (slabs : List SlabState) (x : ℕ) : Type 0 where
  pub up : (slab_at slabs (slab_in x)).up ≡ true
  pub incarnation : incarnation_in x ≡ (slab_at slabs (slab_in x)).incarnation
  pub within : slot_in x < length (slab_at slabs (slab_in x)).pages

-- which slots are taken may differ, and nothing else
abbrev pub IsSameButTaken : SlabState → SlabState → Type 0
IsSameButTaken before after = after ≡ record before { taken = after.taken }

-- the slots at the live addresses with T are free, and exactly these have become so
pub record Frees (T : ℕ → Type 0) (before after : List SlabState) : Type 0 where
  pub rest : (k : ℕ) → IsSameButTaken (slab_at before k) (slab_at after k)
  pub freed : (x : ℕ) → T x → IsLive before x → is_free (slab_at after (slab_in x)).taken (slot_in x) ≡ true
  pub stays : (k s : ℕ) → is_free (slab_at before k).taken s ≡ true → is_free (slab_at after k).taken s ≡ true
  pub others : (k s : ℕ) → ((x : ℕ) → T x → IsLive before x → slab_in x ≡ k → slot_in x ≡ s → ⊥) → is_free (slab_at after k).taken s ≡ is_free (slab_at before k).taken s
