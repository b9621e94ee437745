-- Stated: the slabs of a cluster as a list, each at the place of its number.
use Rattle.std.specs.Prelude.{◌≡◌, ◌≤◌, ◌<◌, ℕ, Bool, true, false, ◌&&◌, List, [], length, replicate, nat_lt, if◌then◌else◌, slice_set, slice_index_or}
use Rattle.std.specs.List.{sum_by}
use Rattle.rm_base.specs.declared.places.Addr.{Addr}
use Rattle.slab_node.specs.Free.{IsFirstFree, count_free}
use Rattle.page_image.specs.Image.{Image}
use Rattle.slab_node.specs.Slab.{SlabState, took, gave_back, written, crashed, restarted, IsSlab}

-- where no slab is, as if one without slots were down there
abbrev pub no_slab : SlabState
no_slab = record { id = 0; incarnation = 0; up = false; pages = []; taken = [] }

-- the slab with that number
abbrev pub slab_at : List SlabState → ℕ → SlabState
slab_at slabs i = slice_index_or slabs i no_slab

-- each slab is at the place of its number, and its slots are its own
pub record AreSlabs (slabs : List SlabState) : Type 0 where
  pub few : length slabs ≤ 16
  pub numbered : (i : ℕ) → i < length slabs → (slab_at slabs i).id ≡ i
  pub sizes : (i : ℕ) → i < length slabs → length (slab_at slabs i).pages < 65536
  pub whole : (i : ℕ) → i < length slabs → IsSlab (slab_at slabs i)

-- a slab in its first incarnation, with so many slots, which are all free
pub record IsNew (slots : ℕ) (S : SlabState) : Type 0 where
  pub up : S.up ≡ true
  pub incarnation : S.incarnation ≡ 1
  pub free : S.taken ≡ replicate slots false

abbrev pub AreNew : List SlabState → ℕ → Type 0
AreNew slabs slots = (i : ℕ) → i < length slabs → IsNew slots (slab_at slabs i)

-- the slab is up and has a free slot
abbrev pub has_room : SlabState → Bool
has_room S = S.up && nat_lt 0 (count_free S.taken)

-- no live slab has a free slot
abbrev pub NoRoom : List SlabState → Type 0
NoRoom slabs = (i : ℕ) → has_room (slab_at slabs i) ≡ false

-- the address is that of the least free slot of the least live slab that has one
pub record IsLeastSlot (slabs : List SlabState) (a : Addr) : Type 0 where
  pub slab : a.slab < length slabs
  pub up : (slab_at slabs a.slab).up ≡ true
  pub incarnation : a.incarnation ≡ (slab_at slabs a.slab).incarnation
  pub slot : IsFirstFree (slab_at slabs a.slab).taken a.slot
  pub within : a.slot < length (slab_at slabs a.slab).pages
  pub least : (i : ℕ) → i < a.slab → has_room (slab_at slabs i) ≡ false

-- the address is of a slot of a slab that is up, in its incarnation
pub record IsSlotOf (slabs : List SlabState) (a : Addr) : Type 0 where
  pub slab : a.slab < length slabs
  pub up : (slab_at slabs a.slab).up ≡ true
  pub incarnation : a.incarnation ≡ (slab_at slabs a.slab).incarnation
  pub within : a.slot < length (slab_at slabs a.slab).pages

-- the address names a slab of the list and a slot of that slab
pub record IsPlace (slabs : List SlabState) (a : Addr) : Type 0 where
  pub slab : a.slab < length slabs
  pub slot : a.slot < length (slab_at slabs a.slab).pages

-- slab i becomes S
abbrev pub with_slab : List SlabState → ℕ → SlabState → List SlabState
with_slab slabs i S = slice_set slabs i S

-- the slot at the address is taken, or given back
abbrev pub took_at : List SlabState → Addr → List SlabState
took_at slabs a = with_slab slabs a.slab (took (slab_at slabs a.slab) a.slot)

abbrev pub gave_back_at : List SlabState → Addr → List SlabState
gave_back_at slabs a = with_slab slabs a.slab (gave_back (slab_at slabs a.slab) a.slot)

-- the slot at the address holds the image
abbrev pub wrote_at : List SlabState → Addr → Image → List SlabState
wrote_at slabs a image = with_slab slabs a.slab (written (slab_at slabs a.slab) a.slot image)

-- slab k goes down, or comes up again
abbrev pub crashed_at : List SlabState → ℕ → List SlabState
crashed_at slabs k = with_slab slabs k (crashed (slab_at slabs k))

abbrev pub restarted_at : List SlabState → ℕ → List SlabState
restarted_at slabs k = with_slab slabs k (restarted (slab_at slabs k))

-- the slots of a slab that is up
abbrev pub slots_up : SlabState → ℕ
slots_up S = if S.up then length S.pages else 0

-- the number of slots of all live slabs
abbrev pub live_slots : List SlabState → ℕ
live_slots slabs = sum_by slots_up slabs
