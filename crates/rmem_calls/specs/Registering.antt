-- Stated: what `register` of page p by node n does, and what it answers.
use Rattle.std.specs.Prelude.{◌≡◌, ◌<◌, ◌⊎◌, ℕ, Bool, true, false, List, Some, None}
use Rattle.rm_base.specs.declared.places.Addr.{Addr}
use Rattle.home_model.specs.Numbered.{put}
use Rattle.home_model.specs.Entry.{registered, takes_slot}
use Rattle.slab_node.specs.Slab.{SlabState}
use Rattle.slab_node.specs.Slabs.{NoRoom, IsLeastSlot, took_at, live_slots}
use Rattle.home_tables.specs.Table.{address_number}
use Rattle.home_tables.specs.Home.{HomeState, entry_at}
use Rattle.home_tables.specs.Replacing.{Replaces}
use Rattle.message_network.specs.declared.calls.Reply.{Reply}
use Rattle.message_network.specs.declared.calls.Reply.TheVariants.{Registered, PoolFull, Unregistered, Started, Done, Appended, Got, Fenced}
use Rattle.rmem_calls.specs.Giving.{may_give, IsLeastPage}

-- page p has its slot: n joins its nodes, and nothing else changes
pub record Joins (before after : HomeState) (slabs slabs' : List SlabState) (n p : ℕ) : Type 0 where
  pub slot : takes_slot (entry_at before p) ≡ false
  pub entry : entry_at after ≡ put (entry_at before) p (registered (entry_at before p) before.watermark 0 n)
  pub watermark : after.watermark ≡ before.watermark
  pub rest : slabs' ≡ slabs

-- page p takes the least free slot of the least live slab that has one
pub record TakesFree (before after : HomeState) (slabs slabs' : List SlabState) (n p : ℕ) (a : Addr) : Type 0 where
  pub takes : takes_slot (entry_at before p) ≡ true
  pub least : IsLeastSlot slabs a
  pub entry : entry_at after ≡ put (entry_at before) p (registered (entry_at before p) before.watermark (address_number a) n)
  pub watermark : after.watermark ≡ before.watermark
  pub taken : slabs' ≡ took_at slabs a

-- no live slab has a free slot, and page p takes the slot of the least page that may be given away, which goes first
pub record TakesGiven (before after : HomeState) (slabs slabs' : List SlabState) (n p given : ℕ) (a : Addr) : Type 0 where
  pub takes : takes_slot (entry_at before p) ≡ true
  pub full : NoRoom slabs
  pub least : IsLeastPage (may_give before slabs) (Some given)
  pub page : given < 32768
  pub slot : (entry_at before given).address ≡ Some (address_number a)
  pub entry : Replaces before after given p n (address_number a)
  pub rest : slabs' ≡ slabs

-- page p takes a slot and there is none: no live slab has a free one, and no page may be given away
pub record IsFull (H : HomeState) (slabs : List SlabState) (p : ℕ) : Type 0 where
  pub takes : takes_slot (entry_at H p) ≡ true
  pub full : NoRoom slabs
  pub none : IsLeastPage (may_give H slabs) None

-- the answer tells the address, the bit and the floor of the entry
pub record Tells (H : HomeState) (p : ℕ) (a : Addr) (bit : Bool) (floor : ℕ) : Type 0 where
  pub address : (entry_at H p).address ≡ Some (address_number a)
  pub is_bit : (entry_at H p).bit ≡ bit
  pub is_floor : (entry_at H p).floor ≡ floor

-- the answer tells the page's address, bit and floor
abbrev pub TellsEntry : HomeState → ℕ → Reply → Type 0
TellsEntry H p (Registered a bit floor) = Tells H p a bit floor
TellsEntry H p (PoolFull slots) = ⊥
TellsEntry H p Unregistered = ⊥
TellsEntry H p (Started due) = ⊥
TellsEntry H p Done = ⊥
TellsEntry H p (Appended answer) = ⊥
TellsEntry H p (Got answer) = ⊥
TellsEntry H p (Fenced epoch) = ⊥

abbrev pub IsPoolFull : Reply → Type 0
IsPoolFull (Registered a bit floor) = ⊥
IsPoolFull (PoolFull slots) = Unit {0}
IsPoolFull Unregistered = ⊥
IsPoolFull (Started due) = ⊥
IsPoolFull Done = ⊥
IsPoolFull (Appended answer) = ⊥
IsPoolFull (Got answer) = ⊥
IsPoolFull (Fenced epoch) = ⊥

-- page p has a slot for n: its own, the least free one, or that of the least page that may be given away
abbrev pub Seats : HomeState → HomeState → List SlabState → List SlabState → ℕ → ℕ → Type 0
Seats H H' S S' n p = Joins H H' S S' n p ⊎ (((a : Addr) × TakesFree H H' S S' n p a) ⊎ ((given : ℕ) × (a : Addr) × TakesGiven H H' S S' n p given a))

-- the answer PoolFull tells the number of slots of all live slabs, and nothing changes
pub record Refuses (before after : HomeState) (slabs slabs' : List SlabState) (p count : ℕ) : Type 0 where
  pub full : IsFull before slabs p
  pub is_count : count ≡ live_slots slabs
  pub home : after ≡ before
  pub rest : slabs' ≡ slabs

-- what `register` did by its answer
abbrev pub RegisterAnswers : HomeState → HomeState → List SlabState → List SlabState → ℕ → ℕ → Reply → Type 0
RegisterAnswers H H' S S' n p (Registered a bit floor) = Seats H H' S S' n p × Tells H' p a bit floor
RegisterAnswers H H' S S' n p (PoolFull slots) = Refuses H H' S S' p slots
RegisterAnswers H H' S S' n p Unregistered = ⊥
RegisterAnswers H H' S S' n p (Started due) = ⊥
RegisterAnswers H H' S S' n p Done = ⊥
RegisterAnswers H H' S S' n p (Appended answer) = ⊥
RegisterAnswers H H' S S' n p (Got answer) = ⊥
RegisterAnswers H H' S S' n p (Fenced epoch) = ⊥
