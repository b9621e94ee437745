-- Stated: the entry of a page, as the model of the home has it, and whether its page may be given away.
use Rattle.std.specs.Prelude.{ℕ, ◌+◌, ◌*◌, ◌/◌, ◌%◌, Bool, true, false, ◌&&◌, List, [], ◌∷◌, nat_eq, Option, Some, None, option_map}
use Rattle.rm_base.specs.declared.places.Addr.{Addr}
use Rattle.home_model.specs.Numbered.{put}
use Rattle.home_model.specs.Entry.{Entry as HomeEntry, no_entry}
use Rattle.page_latches.specs.Set.{has}
use Rattle.page_latches.specs.Holding.{latch_of}
use Rattle.page_latches.specs.declared.latch.Holders.{Holders}
use Rattle.page_latches.specs.declared.latch.Holders.TheVariants.{Free, Shared, Exclusive}
use Rattle.home_tables.specs.declared.entry.Entry.{Entry}

-- an address as one number, of a slab below 32 and a slot below 65,536
abbrev pub address_number : Addr → ℕ
address_number a = (a.incarnation * 32 + a.slab) * 65536 + a.slot

-- the parts of an address that is one number
abbrev pub slot_in : ℕ → ℕ
slot_in x = x % 65536

abbrev pub slab_in : ℕ → ℕ
slab_in x = x / 65536 % 32

abbrev pub incarnation_in : ℕ → ℕ
incarnation_in x = x / 2097152

-- the entry of a page, whether it is there or not
abbrev pub entry_of : Option Entry → HomeEntry
entry_of None = no_entry
entry_of (Some e) = record { there = true; address = option_map address_number e.addr; bit = e.bit; lsn = e.lsn; floor = e.floor; refs = has e.refs; due = has e.due; latch = latch_of e.latch }

abbrev pub is_on : ℕ → Option Addr → Bool
is_on slab None = false
is_on slab (Some a) = nat_eq a.slab slab

abbrev pub is_none_of : List ℕ → Bool
is_none_of [] = true
is_none_of (n ∷ nodes) = false

abbrev pub is_free : Holders → Bool
is_free Free = true
is_free (Shared nodes) = false
is_free (Exclusive n) = false

-- nobody refers to it and its latch is free
abbrev pub is_idle : Entry → Bool
is_idle e = is_none_of e.refs && is_free e.latch

-- the page may be given away for its slot of that slab
abbrev pub is_idle_on : ℕ → Option Entry → Bool
is_idle_on slab None = false
is_idle_on slab (Some e) = is_on slab e.addr && is_idle e

-- n has a reference
abbrev pub referred : HomeEntry → ℕ → HomeEntry
referred E n = record E { refs = put E.refs n true }
