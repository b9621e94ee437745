-- Stated: the home's entry of a page, and what each call of a node and each event of the home does to it.
use Rattle.std.specs.Prelude.{ℕ, Bool, true, false, Option, Some, None, max, if◌then◌else◌, nat_eq, nat_le, not, ◌&&◌}
use Rattle.home_model.specs.Numbered.{put, nobody}
use Rattle.home_model.specs.Latch.{Latch, free_latch, grant_s, grant_x, released}

-- the entry of a page, whether it is there or not. Bit 1 (true) says that the pool's copy may not be the latest; a loader
-- takes the page from storage only at an LSN of at least the floor
pub record Entry : Type 0 where
  pub there : Bool
  pub address : Option ℕ  -- the slot that holds the page
  pub bit : Bool
  pub lsn : ℕ  -- of the last clean
  pub floor : ℕ
  pub refs : ℕ → Bool  -- the nodes that registered the page
  pub due : ℕ → Bool  -- those whose local bit is still to be set
  pub latch : Latch

abbrev pub no_entry : Entry
no_entry = record {
  there = false;
  address = None;
  bit = true;
  lsn = 0;
  floor = 0;
  refs = nobody;
  due = nobody;
  latch = free_latch;
}

-- an entry takes a slot as it is made, or where it has lost its own
abbrev pub takes_slot : Entry → Bool
takes_slot E = if E.there then in_case E.address else true
  where
    in_case : Option ℕ → Bool
    in_case (Some a) = false
    in_case None = true

abbrev pub address_or : Option ℕ → ℕ → ℕ
address_or (Some a) b = a
address_or None b = b

-- the entry is there with an address: its own, or else `fresh`. A new entry has bit 1 and the watermark as its floor
abbrev pub entered : Entry → ℕ → ℕ → Entry
entered E watermark fresh =
    if E.there then record E { address = Some (address_or E.address fresh) }
    else record {
      there = true;
      address = Some fresh;
      bit = true;
      lsn = 0;
      floor = watermark;
      refs = nobody;
      due = nobody;
      latch = E.latch;
    }

-- `register` by n
abbrev pub registered : Entry → ℕ → ℕ → ℕ → Entry
registered E watermark fresh n = let N : Entry = entered E watermark fresh in record N { refs = put N.refs n true }

-- the address in the answer to `register`
abbrev pub told_address : Entry → ℕ → ℕ
told_address E fresh = if E.there then address_or E.address fresh else fresh

-- `unregister` by n
abbrev pub unregistered : Entry → ℕ → Entry
unregistered E n = record E { refs = put E.refs n false }

-- who is due where n changes the page: the other nodes with a reference whose local bit is not set
abbrev pub due_beside : Entry → (ℕ → Bool) → ℕ → ℕ → Bool
due_beside E fresh n m = E.refs m && not (nat_eq m n) && fresh m

-- `invalidate` by n, where `fresh` are the nodes whose local bit of the page is not set
abbrev pub invalidated : Entry → (ℕ → Bool) → ℕ → Entry
invalidated E fresh n = record E { bit = true; floor = max E.floor E.lsn; due = due_beside E fresh n }

-- the local bit of n was set
abbrev pub struck : Entry → ℕ → Entry
struck E n = record E { due = put E.due n false }

-- `clean`, by a node that wrote the image with this LSN
abbrev pub cleaned : Entry → ℕ → Entry
cleaned E lsn = record E { bit = false; lsn = lsn }

-- the calls of the latch
abbrev pub shared_by : Entry → ℕ → Entry
shared_by E n = record E { latch = grant_s E.latch n }

abbrev pub excluded_by : Entry → ℕ → Entry
excluded_by E n = record E { latch = grant_x E.latch n }

abbrev pub released_by : Entry → ℕ → Entry
released_by E n = record E { latch = released E.latch n }

-- `kick` of n: its reference, its due pair and its latch go
abbrev pub kicked : Entry → ℕ → Entry
kicked E n = record E { refs = put E.refs n false; due = put E.due n false; latch = released E.latch n }

-- `drop slab` of the entry's slab
abbrev pub dropped : Entry → Entry
dropped E = record E { address = None; bit = true; floor = max E.floor E.lsn }

-- the watermark after an entry was given away
abbrev pub raised : Entry → ℕ → ℕ
raised E watermark = max watermark (max E.lsn E.floor)

-- Sweep keeps an entry whose slot holds what the tail has of the page
abbrev pub stays : Entry → ℕ → Bool
stays E tail = E.there && not E.bit && nat_le E.lsn tail

-- Sweep at a tail: references, due pairs and latches go, floors become the tail, and what may be past the tail goes whole
abbrev pub swept : Entry → ℕ → Entry
swept E tail =
    if stays E tail then record E { floor = tail; refs = nobody; due = nobody; latch = free_latch } else no_entry
