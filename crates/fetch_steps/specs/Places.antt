-- Stated: what each answer makes of a fetch, field by field.
use Rattle.std.specs.Prelude.{ℕ, Bool, true, false, Option, Some, None, Result, Ok, Err, if◌then◌else◌}
use Rattle.rm_base.specs.declared.places.Addr.{Addr}
use Rattle.page_latches.specs.declared.latch.Latch.{Latch}
use Rattle.page_latches.specs.declared.latch.Latch.TheVariants.{Granted, Busy}
use Rattle.message_model.specs.declared.Got.{Got}
use Rattle.message_model.specs.declared.Got.TheVariants.{Image as Given, NotYet}
use Rattle.message_network.specs.declared.calls.Reply.{Reply}
use Rattle.message_network.specs.declared.calls.Reply.TheVariants.{Registered, Got as GotReply}
use Rattle.slab_node.specs.declared.slab.SlabNo.{SlabNo}
use Rattle.fetch_steps.specs.declared.place.Place.{Place}
use Rattle.fetch_steps.specs.declared.place.Place.TheVariants.{Register, LatchS, Look, Read, ReleaseS, LatchX, LookAgain, BackToS, LookBack, Get, Write, Clean, LastS, Held, ReleaseDown, ReleaseEnd, Done, RwLook, RwRead, RwBack, RwLookBack, RwEnd}
use Rattle.message_network.specs.declared.looks.Seen.{Seen}
use Rattle.fetch_steps.specs.declared.acts.Told.{Told}
use Rattle.fetch_steps.specs.declared.acts.Told.TheVariants.{Answer, Latch as Tried, Seen as Looked, Slab, Cleaned, Installed, NoAnswer}
use Rattle.fetch_steps.specs.Fetch.{Fetch, may_hold}
use Rattle.fetch_steps.specs.Telling.{shown}

-- the first place of a page that has an address
abbrev pub first_place : Bool → Place
first_place writer = if writer then RwLook else LatchS

-- a fetch begins
abbrev pub first_with : Bool → Option Addr → Place
first_with writer None = Register
first_with writer (Some address) = first_place writer

abbrev pub begun : ℕ → Bool → Option Addr → Fetch
begun page writer address = record {
  page = page;
  writer = writer;
  address = address;
  place = first_with writer address;
  lsn = 0;
  unheard = false;
}

-- a try was granted, or a release was made
abbrev pub place_granted : Place → Place
place_granted LatchS = Look
place_granted BackToS = LookBack
place_granted LastS = Held
place_granted ReleaseS = LatchX
place_granted LatchX = LookAgain
place_granted ReleaseDown = Register
place_granted ReleaseEnd = Done
place_granted RwBack = RwLookBack
place_granted RwEnd = Done
place_granted place = place

abbrev pub address_granted : Place → Option Addr → Option Addr
address_granted ReleaseDown address = None
address_granted place address = address

abbrev pub granted : Fetch → Fetch
granted f = record f { place = place_granted f.place; address = address_granted f.place f.address; unheard = false }

abbrev pub tried : Fetch → Latch → Fetch
tried f Granted = granted f
tried f (Busy holders) = record f { unheard = false }

-- the entry was seen
abbrev pub place_under_x : Bool → Bool → Option Addr → Place
place_under_x writer bit None = ReleaseDown
place_under_x writer bit (Some address) = if bit then Get else (if writer then RwBack else BackToS)

abbrev pub place_seen : Bool → Seen → Place → Place
place_seen writer seen Look = if seen.bit then ReleaseS else Read
place_seen writer seen LookBack = if seen.bit then ReleaseS else Read
place_seen writer seen RwLook = if seen.bit then LatchX else RwRead
place_seen writer seen RwLookBack = if seen.bit then LatchX else RwRead
place_seen writer seen LookAgain = place_under_x writer seen.bit seen.addr
place_seen writer seen place = place

abbrev pub lsn_seen : Seen → Place → ℕ → ℕ
lsn_seen seen LookAgain lsn = seen.floor
lsn_seen seen place lsn = lsn

abbrev pub looked : Fetch → Seen → Fetch
looked f seen = record f { place = place_seen f.writer seen f.place; lsn = lsn_seen seen f.place f.lsn }

-- the slot was read or written
abbrev pub place_moved : Place → Place
place_moved Read = Held
place_moved RwRead = Done
place_moved Write = Clean
place_moved place = place

abbrev pub moved : Fetch → Fetch
moved f = record f { place = place_moved f.place }

-- the slab is down, or has another incarnation
abbrev pub place_lost : Place → Place
place_lost Read = ReleaseDown
place_lost RwRead = Register
place_lost Write = ReleaseDown
place_lost Clean = ReleaseDown
place_lost place = place

abbrev pub address_lost : Place → Option Addr → Option Addr
address_lost RwRead address = None
address_lost place address = address

abbrev pub lost : Fetch → Fetch
lost f = record f { place = place_lost f.place; address = address_lost f.place f.address }

abbrev pub place_cleaned : Bool → Bool → Place → Place
place_cleaned writer there Clean = if there then (if writer then RwEnd else LastS) else ReleaseDown
place_cleaned writer there place = place

abbrev pub cleaned : Fetch → Bool → Fetch
cleaned f there = record f { place = place_cleaned f.writer there f.place }

-- nothing is known of the access
abbrev pub unheard_after : Place → Bool → Bool
unheard_after LatchS unheard = true
unheard_after LatchX unheard = true
unheard_after place unheard = unheard

abbrev pub missed : Fetch → Fetch
missed f = record f { unheard = unheard_after f.place f.unheard }

-- the page is registered
abbrev pub place_registered : Bool → Place → Place
place_registered writer Register = first_place writer
place_registered writer place = place

abbrev pub registered : Fetch → Addr → Fetch
registered f address = record f { place = place_registered f.writer f.place; address = Some address }

-- storage gave an image of this LSN
abbrev pub place_loaded : Place → Place
place_loaded Get = Write
place_loaded place = place

abbrev pub lsn_loaded : ℕ → Place → ℕ → ℕ
lsn_loaded lsn Get before = lsn
lsn_loaded lsn place before = before

abbrev pub loaded : Fetch → ℕ → Fetch
loaded f lsn = record f { place = place_loaded f.place; lsn = lsn_loaded lsn f.place f.lsn }

abbrev pub got : Fetch → Got → Fetch
got f (Given v) = loaded f v.lsn
got f (NotYet applied) = f

abbrev pub answered : Fetch → Reply → Fetch
answered f (Registered address bit floor) = registered f address
answered f (GotReply outcome) = got f outcome
answered f _ = f

abbrev pub served : Fetch → Result (Unit {0}) SlabNo → Fetch
served f (Ok u) = moved f
served f (Err why) = lost f

-- the fetch after what is told
abbrev pub after : Fetch → Told → Fetch
after f (Answer reply) = answered f reply
after f (Tried latch) = tried f latch
after f (Looked seen) = looked f (shown seen)
after f (Slab outcome) = served f outcome
after f (Cleaned there) = cleaned f there
after f Installed = f
after f NoAnswer = missed f

-- the fetch is given up
abbrev pub ended : Fetch → Fetch
ended f = record f { place = if may_hold f then ReleaseEnd else Done; unheard = false }

-- the node has a copy that it may use
abbrev pub place_with_copy : Place → Place
place_with_copy Look = Held
place_with_copy LookBack = Held
place_with_copy RwLook = Done
place_with_copy RwLookBack = Done
place_with_copy place = place

abbrev pub with_its_copy : Fetch → Fetch
with_its_copy f = record f { place = place_with_copy f.place }
