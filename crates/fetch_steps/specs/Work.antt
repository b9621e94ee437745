-- Stated: the acts that are left of a fetch, and what may get in its way.
use Rattle.std.specs.Prelude.{ℕ, ◌+◌, Bool, true, false, Option, Some, None, Err}
use Rattle.page_latches.specs.declared.latch.Latch.TheVariants.{Busy}
use Rattle.message_model.specs.declared.Got.TheVariants.{NotYet}
use Rattle.message_network.specs.declared.calls.Reply.{Reply}
use Rattle.message_network.specs.declared.calls.Reply.TheVariants.{PoolFull, Started, Got}
use Rattle.fetch_steps.specs.declared.place.Place.{Place}
use Rattle.fetch_steps.specs.declared.place.Place.TheVariants.{Register, LatchS, Look, Read, ReleaseS, LatchX, LookAgain, BackToS, LookBack, Get, Write, Clean, LastS, Held, ReleaseDown, ReleaseEnd, Done, RwLook, RwRead, RwBack, RwLookBack, RwEnd}
use Rattle.rm_base.specs.declared.places.Addr.{Addr}
use Rattle.message_network.specs.declared.looks.Seen.{Seen}
use Rattle.fetch_steps.specs.declared.acts.Told.{Told}
use Rattle.fetch_steps.specs.declared.acts.Told.TheVariants.{Answer, Latch as Tried, Seen as Looked, Slab, Cleaned, NoAnswer}
use Rattle.fetch_steps.specs.Fetch.{Fetch}
use Rattle.fetch_steps.specs.Telling.{shown}

-- the acts of a fetch from its first place with an address: the RW looks, tries X, looks again, gets, writes, cleans and
-- releases; another node tries S, looks and releases before, and tries S at the end
abbrev pub whole_fetch : Bool → ℕ
whole_fetch true = 7
whole_fetch false = 9

-- the acts of a fetch that begins with this address, or with none
abbrev pub acts_from_start : Bool → Option Addr → ℕ
acts_from_start writer None = 1 + whole_fetch writer
acts_from_start writer (Some address) = whole_fetch writer

-- the acts on the longest way to the end on which nothing gets in the way
abbrev pub left_at : Bool → Place → ℕ
left_at writer ReleaseDown = 2 + whole_fetch writer
left_at writer Register = 1 + whole_fetch writer
left_at writer LatchS = 9
left_at writer Look = 8
left_at writer ReleaseS = 7
left_at writer RwLook = 7
left_at writer LatchX = 6
left_at writer LookAgain = 5
left_at writer Get = 4
left_at writer Write = 3
left_at writer Clean = 2
left_at writer LastS = 1
left_at writer RwEnd = 1
left_at writer BackToS = 3
left_at writer RwBack = 3
left_at writer LookBack = 2
left_at writer RwLookBack = 2
left_at writer Read = 1
left_at writer RwRead = 1
left_at writer ReleaseEnd = 1
left_at writer Held = 0
left_at writer Done = 0

abbrev pub acts_left : Fetch → ℕ
acts_left f = left_at f.writer f.place

pub data Obstacle : Type 0 where
  Taken : Obstacle  -- the latch is held by another node
  Full : Obstacle  -- the home has no slot
  Behind : Obstacle  -- storage has not come to the floor
  Awaited : Obstacle  -- local bits are still to be set
  Unheard : Obstacle  -- the access was lost or unseen, or the home is down
  Lost : Obstacle  -- the slab is down or has another incarnation
  Gone : Obstacle  -- the home has no entry of the page
  Unplaced : Obstacle  -- the page has no address
  Again : Obstacle  -- bit 1 after bit 0 was seen under X

-- the page stands nowhere, under X
abbrev pub under_x : Option Addr → Option Obstacle
under_x None = Some Unplaced
under_x (Some address) = None

abbrev pub again : Bool → Option Obstacle
again true = Some Again
again false = None

abbrev pub obstacle_in_look : Seen → Place → Option Obstacle
obstacle_in_look seen LookAgain = under_x seen.addr
obstacle_in_look seen LookBack = again seen.bit
obstacle_in_look seen RwLookBack = again seen.bit
obstacle_in_look seen _ = None

abbrev pub obstacle_in_answer : Reply → Option Obstacle
obstacle_in_answer (PoolFull slots) = Some Full
obstacle_in_answer (Started due) = Some Awaited
obstacle_in_answer (Got (NotYet applied)) = Some Behind
obstacle_in_answer _ = None

-- what gets in the way of a fetch at this place, where it is told this
abbrev pub obstacle_at : Place → Told → Option Obstacle
obstacle_at place (Answer reply) = obstacle_in_answer reply
obstacle_at place (Tried (Busy holders)) = Some Taken
obstacle_at place (Looked seen) = obstacle_in_look (shown seen) place
obstacle_at place (Slab (Err why)) = Some Lost
obstacle_at place (Cleaned false) = Some Gone
obstacle_at place NoAnswer = Some Unheard
obstacle_at place _ = None

abbrev pub obstacle_of : Fetch → Told → Option Obstacle
obstacle_of f told = obstacle_at f.place told

-- these obstacles leave the work as it is; the others may make it longer, to at most that of a fetch that begins again
abbrev pub only_waits : Option Obstacle → Bool
only_waits None = false
only_waits (Some Taken) = true
only_waits (Some Full) = true
only_waits (Some Behind) = true
only_waits (Some Awaited) = true
only_waits (Some Unheard) = true
only_waits (Some Lost) = false
only_waits (Some Gone) = false
only_waits (Some Unplaced) = false
only_waits (Some Again) = false
