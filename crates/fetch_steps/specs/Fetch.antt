-- Stated: what contracts see of a fetch, and where it stands in the law of pages.
use Rattle.std.specs.Prelude.{◌≡◌, ℕ, Bool, true, false, Option, IsSome, option_map, if◌then◌else◌}
use Rattle.rm_base.specs.declared.places.Addr.{Addr}
use Rattle.page_image.specs.Image.{Image}
use Rattle.node_model.specs.Slots.{address_number}
use Rattle.node_model.specs.Call.{Call, is_of_work}
use Rattle.node_model.specs.Step.{Step, Step.Register, Step.LatchS, Step.Look, Step.Read, Step.ReleaseS, Step.LatchX, Step.LookAgain, Step.BackToS, Step.Get, Step.Write, Step.Clean, Step.LastS, Step.Held, Step.ReleaseDown, Step.ReleaseEnd, Step.RwLook, Step.RwRead, Step.RwBack, Step.RwEnd}
use Rattle.fetch_steps.specs.declared.place.Place.{Place}
use Rattle.fetch_steps.specs.declared.place.Place.TheVariants.{Register, LatchS, Look, Read, ReleaseS, LatchX, LookAgain, BackToS, LookBack, Get, Write, Clean, LastS, Held, ReleaseDown, ReleaseEnd, Done, RwLook, RwRead, RwBack, RwLookBack, RwEnd}

pub record Fetch : Type 0 where
  pub page : ℕ
  pub writer : Bool  -- the node is the RW
  pub address : Option Addr  -- the address that the node knows
  pub place : Place
  pub lsn : ℕ  -- the floor that storage is asked for; once it gave an image, the image's LSN
  pub unheard : Bool  -- the last try of a latch was lost or unseen

-- the step of a place, where v is the image that storage gave; a fetch that was given up waits for the answer to its call
abbrev pub step_at : Place → ℕ → Image → Bool → Step
step_at Register l v waits = Step.Register
step_at LatchS l v waits = Step.LatchS
step_at Look l v waits = Step.Look
step_at Read l v waits = Step.Read
step_at ReleaseS l v waits = Step.ReleaseS
step_at LatchX l v waits = Step.LatchX
step_at LookAgain l v waits = Step.LookAgain
step_at BackToS l v waits = Step.BackToS
step_at LookBack l v waits = Step.Look
step_at Get l v waits = Step.Get l
step_at Write l v waits = Step.Write v
step_at Clean l v waits = Step.Clean v
step_at LastS l v waits = Step.LastS v
step_at Held l v waits = Step.Held
step_at ReleaseDown l v waits = Step.ReleaseDown
step_at ReleaseEnd l v waits = if waits then Step.GivenUp else Step.ReleaseEnd
step_at Done l v waits = if waits then Step.GivenUp else Step.Idle
step_at RwLook l v waits = Step.RwLook
step_at RwRead l v waits = Step.RwRead
step_at RwBack l v waits = Step.RwBack
step_at RwLookBack l v waits = Step.RwLook
step_at RwEnd l v waits = Step.RwEnd v

-- the step of a fetch, where v is the image that storage gave, and the node's call about the page is this one
abbrev pub step_of : Fetch → Image → Call → Step
step_of f v call = step_at f.place f.lsn v (is_of_work call)

-- an address as the number that the law has for it
abbrev pub number_of : Addr → ℕ
number_of a = address_number a.slab a.incarnation a.slot

abbrev pub address_of : Fetch → Option ℕ
address_of f = option_map number_of f.address

-- at a place a latch is held, or its last try was lost or unseen
abbrev pub may_hold_at : Place → Bool → Bool
may_hold_at Register unheard = false
may_hold_at LatchS unheard = unheard
may_hold_at LatchX unheard = unheard
may_hold_at Done unheard = false
may_hold_at RwLook unheard = false
may_hold_at RwRead unheard = false
may_hold_at RwLookBack unheard = false
may_hold_at _ unheard = true

abbrev pub may_hold : Fetch → Bool
may_hold f = may_hold_at f.place f.unheard

-- the same of a step
abbrev pub holds_at : Step → Bool → Bool
holds_at Step.Idle unheard = false
holds_at Step.Register unheard = false
holds_at Step.LatchS unheard = unheard
holds_at Step.LatchX unheard = unheard
holds_at Step.RwLook unheard = false
holds_at Step.RwRead unheard = false
holds_at _ unheard = true

-- at these steps a latch is tried, and none is held
abbrev pub tries : Step → Bool
tries Step.LatchS = true
tries Step.LatchX = true
tries _ = false

-- a fetch that is not to register the page first, and is not over, knows its address
abbrev pub needs_address : Place → Bool
needs_address Register = false
needs_address Held = false
needs_address ReleaseEnd = false
needs_address Done = false
needs_address _ = true

abbrev pub IsPlaced : Place → Option Addr → Type 0
IsPlaced place address = needs_address place ≡ true → IsSome address

-- the image that storage gave is the one whose LSN the home will be told
abbrev pub HasImageAt : Place → ℕ → Image → Type 0
HasImageAt Write lsn v = lsn ≡ v.lsn
HasImageAt Clean lsn v = lsn ≡ v.lsn
HasImageAt _ lsn v = Unit {0}

abbrev pub HasImage : Fetch → Image → Type 0
HasImage f v = HasImageAt f.place f.lsn v
