-- Stated: where a node's fetch or plan stands with one page.
use Rattle.std.specs.Prelude.{ℕ, Bool, true, false, if◌then◌else◌, nat_eq}
use Rattle.page_image.specs.Image.{Image}

pub data Step : Type 0 where
  Idle : Step
  -- a fetch
  Register : Step  -- the page is to be registered
  LatchS : Step  -- S is tried
  Look : Step  -- holds S
  Read : Step  -- holds S and saw bit 0
  ReleaseS : Step  -- saw bit 1: S is to go, then X
  LatchX : Step  -- X is tried
  LookAgain : Step  -- holds X
  BackToS : Step  -- holds X and saw bit 0: S is tried
  Get : ℕ → Step  -- holds X and saw bit 1 with this floor: storage is asked
  Write : Image → Step  -- has this image of storage
  Clean : Image → Step  -- wrote it to its slot
  LastS : Image → Step  -- cleaned: S is tried
  Held : Step  -- finished, and holds S
  ReleaseDown : Step  -- a latch is to go, and the address with it
  ReleaseEnd : Step  -- a latch, if any is held, is to go
  GivenUp : Step  -- given up while a call is unanswered
  -- a fetch of the RW, which takes no S
  RwLook : Step
  RwRead : Step  -- saw bit 0
  RwBack : Step  -- holds X and saw bit 0: X is to go
  RwEnd : Image → Step  -- cleaned: X is to go
  -- a plan
  PlanMake : Step  -- a page that the plan makes is to be registered
  PlanLatch : Step  -- X is tried
  PlanInvalidate : Step  -- holds X: the home is asked to invalidate
  PlanInstall : Step  -- the home answered Done
  PlanWrite : Step  -- installed
  PlanClean : Step  -- written
  PlanRegister : Step  -- its slab was down: to be registered again
  PlanRelease : Step  -- cleaned: X is to go

-- the next act tries S
abbrev pub wants_s : Step → Bool
wants_s LatchS = true
wants_s BackToS = true
wants_s (LastS v) = true
wants_s _ = false

-- the next act tries X
abbrev pub wants_x : Step → Bool
wants_x LatchX = true
wants_x PlanLatch = true
wants_x _ = false

-- the next act releases
abbrev pub wants_release : Step → Bool
wants_release ReleaseS = true
wants_release ReleaseEnd = true
wants_release RwBack = true
wants_release (RwEnd v) = true
wants_release PlanRelease = true
wants_release ReleaseDown = true
wants_release _ = false

-- the next act asks to register
abbrev pub wants_register : Step → Bool
wants_register Register = true
wants_register PlanMake = true
wants_register PlanRegister = true
wants_register _ = false

-- the page was looked at and not yet read
abbrev pub is_reading : Step → Bool
is_reading Read = true
is_reading _ = false

-- a fetch or plan that may be given up: it is under way, and installed nothing
abbrev pub may_give_up : Step → Bool
may_give_up Idle = false
may_give_up Held = false
may_give_up ReleaseEnd = false
may_give_up GivenUp = false
may_give_up PlanWrite = false
may_give_up PlanClean = false
may_give_up PlanRegister = false
may_give_up PlanRelease = false
may_give_up _ = true

-- the RW changed the page and did not clean it yet
abbrev pub is_changed : Step → Bool
is_changed PlanWrite = true
is_changed PlanClean = true
is_changed PlanRegister = true
is_changed _ = false

-- a plan past its Latch phase that did not clean the page yet
abbrev pub is_past_latch : Step → Bool
is_past_latch PlanInvalidate = true
is_past_latch PlanInstall = true
is_past_latch PlanWrite = true
is_past_latch PlanClean = true
is_past_latch PlanRegister = true
is_past_latch _ = false

-- a plan from Done until its Release is made
abbrev pub is_after_done : Step → Bool
is_after_done PlanInstall = true
is_after_done PlanWrite = true
is_after_done PlanClean = true
is_after_done PlanRegister = true
is_after_done PlanRelease = true
is_after_done _ = false

-- the first act at a page with an address: the RW looks, another node takes S
abbrev pub first_step : ℕ → ℕ → Step
first_step r n = if nat_eq n r then RwLook else LatchS
