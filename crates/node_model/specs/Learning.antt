-- Stated: how a node's view of a page changes: what it begins, what it learns of an access or an answer, what it gives up.
use Rattle.std.specs.Prelude.{ℕ, Bool, true, false, Option, Some, None, if◌then◌else◌, nat_eq}
use Rattle.page_image.specs.Image.{Image}
use Rattle.node_model.specs.Step.{Step, Step.Idle, Step.Register, Step.LatchS, Step.Look, Step.Read, Step.ReleaseS, Step.LatchX, Step.LookAgain, Step.BackToS, Step.Get, Step.Write, Step.Clean, Step.LastS, Step.Held, Step.ReleaseDown, Step.ReleaseEnd, Step.GivenUp, Step.RwLook, Step.RwRead, Step.RwBack, Step.RwEnd, Step.PlanMake, Step.PlanLatch, Step.PlanInvalidate, Step.PlanInstall, Step.PlanWrite, Step.PlanClean, Step.PlanRegister, Step.PlanRelease, is_reading, first_step}
use Rattle.node_model.specs.Call.{Call, Call.Quiet, Call.AskUnregister, Call.ToldRegistered, Call.ToldImage, Call.ToldDone, is_of_work}
use Rattle.node_model.specs.Node.{Node}

abbrev pub stands : Node → Step → Node
stands N step = record N { step = step }

abbrev pub calls : Node → Call → Node
calls N call = record N { call = call }

-- ---------------- what a node does by itself

-- the first step of a fetch: a page without an address is registered first
abbrev pub begin_step : ℕ → ℕ → Option ℕ → Step
begin_step r n None = Register
begin_step r n (Some a) = first_step r n

-- a fetch begins; a page that is wanted again leaves the leaving list, with local bit 1
abbrev pub begun : ℕ → ℕ → Node → Node
begun r n N = record N { leaving = false; stale = if N.leaving then true else N.stale; step = begin_step r n N.address }

-- a plan asks for a page that it makes and that is not registered
abbrev pub begun_make : Node → Node
begun_make N = record N { leaving = false; stale = if N.leaving then true else N.stale; step = PlanMake }

-- a plan begins with a page that it makes and that is registered: its copy is the unmade page
abbrev pub made : Node → Image → Node
made N image = record N { leaving = false; stale = false; copy = Some image; step = PlanLatch }

-- the copy is dropped, and the page is to be unregistered
abbrev pub evicted : Node → Node
evicted N = record N { leaving = true; copy = None }

-- `unregister` is sent: the page is forgotten
abbrev pub parted : Node → Node
parted N = record N { kept = false; leaving = false; address = None; stale = true; call = AskUnregister }

-- the fetch or plan is given up: its call is awaited first; a page that was looked at and not yet read gets local bit 1
abbrev pub gives_up : Node → Node
gives_up N = record N {
  stale = if is_reading N.step then true else N.stale;
  step = if is_of_work N.call then GivenUp else ReleaseEnd;
}

-- a plan's group is applied to the copy
abbrev pub installs : Node → Image → Node
installs N image = record N { stale = false; copy = Some image; step = PlanWrite }

-- ---------------- what a node learns by an access

-- a copy with local bit 0 is used as it is
abbrev pub have : Option Image → Bool → Step
have (Some v) false = Held
have _ _ = Look

abbrev pub s_stale : Step → Bool → Bool
s_stale (LastS v) b = false
s_stale _ b = b

abbrev pub s_copy : Step → Option Image → Option Image
s_copy (LastS v) c = Some v
s_copy _ c = c

abbrev pub s_step : Step → Option Image → Bool → Step
s_step LatchS c b = have c b
s_step (LastS v) c b = Held
s_step _ c b = Look

-- S was granted
abbrev pub after_s : Node → Node
after_s N = record N {
  stale = s_stale N.step N.stale;
  copy = s_copy N.step N.copy;
  step = s_step N.step N.copy N.stale;
}

-- the bit was seen under S: with bit 0 the local bit becomes 0 and the slot is read, with bit 1 the page is loaded
abbrev pub look_stale : Bool → Bool → Bool
look_stale false b = false
look_stale true b = b

abbrev pub look_step : Bool → Step
look_step false = Read
look_step true = ReleaseS

abbrev pub after_look : Bool → Node → Node
after_look bit N = record N { stale = look_stale bit N.stale; step = look_step bit }

-- the bit was seen by the RW
abbrev pub after_rw_look : Bool → Step
after_rw_look false = RwRead
after_rw_look true = LatchX

-- bit and floor were seen under X
abbrev pub after_look_again : ℕ → ℕ → Bool → ℕ → Step
after_look_again r n true floor = Get floor
after_look_again r n false floor = if nat_eq n r then RwBack else BackToS

-- X was granted
abbrev pub after_x : Step → Step
after_x PlanLatch = PlanInvalidate
after_x _ = LookAgain

-- the slot was read
abbrev pub after_read : Node → Image → Node
after_read N image = record N { copy = Some image; step = Held }

abbrev pub after_rw_read : Node → Image → Node
after_rw_read N image = record N { stale = false; copy = Some image; step = Idle }

-- the latch was released
abbrev pub release_address : Step → Option ℕ → Option ℕ
release_address ReleaseDown a = None
release_address _ a = a

abbrev pub release_stale : Step → Bool → Bool
release_stale ReleaseDown b = true
release_stale (RwEnd v) b = false
release_stale _ b = b

abbrev pub release_copy : Step → Option Image → Option Image
release_copy (RwEnd v) c = Some v
release_copy _ c = c

abbrev pub release_step : Step → Step
release_step ReleaseS = LatchX
release_step ReleaseDown = Register
release_step RwBack = RwLook
release_step _ = Idle

abbrev pub after_release : Node → Node
after_release N = record N {
  address = release_address N.step N.address;
  stale = release_stale N.step N.stale;
  copy = release_copy N.step N.copy;
  step = release_step N.step;
}

-- the image that is to be written to the slot: what storage gave, or the plan's copy
abbrev pub writes : Node → Option Image
writes N = in_case N.step N.copy
  where
    in_case : Step → Option Image → Option Image
    in_case (Write v) c = Some v
    in_case PlanWrite c = c
    in_case _ c = None

abbrev pub after_write : Step → Step
after_write (Write v) = Clean v
after_write _ = PlanClean

-- the image that was written, and whose LSN the home is told
abbrev pub cleans : Node → Option Image
cleans N = in_case N.step N.copy
  where
    in_case : Step → Option Image → Option Image
    in_case (Clean v) c = Some v
    in_case PlanClean c = c
    in_case _ c = None

abbrev pub after_clean : ℕ → ℕ → Step → Step
after_clean r n (Clean v) = if nat_eq n r then RwEnd v else LastS v
after_clean r n _ = PlanRelease

-- ---------------- what a node learns of a slab that is down

-- at the read, the write or the clean of a fetch: the latch goes, the address is forgotten, the fetch begins again
abbrev pub after_down : Node → Node
after_down N = record N { stale = true; step = ReleaseDown }

abbrev pub after_rw_down : Node → Node
after_rw_down N = record N { address = None; stale = true; step = Register }

-- at the write or the clean of a plan: the page is registered again
abbrev pub after_plan_down : Node → Node
after_plan_down N = record N { address = None; step = PlanRegister }

-- ---------------- what a node learns of an answer

abbrev pub answer_kept : Call → Bool → Bool
answer_kept (ToldRegistered a) k = true
answer_kept _ k = k

abbrev pub answer_address : Call → Option ℕ → Option ℕ
answer_address (ToldRegistered a) k = Some a
answer_address _ k = k

-- the first step with an address: a copy of the RW is used at once
abbrev pub fetch_step : ℕ → ℕ → Option Image → Step
fetch_step r n None = first_step r n
fetch_step r n (Some v) = if nat_eq n r then Idle else LatchS

abbrev pub answer_step : ℕ → ℕ → Option Image → Call → Step → Step
answer_step r n c (ToldRegistered a) Register = fetch_step r n c
answer_step r n c (ToldRegistered a) PlanMake = Idle
answer_step r n c (ToldRegistered a) PlanRegister = PlanWrite
answer_step r n c (ToldImage v) (Get f) = Write v
answer_step r n c ToldDone PlanInvalidate = PlanInstall
answer_step r n c _ GivenUp = ReleaseEnd
answer_step r n c _ st = st

-- the answer is accepted
abbrev pub answered : ℕ → ℕ → Node → Node
answered r n N = record N {
  call = Quiet;
  kept = answer_kept N.call N.kept;
  address = answer_address N.call N.address;
  step = answer_step r n N.copy N.call N.step;
}

-- the home set the local bit
abbrev pub made_stale : Node → Node
made_stale N = record N { stale = true }
