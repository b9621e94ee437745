-- Stated: what contracts see of a plan that is carried out, and which act is next.
use Rattle.std.specs.Prelude.{◌≡◌, ℕ, Bool, true, false, Option, Some, None, List, find, nat_eq, not, ◌&&◌, if◌then◌else◌}
use Rattle.std.specs.Option.{option_map_or}
use Rattle.rm_base.specs.declared.places.Addr.{Addr}
use Rattle.page_image.specs.Image.{Image}
use Rattle.redo_record.specs.declared.plans.Plan.{Plan}
use Rattle.node_model.specs.Call.{Call, Call.Quiet}
use Rattle.node_model.specs.Step.{Step}
use Rattle.fetch_steps.specs.declared.acts.Action.{Action}
use Rattle.fetch_steps.specs.declared.acts.Action.TheVariants.{Finished, Invalidate, Install, Write as WriteSlot, Clean as CleanUp}
use Rattle.fetch_steps.specs.Fetch.{HasImage}
use Rattle.fetch_steps.specs.Acts.{act_of, act_at}
use Rattle.mini_transactions.specs.declared.stage.Phase.{Phase}
use Rattle.mini_transactions.specs.declared.stage.Phase.TheVariants.{Register as InRegister, Latch as InLatch, Invalidate as InInvalidate, Install as InInstall, Write as InWrite, Clean as InClean, Release as InRelease, Finished as InFinished}
use Rattle.mini_transactions.specs.declared.stage.Stage.{Stage}
use Rattle.mini_transactions.specs.declared.stage.Stage.TheVariants.{Making, Registering, Fetching, Latching, Invalidating, Installing, Writing, Cleaning, Releasing, Quitting, Ended}
use Rattle.mini_transactions.specs.declared.page_work.PageWork.{PageWork}
use Rattle.mini_transactions.specs.Work.{page_step, page_address, may_claim, next_of}

pub record Progress : Type 0 where
  pub plan : Plan
  pub lsn : ℕ  -- of the plan's group
  pub works : List PageWork  -- where the plan stands with each of its pages, in the plan's order

-- what the plan did with a page
abbrev pub work_of : Progress → ℕ → Option PageWork
work_of m p = find (λ w. nat_eq w.fetch.page p) m.works

-- the step of the law of pages at page p, where v is the image that storage gave to its fetch
abbrev pub step_of : Progress → ℕ → Image → Call → Step
step_of m p v call = option_map_or (λ w. page_step w v call) (work_of m p) Step.Idle

abbrev pub address_of : Progress → ℕ → Option Addr
address_of m p = option_map_or page_address (work_of m p) None

-- X on page p is held, or its last try was lost or unseen
abbrev pub may_hold : Progress → ℕ → Bool
may_hold m p = option_map_or may_claim (work_of m p) false

-- the plan still fetches the page
abbrev pub is_fetching : Stage → Bool
is_fetching Fetching = true
is_fetching stage = false

abbrev pub fetches : Progress → ℕ → Bool
fetches m p = option_map_or (λ w. is_fetching w.stage) (work_of m p) false

-- the acts that are of all pages at once
abbrev pub is_joint : Stage → Bool
is_joint Invalidating = true
is_joint Installing = true
is_joint stage = false

-- a page takes part in the act of the page whose turn it is, or of all pages
abbrev pub is_in : ℕ → Bool → PageWork → Bool
is_in page joint w = if joint then is_joint w.stage else (not (is_joint w.stage) && nat_eq w.fetch.page page)

abbrev pub takes_part : PageWork → PageWork → Bool
takes_part turn w = is_in turn.fetch.page (is_joint turn.stage) w

abbrev pub acts_on : Progress → ℕ → Bool
acts_on m p = option_map_or (λ turn. option_map_or (takes_part turn) (work_of m p) false) (next_of m.works) false

-- the act of a step of a plan with these pages, whose group has this LSN
abbrev pub plan_act : List ℕ → ℕ → ℕ → Option Addr → Step → Action
plan_act pages lsn page address Step.PlanInvalidate = Invalidate pages
plan_act pages lsn page address Step.PlanInstall = Install
plan_act pages lsn page address Step.PlanWrite = act_at (WriteSlot page) address
plan_act pages lsn page address Step.PlanClean = CleanUp page lsn
plan_act pages lsn page address step = act_of page address step

-- the image that storage gave is the one whose LSN the home will be told
abbrev pub HasImageAt : Stage → PageWork → Image → Type 0
HasImageAt Fetching w v = HasImage w.fetch v
HasImageAt stage w v = Unit {0}

abbrev pub HasPageImage : PageWork → Image → Type 0
HasPageImage w v = HasImageAt w.stage w v

abbrev pub act_of_page : List ℕ → ℕ → Image → PageWork → Action
act_of_page pages lsn v w = plan_act pages lsn w.fetch.page (page_address w) (page_step w v Quiet)

-- the act that is next: that of the page whose turn it is
abbrev pub next_act : Progress → Image → Action
next_act m v = option_map_or (act_of_page m.plan.pages m.lsn v) (next_of m.works) Finished

abbrev pub NextHasImage : Progress → Image → Type 0
NextHasImage m v = (w : PageWork) → next_of m.works ≡ Some w → HasPageImage w v

-- the phase of a page, and of a plan: that of the page whose turn it is
abbrev pub phase_at : Stage → Bool → Phase
phase_at Making claimed = InRegister
phase_at Registering claimed = InRegister
phase_at Fetching claimed = InRegister
phase_at Latching claimed = InLatch
phase_at Invalidating claimed = InInvalidate
phase_at Installing claimed = InInstall
phase_at Writing claimed = InWrite
phase_at Cleaning claimed = InClean
phase_at Releasing claimed = InRelease
phase_at Quitting claimed = if claimed then InRelease else InFinished
phase_at Ended claimed = InFinished

abbrev pub phase_of : Progress → Phase
phase_of m = option_map_or (λ w. phase_at w.stage w.claimed) (next_of m.works) InFinished

-- how far a plan is: before its install, at it, or after it; or given up
abbrev pub span : Stage → ℕ
span Installing = 1
span Writing = 2
span Cleaning = 2
span Releasing = 2
span Ended = 2
span Quitting = 3
span stage = 0

abbrev pub is_past_install : Stage → Bool
is_past_install stage = nat_eq (span stage) 2

-- the group of the plan was installed
abbrev pub is_installed : Progress → Bool
is_installed m = option_map_or (λ w. is_past_install w.stage) (next_of m.works) false

-- past the try the latch is held in X
abbrev pub holds_x : Stage → Bool
holds_x Invalidating = true
holds_x Installing = true
holds_x Writing = true
holds_x Cleaning = true
holds_x Releasing = true
holds_x stage = false
