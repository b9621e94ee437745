-- Stated: where a plan stands with a page, as a place of the law of pages, and when the page's turn comes.
use Rattle.std.specs.Prelude.{ℕ, Bool, Option, Some, None, List, [], ◌∷◌, nat_lt, if◌then◌else◌}
use Rattle.std.specs.List.{best_of}
use Rattle.rm_base.specs.declared.places.Addr.{Addr}
use Rattle.page_image.specs.Image.{Image}
use Rattle.node_model.specs.Call.{Call, is_of_work}
use Rattle.node_model.specs.Step.{Step}
use Rattle.fetch_steps.specs.Fetch.{Fetch, step_at as place_step, may_hold}
use Rattle.mini_transactions.specs.declared.stage.Stage.{Stage}
use Rattle.mini_transactions.specs.declared.stage.Stage.TheVariants.{Making, Registering, Fetching, Latching, Invalidating, Installing, Writing, Cleaning, Releasing, Quitting, Ended}
use Rattle.mini_transactions.specs.declared.page_work.PageWork.{PageWork}

-- a page that was given up: the answer to its call comes first, then the release of a latch that may be held
abbrev pub given_up : Bool → Bool → Step
given_up waits claimed = if waits then Step.GivenUp else (if claimed then Step.ReleaseEnd else Step.Idle)

-- an installed page is written to its slot; without an address it is registered first
abbrev pub written_at : Option Addr → Step
written_at None = Step.PlanRegister
written_at (Some address) = Step.PlanWrite

-- the step of a plan's page, where v is the image that storage gave to its fetch, and the node waits for a call or not
abbrev pub step_at : Stage → Option Addr → Bool → Fetch → Image → Bool → Step
step_at Making address claimed f v waits = Step.PlanMake
step_at Registering address claimed f v waits = Step.Register
step_at Fetching address claimed f v waits = place_step f.place f.lsn v waits
step_at Latching address claimed f v waits = Step.PlanLatch
step_at Invalidating address claimed f v waits = Step.PlanInvalidate
step_at Installing address claimed f v waits = Step.PlanInstall
step_at Writing address claimed f v waits = written_at address
step_at Cleaning address claimed f v waits = Step.PlanClean
step_at Releasing address claimed f v waits = Step.PlanRelease
step_at Quitting address claimed f v waits = given_up waits claimed
step_at Ended address claimed f v waits = Step.Idle

abbrev pub page_step : PageWork → Image → Call → Step
page_step w v call = step_at w.stage w.address w.claimed w.fetch v (is_of_work call)

-- the address that the node keeps
abbrev pub address_at : Stage → PageWork → Option Addr
address_at Fetching w = w.fetch.address
address_at stage w = w.address

abbrev pub page_address : PageWork → Option Addr
page_address w = address_at w.stage w

-- the node holds the page's latch, or its last try was lost or unseen
abbrev pub claims_at : Stage → PageWork → Bool
claims_at Fetching w = may_hold w.fetch
claims_at stage w = w.claimed

abbrev pub may_claim : PageWork → Bool
may_claim w = claims_at w.stage w

-- when a page's turn comes: by its phase, and in a plan that was given up by the page's number; over is what comes last
abbrev pub over : ℕ
over = 32768

abbrev pub turn_at : Stage → PageWork → ℕ
turn_at Making w = 0
turn_at Registering w = 0
turn_at Fetching w = 0
turn_at Latching w = 1
turn_at Invalidating w = 2
turn_at Installing w = 3
turn_at Writing w = 4
turn_at Cleaning w = 5
turn_at Releasing w = 6
turn_at Quitting w = if w.claimed then w.fetch.page else over
turn_at Ended w = over

abbrev pub turn : PageWork → ℕ
turn w = turn_at w.stage w

abbrev pub is_before : PageWork → PageWork → Bool
is_before v w = nat_lt (turn v) (turn w)

-- the page whose turn it is: the first of those whose turn comes first
abbrev pub next_of : List PageWork → Option PageWork
next_of [] = None
next_of (w ∷ ws) = Some (best_of is_before w ws)
