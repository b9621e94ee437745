-- Stated: what a node keeps of one page, and how the law of pages sees it.
use Rattle.std.specs.Prelude.{◌≡◌, ◌≢◌, ℕ, Bool, true, false, Option, Some, None, option_map, unwrap_or, if◌then◌else◌, IsSome, is_some, ◌&&◌}
use Rattle.rm_base.specs.declared.places.Addr.{Addr}
use Rattle.page_image.specs.Image.{Image, unmade}
use Rattle.local_cache.specs.Cache.{copy_of, IsFull}
use Rattle.local_cache.specs.declared.cache.Cached.{Cached}
use Rattle.node_model.specs.Step.{Step}
use Rattle.node_model.specs.Call.{Call, Call.Quiet, is_of_work}
use Rattle.node_model.specs.Node.{Node}
use Rattle.fetch_steps.specs.Fetch.{Fetch, step_at as place_step, number_of, may_hold}
use Rattle.coherent_pool.specs.declared.known.Known.{Known}
use Rattle.coherent_pool.specs.declared.works.FetchWork.{FetchWork}
use Rattle.coherent_pool.specs.declared.works.Stage.{Stage}
use Rattle.coherent_pool.specs.declared.works.Stage.TheVariants.{Fetching, Held, Releasing, Over, Latching, Invalidating, Installing, Writing, Cleaning, Entering, Freeing}
use Rattle.coherent_pool.specs.declared.node.PoolNode.{PoolNode}
use Rattle.coherent_pool.specs.Known.{known_at, is_leaving, nothing_known}
use Rattle.coherent_pool.specs.Works.{work_at}

pub record PageState : Type 0 where
  pub known : Known
  pub leaving : Bool
  pub copy : Option Cached
  pub work : Option FetchWork  -- the fetch that has the page

-- what the node keeps of page p
abbrev pub state_at : PoolNode → ℕ → PageState
state_at N p = record {
  known = known_at N.table p;
  leaving = is_leaving N.table p;
  copy = copy_of N.cache p;
  work = work_at N.works p;
}

abbrev pub no_state : PageState
no_state = record { known = nothing_known; leaving = false; copy = None; work = None }

-- the image that storage gave to a fetch
abbrev pub image_of : FetchWork → Image
image_of w = unwrap_or w.image (unmade 0)

-- where the node stands with the page, while its call about the page is this one
abbrev pub step_at : Stage → Fetch → Image → Bool → Step
step_at Fetching f v waits = place_step f.place f.lsn v waits
step_at Held f v waits = Step.Held
step_at Releasing f v waits = if waits then Step.GivenUp else Step.ReleaseEnd
step_at Over f v waits = if waits then Step.GivenUp else Step.Idle
step_at Latching f v waits = Step.PlanLatch
step_at Invalidating f v waits = Step.PlanInvalidate
step_at Installing f v waits = Step.PlanInstall
step_at Writing f v waits = Step.PlanWrite
step_at Cleaning f v waits = Step.PlanClean
step_at Entering f v waits = Step.PlanRegister
step_at Freeing f v waits = Step.PlanRelease

abbrev pub step_in : Option FetchWork → Call → Step
step_in None call = Step.Idle
step_in (Some w) call = step_at w.stage w.step (image_of w) (is_of_work call)

-- the address that the node keeps: while a fetch has the page, the one that the fetch knows
abbrev pub address_in : Known → Option FetchWork → Option Addr
address_in k None = k.addr
address_in k (Some w) = w.step.address

abbrev pub copy_in : Option Cached → Option Image
copy_in c = option_map (λ (x : Cached). x.page) c

-- the same as the law of pages has it, of a node that is up or not
abbrev pub node_of : Bool → PageState → Call → Node
node_of up S call = record {
  up = up;
  kept = S.known.kept;
  leaving = S.leaving;
  address = option_map number_of (address_in S.known S.work);
  stale = S.known.bit;
  copy = copy_in S.copy;
  step = step_in S.work call;
  call = call;
}

abbrev pub is_up : PoolNode → Bool
is_up N = N.up

-- the node is the RW
abbrev pub is_writer : PoolNode → Bool
is_writer N = N.writer

-- page p at the node, as the law of pages has it, where the messages show this call
abbrev pub node_at : PoolNode → ℕ → Call → Node
node_at N p call = node_of N.up (state_at N p) call

-- the node holds the latch of the page, or its last try was lost or unseen. Of a page of a plan it counts as held from the
-- plan's begin on
abbrev pub holds_at : Stage → Fetch → Bool
holds_at Fetching f = may_hold f
holds_at Held f = true
holds_at Releasing f = true
holds_at Over f = false
holds_at Latching f = true
holds_at Invalidating f = true
holds_at Installing f = true
holds_at Writing f = true
holds_at Cleaning f = true
holds_at Entering f = true
holds_at Freeing f = true

abbrev pub holds_in : Option FetchWork → Bool
holds_in None = false
holds_in (Some w) = holds_at w.stage w.step

abbrev pub may_hold_at : PoolNode → ℕ → Bool
may_hold_at N p = holds_in (work_at N.works p)

-- the address that the node knows of page p
abbrev pub address_at : PoolNode → ℕ → Option Addr
address_at N p = address_in (known_at N.table p) (work_at N.works p)

-- page p is to be unregistered
abbrev pub is_leaving_at : PoolNode → ℕ → Bool
is_leaving_at N p = is_leaving N.table p

-- a fetch has the page
abbrev pub is_busy : PoolNode → ℕ → Bool
is_busy N p = is_some (work_at N.works p)

-- the node has a copy of the page and knows its address
abbrev pub has_page : PoolNode → ℕ → Bool
has_page N p = is_some (copy_of N.cache p) && is_some (address_in (known_at N.table p) (work_at N.works p))

-- what is kept of page p is S, and of each other page what was kept before
pub record Changes (p : ℕ) (S : PageState) (before now : PoolNode) : Type 0 where
  pub here : state_at now p ≡ S
  pub beside : (q : ℕ) → q ≢ p → state_at now q ≡ state_at before q
  pub up : now.up ≡ before.up
  pub writer : now.writer ≡ before.writer

-- nothing that is kept of a page changed
pub record Stays (before now : PoolNode) : Type 0 where
  pub each : (q : ℕ) → state_at now q ≡ state_at before q
  pub up : now.up ≡ before.up
  pub writer : now.writer ≡ before.writer

-- the cache has room for a copy of page p, or has one
abbrev pub HasRoom : PoolNode → ℕ → Type 0
HasRoom N p = IsFull N.cache → IsSome (copy_of N.cache p)

-- where the node stands with page p, while it waits for no answer about it
abbrev pub step_at_page : PoolNode → ℕ → Step
step_at_page N p = (node_at N p Quiet).step

-- of each page but p nothing changed
pub record Others (p : ℕ) (before now : PoolNode) : Type 0 where
  pub each : (q : ℕ) (call : Call) → q ≢ p → node_at now q call ≡ node_at before q call
  pub up : is_up now ≡ is_up before
  pub writer : is_writer now ≡ is_writer before
