-- Stated: what a node of a pool does, as callers know it.
use Rattle.std.specs.Prelude.{◌≡◌, ◌≢◌, ℕ, Bool, true, false, not, ◌&&◌, Option, Some, None, IsSome}
use Rattle.page_image.specs.Image.{Image}
use Rattle.redo_record.specs.declared.plans.Plan.{Plan}
use Rattle.cluster_model.specs.declared.traces.Origin.{Origin}
use Rattle.fetch_steps.specs.declared.acts.Action.{Action}

-- what a node has under way: nothing, a fetch of a page, a plan with its group installed or not, or the end of a fetch or
-- plan that was given up
pub data Job : Type 0 where
  Rests : Job
  Fetches : (page : ℕ) → Job
  Runs : (plan : Plan) → (installed : Bool) → Job
  Quits : Job

abbrev pub is_busy : Job → Bool
is_busy Rests = false
is_busy (Fetches page) = true
is_busy (Runs plan installed) = true
is_busy Quits = true

abbrev pub is_installed : Job → Bool
is_installed Rests = false
is_installed (Fetches page) = false
is_installed (Runs plan installed) = installed
is_installed Quits = false

-- the plan that is under way
abbrev pub plan_of : Job → Option Plan
plan_of Rests = None
plan_of (Fetches page) = None
plan_of (Runs plan installed) = Some plan
plan_of Quits = None

-- a page that a fetch handed out, and where the node had it from
pub record Handed : Type 0 where
  pub image : Image
  pub origin : Origin

pub record NodeState : Type 0 where
  pub up : Bool
  pub stopped : Bool  -- by another node that takes the writes
  pub job : Job
  pub next : Option Action  -- the act that comes next of itself
  pub waits : Bool  -- the next act comes only behind the answer to a call
  pub acts : ℕ  -- the acts that are left of what is under way, where nothing gets in the way
  pub handed : ℕ → Option Handed  -- by page; these stand until they are released, or the next work begins

abbrev pub is_able : NodeState → Bool
is_able n = n.up && not n.stopped

-- a node that has nothing to do, and nothing of any page
abbrev pub resting : NodeState
resting = record { up = true; stopped = false; job = Rests; next = None; waits = false; acts = 0; handed = λ p. None }

-- a node with work does its next act, or waits; and it does not both
pub record IsNode (n : NodeState) : Type 0 where
  pub works : is_busy n.job ≡ true → n.waits ≡ false → IsSome n.next
  pub waiting : n.waits ≡ true → n.next ≡ None
