-- Stated: which node has the writes and which one is taking them, and what steps and crashes do to that.
use Rattle.std.specs.Prelude.{◌≡◌, ◌≤◌, ℕ, Bool, true, Option, Some, None, nat_eq, if◌then◌else◌}
use Rattle.cluster_manager.specs.declared.steps.Step.{Step}
use Rattle.cluster_manager.specs.declared.steps.Step.TheVariants.{Fence, Tail, Ship, Sweep, Rejoin, Work, Opened}
use Rattle.cluster_manager.specs.declared.steps.Stage.{Stage}
use Rattle.cluster_manager.specs.declared.steps.Stage.TheVariants.{Fenced, Tailed, Shipped, Rejoining, Worked}
use Rattle.cluster_manager.specs.declared.steps.Takeover.{Takeover}
use Rattle.cluster_manager.specs.Steps.{IsStepOf, stage_after, writer_after, without}

-- the node that has the writes, and the takeover that is under way
pub record ManagerState : Type 0 where
  pub writer : Option ℕ
  pub takeover : Option Takeover

abbrev pub first_manager : ManagerState
first_manager = record { writer = Some 0; takeover = None }

abbrev pub no_manager : ManagerState
no_manager = record { writer = None; takeover = None }

-- n may take the writes: no node that is up has them, the home and n are up, and no other node is taking them
pub record MayTake (M : ManagerState) (up : ℕ → Bool) (home : Bool) (n : ℕ) : Type 0 where
  pub home_up : home ≡ true
  pub node_up : up n ≡ true
  pub no_writer : (m : ℕ) → M.writer ≡ Some m → up m ≡ true → ⊥
  pub no_other : (t : Takeover) → M.takeover ≡ Some t → t.node ≡ n

-- the step is the next one of node n
abbrev pub IsDue : Option Takeover → (ℕ → Bool) → ℕ → Step → Type 0
IsDue None up n step = step ≡ Fence
IsDue (Some t) up n step = IsStepOf t.stage up step

-- the step comes after the stage, whichever nodes are up
abbrev pub Comes : Stage → Step → Type 0
Comes stage Fence = ⊥
Comes stage Tail = stage ≡ Fenced
Comes stage Ship = stage ≡ Tailed
Comes stage Sweep = stage ≡ Shipped
Comes stage (Rejoin n) = (from : ℕ) × (stage ≡ Rejoining from) × (from ≤ n)
Comes stage Work = (from : ℕ) × (stage ≡ Rejoining from)
Comes stage Opened = stage ≡ Worked

-- the step of node n follows on what was done
abbrev pub Follows : Option Takeover → ℕ → Step → Type 0
Follows None n step = step ≡ Fence
Follows (Some t) n step = (t.node ≡ n) × Comes t.stage step

abbrev pub after : ℕ → Step → ManagerState
after n step = record { writer = writer_after n step; takeover = stage_after n step }

-- the takeover, unless it is that of n
abbrev pub takeover_without : Option Takeover → ℕ → Option Takeover
takeover_without None n = None
takeover_without (Some t) n = if nat_eq t.node n then None else Some t

-- node n went down
abbrev pub after_crash : ManagerState → ℕ → ManagerState
after_crash M n = record { writer = without M.writer n; takeover = takeover_without M.takeover n }
