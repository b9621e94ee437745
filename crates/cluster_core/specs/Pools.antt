-- Stated: what a node that serves does at its pool.
use Rattle.std.specs.Prelude.{◌≡◌, ◌<◌, ℕ, Bool, true, false, Option, Some, None}
use Rattle.fetch_steps.specs.declared.acts.Action.{Action}
use Rattle.page_pool.specs.declared.events.How.TheVariants.{Made}
use Rattle.page_pool.specs.declared.events.PoolEvent.TheVariants.{Act}
use Rattle.page_pool.specs.declared.answers.Obstacle.{Obstacle}
use Rattle.page_pool.specs.declared.answers.Obstacle.TheVariants as obstacle
use Rattle.page_pool.specs.declared.answers.Outcome.{Outcome}
use Rattle.page_pool.specs.declared.answers.Outcome.TheVariants.{Went, Installed, Kept, Met}
use Rattle.page_pool.specs.declared.answers.PoolAnswer.{PoolAnswer}
use Rattle.page_pool.specs.Events.{outcome_of}
use Rattle.page_pool.specs.Nodes.{IsNode, is_able}
use Rattle.page_pool.specs.State.{PoolState}
use Rattle.page_pool.specs.Steps.{Steps}

-- node n is there, up and not stopped, and is the one that writes
pub record IsServing (n : ℕ) (s : PoolState) : Type 0 where
  pub there : n < s.nodes
  pub able : is_able (s.node n) ≡ true
  pub node : IsNode (s.node n)
  pub writes : s.rw ≡ Some n

-- the node does its next act, which has this outcome
unfoldable pub Acts : ℕ → Option Outcome → PoolState → PoolState → Type 0
Acts n outcome s t =
    (action : Action) × (answer : PoolAnswer) × ((s.node n).next ≡ Some action) × (outcome ≡ outcome_of answer)
    × Steps (Act n action Made) answer s t

-- where the log ends, if a group was installed
abbrev pub end_in : Option Outcome → Option ℕ
end_in None = None
end_in (Some Went) = None
end_in (Some (Installed end)) = Some end
end_in (Some (Kept tail)) = None
end_in (Some (Met o)) = None

abbrev pub slots_met : Obstacle → Option ℕ
slots_met (obstacle.PoolFull slots) = Some slots
slots_met (obstacle.Busy holders) = None
slots_met (obstacle.NotYet lsn) = None
slots_met (obstacle.Started nodes) = None
slots_met obstacle.DownPart = None
slots_met obstacle.Lost = None
slots_met obstacle.Moved = None

-- how many slots the pool has, if it is full
abbrev pub slots_in : Option Outcome → Option ℕ
slots_in None = None
slots_in (Some Went) = None
slots_in (Some (Installed end)) = None
slots_in (Some (Kept tail)) = None
slots_in (Some (Met o)) = slots_met o
