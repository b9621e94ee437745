-- Stated: a takeover from its first step to its last.
use Rattle.std.specs.Prelude.{List, [], ◌∷◌}
use Rattle.cluster_manager.specs.declared.steps.Step.{Step}
use Rattle.cluster_manager.specs.declared.steps.Step.TheVariants.{Fence, Tail, Ship, Sweep, Rejoin, Work}
use Rattle.cluster_manager.specs.Takeover.{ManagerState, after}
use Rattle.cluster_manager.specs.Order.{Event, Event.did, Event.downed}

-- node 0 goes down, and node 1 takes the writes while node 2 is up too
abbrev pub takeover_events : List Event
takeover_events = downed 0 ∷ did 1 Fence ∷ did 1 Tail ∷ did 1 Ship ∷ did 1 Sweep ∷ did 1 (Rejoin 1) ∷ did 1 (Rejoin 2) ∷ did 1 Work ∷ []

abbrev pub takeover_steps : List Step
takeover_steps = Work ∷ Rejoin 2 ∷ Rejoin 1 ∷ Sweep ∷ Ship ∷ Tail ∷ Fence ∷ []

abbrev pub takeover_end : ManagerState
takeover_end = after 1 Work
