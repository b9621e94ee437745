-- Stated: how acts can end, and what an answer tells.
use Rattle.std.specs.Prelude.{ℕ, Bool, true, false, Option, Some, None}
use Rattle.fetch_steps.specs.declared.acts.Action.{Action}
use Rattle.fetch_steps.specs.declared.acts.Action.TheVariants.{Register, Unregister, Latch, Release, Look, Read, Get, Write, Clean, Invalidate, Install, Append, Finished}
use Rattle.page_pool.specs.declared.events.How.{How}
use Rattle.page_pool.specs.declared.events.How.TheVariants.{Made, Lost, Unseen}
use Rattle.page_pool.specs.declared.events.PoolEvent.{PoolEvent}
use Rattle.page_pool.specs.declared.events.PoolEvent.TheVariants.{Act, Deliver, Home, Ship, Fold, Evict}
use Rattle.page_pool.specs.declared.answers.Outcome.{Outcome}
use Rattle.page_pool.specs.declared.answers.Outcome.TheVariants.{Went, Installed, Kept, Met}
use Rattle.page_pool.specs.declared.answers.PoolAnswer.{PoolAnswer}
use Rattle.page_pool.specs.declared.answers.PoolAnswer.TheVariants.{Did, Accepted, Done, Refused}

-- the accesses to the home's tables and to slabs, in which no other part takes part
abbrev pub is_access : Action → Bool
is_access (Latch page mode) = true
is_access (Release page) = true
is_access (Look page) = true
is_access (Read page address) = true
is_access (Write page address) = true
is_access (Clean page lsn) = true
is_access _ = false

-- only an access can be lost or unseen
abbrev pub can_end : Action → How → Bool
can_end action Made = true
can_end action Lost = is_access action
can_end action Unseen = is_access action

-- what came of an event for the node that took part
abbrev pub outcome_of : PoolAnswer → Option Outcome
outcome_of (Did outcome) = Some outcome
outcome_of (Accepted n outcome) = Some outcome
outcome_of Done = None
outcome_of Refused = None

abbrev pub kept_in : Option Outcome → Option ℕ
kept_in None = None
kept_in (Some Went) = None
kept_in (Some (Installed end)) = None
kept_in (Some (Kept tail)) = Some tail
kept_in (Some (Met obstacle)) = None

-- the offset up to which a node has just learnt that storage keeps the log
abbrev pub kept_by : PoolAnswer → Option ℕ
kept_by answer = kept_in (outcome_of answer)

abbrev pub is_met : Option Outcome → Bool
is_met None = false
is_met (Some Went) = false
is_met (Some (Installed end)) = false
is_met (Some (Kept tail)) = false
is_met (Some (Met obstacle)) = true

-- something got in the way
abbrev pub meets : PoolAnswer → Bool
meets answer = is_met (outcome_of answer)

-- the node of an act or of a dropped copy, or the one that took an answer
abbrev pub actor : PoolEvent → PoolAnswer → Option ℕ
actor (Act n action how) answer = Some n
actor (Evict n page) answer = Some n
actor event (Accepted n outcome) = Some n
actor event _ = None
