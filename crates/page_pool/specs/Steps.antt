-- Stated: what an event does to a pool, whatever its parts are.
use Rattle.std.specs.Prelude.{◌≡◌, ◌≢◌, ◌<◌, ◌⊎◌, ◌↔◌, ℕ, Bool, true, false, Option, Some, None, List, [], ◌∷◌, sum_by}
use Rattle.redo_record.specs.declared.redo.Group.{Group}
use Rattle.redo_record.specs.declared.plans.Plan.{Plan}
use Rattle.redo_durability.specs.Machine.{State, Event, Event.Install, Event.Send, Event.Handle, Event.Late, Event.Accept, Run}
use Rattle.fetch_steps.specs.declared.acts.Action.{Action}
use Rattle.fetch_steps.specs.declared.acts.Action.TheVariants as action
use Rattle.page_pool.specs.declared.events.How.{How}
use Rattle.page_pool.specs.declared.events.How.TheVariants.{Made}
use Rattle.page_pool.specs.declared.events.PoolEvent.{PoolEvent}
use Rattle.page_pool.specs.declared.events.PoolEvent.TheVariants.{Act, Deliver}
use Rattle.page_pool.specs.declared.answers.Outcome.{Outcome}
use Rattle.page_pool.specs.declared.answers.Outcome.TheVariants.{Went, Installed, Kept, Met}
use Rattle.page_pool.specs.declared.answers.PoolAnswer.{PoolAnswer}
use Rattle.page_pool.specs.declared.answers.PoolAnswer.TheVariants.{Refused}
use Rattle.page_pool.specs.Nodes.{Job, Job.Rests, Job.Fetches, Job.Runs, Job.Quits, Handed, NodeState, IsNode}
use Rattle.page_pool.specs.Events.{outcome_of, is_met, actor}
use Rattle.page_pool.specs.State.{PoolState, bytes_of, group_of, admits}
use Rattle.page_pool.specs.Calls.{HandsOut, MayGo}

-- the log takes these steps
abbrev pub Logs : List (Event Group) → State Group → State Group → Type 0
Logs events log now = Run bytes_of log events now

-- a node appends, and a message arrives
abbrev pub IsAppend : PoolEvent → Type 0
IsAppend event = (n : ℕ) × (event ≡ Act n action.Append Made)

abbrev pub IsDelivery : PoolEvent → Type 0
IsDelivery event = (k : ℕ) × (event ≡ Deliver k)

-- the node that acts installs the group of its plan, which gets the next LSN
abbrev pub Installs : PoolEvent → PoolState → State Group → Type 0
Installs event s now = (n : ℕ) × (plan : Plan) × (event ≡ Act n action.Install Made) × ((s.node n).job ≡ Runs plan false)
    × Logs (Install (group_of s.log.made plan) ∷ []) s.log now

-- an append is kept and known to be: at once, or as the answer to it arrives
abbrev pub Settles : PoolEvent → State Group → State Group → Type 0
Settles event log now = (IsAppend event × Logs (Send ∷ Handle ∷ Accept ∷ []) log now) ⊎ (IsDelivery event × Logs (Accept ∷ []) log now)

-- an append is sent; a message brings one to the store, or an older one
abbrev pub Carries : PoolEvent → State Group → State Group → Type 0
Carries event log now = (IsAppend event × Logs (Send ∷ []) log now) ⊎ (IsDelivery event × Logs (Handle ∷ []) log now)
    ⊎ (IsDelivery event × ((epoch offset : ℕ) × (groups : List Group) × Logs (Late epoch offset groups ∷ []) log now))

-- what an event with this outcome does to the log. Nothing else changes it
abbrev pub LogSteps : PoolEvent → Option Outcome → PoolState → State Group → Type 0
LogSteps event (Some (Installed end)) s now = Installs event s now × (end ≡ sum_by bytes_of now.made)
LogSteps event (Some (Kept tail)) s now = Settles event s.log now × (tail ≡ sum_by bytes_of now.acknowledged)
LogSteps event (Some Went) s now = (now ≡ s.log) ⊎ Carries event s.log now
LogSteps event (Some (Met obstacle)) s now = now ≡ s.log
LogSteps event None s now = (now ≡ s.log) ⊎ Carries event s.log now

-- how a job goes on: it stays, or ends; a plan may end only behind its install
abbrev pub JobGoes : Option Outcome → Job → Job → Type 0
JobGoes (Some (Installed end)) (Runs plan false) now = (now ≡ Runs plan true) ⊎ (now ≡ Rests)
JobGoes outcome (Runs plan false) now = now ≡ Runs plan false
JobGoes outcome Rests now = now ≡ Rests
JobGoes outcome job now = (now ≡ job) ⊎ (now ≡ Rests)

-- what a node that takes part in an event does
pub record NodeSteps (event : PoolEvent) (outcome : Option Outcome) (n : ℕ) (made : List Group) (old new : NodeState) : Type 0 where
  pub node : IsNode new
  pub up : new.up ≡ old.up
  pub stopped : new.stopped ≡ old.stopped
  pub job : JobGoes outcome old.job new.job
  -- a fetch that ends hands its page out, as the log leaves it; no other page is handed out
  pub hands_out : (p : ℕ) → old.job ≡ Fetches p → new.job ≡ Rests → HandsOut made p (new.handed p)
  pub keeps : (p : ℕ) → MayGo (old.handed p) (new.handed p) ⊎ ((old.job ≡ Fetches p) × (new.job ≡ Rests))
  pub lets_go : (p : ℕ) → event ≡ Act n (action.Release p) Made → new.handed p ≡ None
  -- an act that was lost or unseen stays next
  pub stays : (act : Action) (how : How) → event ≡ Act n act how → how ≢ Made → (new.job ≡ old.job) × (new.next ≡ old.next)
  -- an act leaves fewer acts, where nothing gets in its way
  pub falls : (act : Action) → event ≡ Act n act Made → old.next ≡ Some act → is_met outcome ≡ false → new.acts < old.acts

-- what an event does
pub record Steps (event : PoolEvent) (answer : PoolAnswer) (s t : PoolState) : Type 0 where
  -- it is refused exactly where its condition does not hold, and then changes nothing
  pub refused : (answer ≡ Refused) ↔ (admits s event ≡ false)
  pub same : answer ≡ Refused → t ≡ s
  pub nodes : t.nodes ≡ s.nodes
  pub rw : t.rw ≡ s.rw
  pub log : LogSteps event (outcome_of answer) s t.log
  pub node : answer ≢ Refused → (n : ℕ) → actor event answer ≡ Some n → NodeSteps event (outcome_of answer) n s.log.made (s.node n) (t.node n)
  pub others : (m : ℕ) → actor event answer ≢ Some m → t.node m ≡ s.node m
