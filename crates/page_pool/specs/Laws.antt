-- Stated: what holds of each pool, over every list of calls.
use Rattle.std.specs.Prelude.{◌≡◌, ◌≢◌, ◌<◌, ℕ, Bool, Option, Some, None, List, [], ◌∷◌, ◌++◌, sum_by}
use Rattle.page_image.specs.Image.{Image}
use Rattle.redo_record.specs.declared.redo.Group.{Group}
use Rattle.redo_record.specs.declared.plans.Plan.{Plan}
use Rattle.redo_record.specs.Effect.{CountsFrom}
use Rattle.redo_durability.specs.Laws.{IsFront}
use Rattle.cluster_model.specs.declared.shape.Shape.{Shape}
use Rattle.page_pool.specs.declared.events.PoolEvent.{PoolEvent}
use Rattle.page_pool.specs.declared.answers.Outcome.TheVariants.{Installed}
use Rattle.page_pool.specs.declared.answers.PoolAnswer.{PoolAnswer}
use Rattle.page_pool.specs.declared.answers.PoolAnswer.TheVariants.{Did}
use Rattle.page_pool.specs.Nodes.{Handed, NodeState}
use Rattle.page_pool.specs.Events.{kept_by}
use Rattle.page_pool.specs.State.{PoolState, Begins, bytes_of, group_of, current}
use Rattle.page_pool.specs.Calls.{IfFree, BeginsFetch, BeginsPlan, GivesUp}
use Rattle.page_pool.specs.Steps.{Steps}

-- the calls that change a pool, with what they answer
pub data Call : Type 0 where
  Fetch : (n page : ℕ) → (begun : Bool) → Call
  RunPlan : (n : ℕ) → Plan → (begun : Bool) → Call
  GiveUp : (n : ℕ) → Call
  Happen : PoolEvent → PoolAnswer → Call

-- what a call may do
abbrev pub Does : Call → PoolState → PoolState → Type 0
Does (Fetch n page begun) s t = (n < s.nodes) × IfFree (s.node n).job begun (BeginsFetch n page s t) (t ≡ s)
Does (RunPlan n plan begun) s t = (n < s.nodes) × IfFree (s.node n).job begun (BeginsPlan n plan s t) (t ≡ s)
Does (GiveUp n) s t = (n < s.nodes) × GivesUp n s t
Does (Happen event answer) s t = Steps event answer s t

-- a list of calls leads from s to t
abbrev pub Calls : PoolState → List Call → PoolState → Type 0
Calls s [] t = t ≡ s
Calls s (c ∷ cs) t = (mid : PoolState) × Does c s mid × Calls mid cs t

-- a list of calls leads from the start of a cluster to t
abbrev pub Reaches : List Call → PoolState → Type 0
Reaches calls t = (shape : Shape) × (s : PoolState) × Begins shape s × Calls s calls t

-- the groups in storage are the first of the RW's log, and those that it knows to be there are the first of these
abbrev pub StoreIsAFront : Type 0
StoreIsAFront = (calls : List Call) (t : PoolState) → Reaches calls t → IsFront t.log.store.groups t.log.made

abbrev pub AcknowledgedIsAFront : Type 0
AcknowledgedIsAFront = (calls : List Call) (t : PoolState) → Reaches calls t → IsFront t.log.acknowledged t.log.store.groups

-- the LSNs of the log are 1, 2 and so on
abbrev pub LogIsCounted : Type 0
LogIsCounted = (calls : List Call) (t : PoolState) → Reaches calls t → CountsFrom 0 t.log.made

-- nothing leaves the log, nor what is known to be in storage
abbrev pub LogGrows : Type 0
LogGrows = (calls : List Call) (s t : PoolState) → Calls s calls t → IsFront s.log.made t.log.made

abbrev pub AcknowledgedGrows : Type 0
AcknowledgedGrows = (calls : List Call) (s t : PoolState) → Calls s calls t → IsFront s.log.acknowledged t.log.acknowledged

-- what was handed out is a page as the first groups of the log left it
abbrev pub HandedWasCurrent : Type 0
HandedWasCurrent = (calls : List Call) (t : PoolState) → Reaches calls t
    → (n p : ℕ) (handed : Handed) → n < t.nodes → (t.node n).handed p ≡ Some handed
    → (made : List Group) × IsFront made t.log.made × (handed.image ≡ current made p)

-- where a plan's group ends in the log
abbrev pub EndIsKnown : Type 0
EndIsKnown = (event : PoolEvent) (end : ℕ) (s t : PoolState) → Steps event (Did (Installed end)) s t
    → (plan : Plan) × (t.log.made ≡ s.log.made ++ group_of s.log.made plan ∷ []) × (end ≡ sum_by bytes_of t.log.made)

-- What a node learns to be in storage: where an event tells an offset, the groups that are known to be there have so many
-- bytes; where it tells none, these stay as they were. So the commits that settle at an event are those that wait and whose
-- groups end at the offset or before it, whether the append was kept at once or its answer has just arrived
abbrev pub OffsetIsKnown : Type 0
OffsetIsKnown = (event : PoolEvent) (answer : PoolAnswer) (s t : PoolState) (tail : ℕ) → Steps event answer s t
    → kept_by answer ≡ Some tail → tail ≡ sum_by bytes_of t.log.acknowledged

abbrev pub OthersSettleNone : Type 0
OthersSettleNone = (event : PoolEvent) (answer : PoolAnswer) (s t : PoolState) → Steps event answer s t
    → kept_by answer ≡ None → t.log.acknowledged ≡ s.log.acknowledged
