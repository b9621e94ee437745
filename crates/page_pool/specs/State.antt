-- Stated: what callers know of a pool, and what they may ask of it.
use Rattle.std.specs.Prelude.{◌≡◌, ◌≢◌, ◌+◌, ◌<◌, ◌⊎◌, ℕ, Bool, true, false, ◌&&◌, Option, Some, None, IsSome, List, [], ◌∷◌, length}
use Rattle.page_image.specs.Image.{Image, unmade}
use Rattle.redo_record.specs.declared.redo.Group.{Group}
use Rattle.redo_record.specs.declared.plans.Plan.{Plan}
use Rattle.redo_record.specs.Spelling.{group_bytes}
use Rattle.redo_record.specs.Effect.{after_groups}
use Rattle.redo_record.specs.Opening.{opening}
use Rattle.redo_durability.specs.Machine.{State, start, Append.NoAppend}
use Rattle.cluster_model.specs.declared.shape.Shape.{Shape}
use Rattle.fetch_steps.specs.declared.acts.Action.{Action}
use Rattle.fetch_steps.specs.declared.acts.Action.TheVariants as action
use Rattle.page_pool.specs.declared.events.PoolEvent.{PoolEvent}
use Rattle.page_pool.specs.declared.events.PoolEvent.TheVariants.{Act, Deliver, Home, Ship, Fold, Evict}
use Rattle.page_pool.specs.Nodes.{NodeState, is_able, resting}
use Rattle.page_pool.specs.Events.{can_end}

pub record PoolState : Type 0 where
  pub nodes : ℕ  -- how many
  pub rw : Option ℕ  -- the node that writes
  pub log : State Group  -- its log, and the log store
  pub node : ℕ → NodeState
  pub due : PoolEvent → Bool  -- of what happens beside the acts: whether it can happen

-- how many bytes of the log a group takes
abbrev pub bytes_of : Group → ℕ
bytes_of g = length (group_bytes g)

-- page p as the groups leave it
abbrev pub current : List Group → ℕ → Image
current made p = after_groups made (unmade p)

-- the LSN of the group that comes next
abbrev pub next_lsn : List Group → ℕ
next_lsn made = 1 + length made

-- the group of a plan that is installed next
abbrev pub group_of : List Group → Plan → Group
group_of made plan = record { lsn = next_lsn made; records = plan.records }

-- a pool of a cluster that begins: node 0 writes, the log is the opening, which is kept, and nothing is under way
pub record Begins (shape : Shape) (s : PoolState) : Type 0 where
  pub nodes : s.nodes ≡ shape.nodes
  pub rw : s.rw ≡ Some 0
  pub log : s.log ≡ start bytes_of (opening ∷ [])
  pub rests : (n : ℕ) → n < shape.nodes → s.node n ≡ resting

-- the event's condition: a node that acts is up and not stopped, and its act can end so
abbrev pub admits : PoolState → PoolEvent → Bool
admits s (Act n act how) = is_able (s.node n) && can_end act how
admits s event = s.due event

-- what a node may do beside what comes next of itself: it releases a page that was handed out; and the RW, where it waits
-- for nothing and no append is unanswered, appends what is in its buffer
abbrev pub IsBeside : PoolState → ℕ → Action → Type 0
IsBeside s n (action.Release page) = IsSome ((s.node n).handed page)
IsBeside s n action.Append = (s.rw ≡ Some n) × ((s.node n).waits ≡ false) × (s.log.append ≡ NoAppend) × (s.log.buffer ≢ [])
IsBeside s n _ = ⊥

-- the act comes next, or may be done beside
abbrev pub MayAct : PoolState → ℕ → Action → Type 0
MayAct s n act = ((s.node n).next ≡ Some act) ⊎ IsBeside s n act

-- what a caller has to know of an event: its node and its chunk are there, and a node that can act may do the act
abbrev pub Suits : PoolState → PoolEvent → Type 0
Suits s (Act n act how) = (n < s.nodes) × (is_able (s.node n) ≡ true → MayAct s n act)
Suits s (Evict n page) = n < s.nodes
Suits s (Ship chunk) = chunk < 128
Suits s _ = Unit {0}
