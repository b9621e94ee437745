-- Stated: what a node's worker wants, and how that stands to its work and to the pool.
use Rattle.std.specs.Prelude.{◌≡◌, ◌⊎◌, ℕ, Bool, true, false, Option, Some, None, IsSome}
use Rattle.redo_record.specs.declared.plans.Plan.{Plan}
use Rattle.question_tree.specs.Questions.{wanted, after}
use Rattle.range_reader.specs.Finding.{page_of}
use Rattle.statement_work.specs.declared.acts.Act.TheVariants as act
use Rattle.statement_work.specs.declared.acts.Deed.TheVariants as deed
use Rattle.statement_work.specs.Terms.{Terms}
use Rattle.statement_work.specs.Works.{Work, Input, Handed, Stamped, Made, AskedFor}
use Rattle.statement_work.specs.Acting.{Does, anew}
use Rattle.statement_work.specs.Latches.{number_of}
use Rattle.page_pool.specs.Nodes as nodes
use Rattle.page_pool.specs.Nodes.{Job.Rests, Job.Fetches, Job.Runs, NodeState, is_busy}
use Rattle.page_pool.specs.State.{IsBeside, PoolState}
use Rattle.fetch_steps.specs.declared.acts.Action.TheVariants as action
use Rattle.page_pool.specs.Steps.{Steps}
use Rattle.page_pool.specs.declared.answers.PoolAnswer.{PoolAnswer}
use Rattle.page_pool.specs.declared.events.How.TheVariants.{Made}
use Rattle.page_pool.specs.declared.events.PoolEvent.TheVariants.{Act}
use Rattle.fetch_steps.specs.declared.acts.Action.{Action}
use Rattle.page_pool.specs.Calls.{IsRunnable}
use Rattle.cluster_core.specs.declared.stages.Stage.{Stage}
use Rattle.cluster_core.specs.declared.stages.Stage.TheVariants.{Fetching, FetchingFixed, FetchingSure, Releasing, Running, Stamping, Appending, Quitting, Replying, Resting}

-- the page that is fetched
abbrev pub page_wanted : Stage → Option ℕ
page_wanted (Fetching q) = Some (page_of q)
page_wanted (FetchingFixed place) = Some (number_of place)
page_wanted (FetchingSure q) = Some (page_of q)
page_wanted (Releasing page) = None
page_wanted (Running installed) = None
page_wanted Stamping = None
page_wanted Appending = None
page_wanted (Quitting slots) = None
page_wanted (Replying r) = None
page_wanted Resting = None

-- page p is fetched at the node, or was handed out
abbrev pub IsFetched : ℕ → NodeState → Type 0
IsFetched p node = (node.job ≡ Fetches p) ⊎ ((node.job ≡ Rests) × IsSome (node.handed p))

-- a plan that the work wants is under way, and is installed or not; or it is over
abbrev pub IsPlanned : (t : Terms) → Work t → NodeState → Bool → Type 0
IsPlanned t w node installed =
    (plan : Plan) × Does t w (act.Do (deed.Run plan)) × ((node.job ≡ Runs plan installed) ⊎ (node.job ≡ Rests))

-- the stage is what the work wants, and the pool has begun it
abbrev pub Stands : (t : Terms) → Work t → NodeState → Stage → Type 0
Stands t w node (Fetching q) = Does t w (act.Do (deed.Fetch q)) × IsFetched (page_of q) node
Stands t w node (FetchingFixed place) = Does t w (act.Do (deed.FetchFixed place)) × IsFetched (number_of place) node
Stands t w node (FetchingSure q) = Does t w (act.Do (deed.FetchSure q)) × IsFetched (page_of q) node
Stands t w node (Releasing page) = Does t w (act.Do (deed.Release page)) × (node.job ≡ Rests)
Stands t w node (Running installed) = (plan : Plan) × Does t w (act.Do (deed.Run plan)) × (node.job ≡ Runs plan installed)
Stands t w node Stamping = Does t w (act.Do deed.Stamp) × (node.job ≡ Rests)
Stands t w node Appending = Does t w (act.Do deed.Append) × (node.job ≡ Rests)
Stands t w node (Quitting slots) = IsSome (wanted w)
Stands t w node (Replying r) = node.job ≡ Rests
Stands t w node Resting = node.job ≡ Rests

-- the same of a worker that may have nothing to do
abbrev pub StandsIf : (t : Terms) → Work t → NodeState → Option Stage → Type 0
StandsIf t w node None = node.job ≡ Rests
StandsIf t w node (Some stage) = Stands t w node stage

-- ---- what a worker's next steps ask of its caller

-- the plans that the work may want now can be run
unfoldable pub PlansRun : (t : Terms) → PoolState → Work t → Type 0
PlansRun t s w = (plan : Plan) → Does t w (act.Do (deed.Run plan)) → IsRunnable s.log.made plan

-- the pool as it is, or after an act of the node
abbrev pub Becomes : ℕ → PoolState → PoolState → Type 0
Becomes n s mid = (mid ≡ s) ⊎ ((action : Action) × (answer : PoolAnswer) × Steps (Act n action Made) answer s mid)

-- plans that the work wants can be run, now or after an act of the node
unfoldable pub RunsAgain : (t : Terms) → ℕ → PoolState → Work t → Type 0
RunsAgain t n s w = (mid : PoolState) → Becomes n s mid → PlansRun t mid w

-- a page that is given is one that was handed out
abbrev pub IsGiven : NodeState → Input → Type 0
IsGiven node (Handed im) = (p : ℕ) × (h : nodes.Handed) × (node.handed p ≡ Some h) × (im ≡ h.image)
IsGiven node (Stamped stamp) = Unit {0}
IsGiven node Made = Unit {0}

-- what is given can be taken at any such time, and plans that the work wants then can be run
unfoldable pub RunsAfter : (t : Terms) → (ℕ → Work t) → ℕ → PoolState → Work t → Type 0
RunsAfter t undoes n s w =
    (x : Input) → AskedFor w x → (mid : PoolState) → Becomes n s mid → IsGiven (mid.node n) x → PlansRun t mid (anew undoes (after w x))

-- a page that is handed out then is one that the work asks for
unfoldable pub HandsAsked : (t : Terms) → ℕ → ℕ → PoolState → Work t → Type 0
HandsAsked t n p s w =
    (mid : PoolState) → Becomes n s mid → (mid.node n).job ≡ Rests → (h : nodes.Handed) → (mid.node n).handed p ≡ Some h
    → AskedFor w (Handed h.image)

-- the same, of the pool as it is
unfoldable pub AsksNow : (t : Terms) → ℕ → ℕ → PoolState → Work t → Type 0
AsksNow t n p s w = (h : nodes.Handed) → (s.node n).handed p ≡ Some h → AskedFor w (Handed h.image)

-- where nothing is under way any more
unfoldable pub AsksOver : (t : Terms) → ℕ → ℕ → PoolState → Work t → Type 0
AsksOver t n p s w = (s.node n).job ≡ Rests → AsksNow t n p s w

unfoldable pub RunsNow : (t : Terms) → (ℕ → Work t) → ℕ → PoolState → Work t → Type 0
RunsNow t undoes n s w = (x : Input) → AskedFor w x → IsGiven (s.node n) x → PlansRun t s (anew undoes (after w x))

-- what is under way does not wait for an answer
abbrev pub IsUnderWay : NodeState → Type 0
IsUnderWay node = is_busy node.job ≡ true → node.waits ≡ false

-- the node has a next act for what is wanted
abbrev pub MayTurn : ℕ → PoolState → Stage → Type 0
MayTurn n s (Fetching q) = (s.node n).waits ≡ false
MayTurn n s (FetchingFixed place) = (s.node n).waits ≡ false
MayTurn n s (FetchingSure q) = (s.node n).waits ≡ false
MayTurn n s (Releasing page) = Unit {0}
MayTurn n s (Running installed) = (s.node n).waits ≡ false
MayTurn n s Stamping = Unit {0}
MayTurn n s Appending = IsBeside s n action.Append
MayTurn n s (Quitting slots) = (s.node n).waits ≡ false
MayTurn n s (Replying r) = Unit {0}
MayTurn n s Resting = Unit {0}

-- a page that is handed out is one that the work asks for, and plans that it wants then, or still, can be run
pub record IsReady (t : Terms) (undoes : ℕ → Work t) (n : ℕ) (w : Work t) (s : PoolState) (stage : Stage) : Type 0 where
  pub pages : (p : ℕ) → page_wanted stage ≡ Some p → HandsAsked t n p s w
  pub plans : RunsAfter t undoes n s w
  pub again : RunsAgain t n s w
