-- Stated: what a turn of a node does to its pool, its worker and what that wants, and what it comes to.
use Rattle.std.specs.Prelude.{◌≡◌, ◌≢◌, ◌⊎◌, ℕ, Bool, true, false, not, ◌&&◌, ◌||◌, is_some, Option, Some, None}
use Rattle.std.specs.Option.{option_map}
use Rattle.redo_record.specs.declared.plans.Plan.{Plan}
use Rattle.redo_record.specs.declared.plans.PlanKind.{PlanKind}
use Rattle.redo_record.specs.declared.plans.PlanKind.TheVariants as kind
use Rattle.question_tree.specs.Questions.{after}
use Rattle.range_reader.specs.Finding.{page_of}
use Rattle.fetch_steps.specs.declared.acts.Action.TheVariants as action
use Rattle.statement_work.specs.declared.acts.Act.{Act}
use Rattle.statement_work.specs.declared.acts.Act.TheVariants as act
use Rattle.statement_work.specs.declared.acts.Deed.{Deed}
use Rattle.statement_work.specs.declared.acts.Deed.TheVariants as deed
use Rattle.statement_work.specs.declared.acts.Obstacle.TheVariants as obstacle
use Rattle.statement_work.specs.Terms.{Terms}
use Rattle.statement_work.specs.Works.{Work, Input, Handed, Stamped, Made, AskedFor}
use Rattle.statement_work.specs.Acting.{Does, Goes, anew, met}
use Rattle.statement_work.specs.Latches.{number_of}
use Rattle.page_pool.specs.declared.events.How.TheVariants as how
use Rattle.page_pool.specs.declared.events.PoolEvent.TheVariants as event
use Rattle.page_pool.specs.declared.answers.Outcome.{Outcome}
use Rattle.page_pool.specs.declared.answers.PoolAnswer.{PoolAnswer}
use Rattle.page_pool.specs.Events.{kept_by, meets}
use Rattle.page_pool.specs.Nodes as nodes
use Rattle.page_pool.specs.Nodes.{Job, Job.Rests, is_busy, plan_of}
use Rattle.page_pool.specs.State.{PoolState}
use Rattle.page_pool.specs.Calls.{BeginsFetch, BeginsPlan, GivesUp, IsRunnable}
use Rattle.page_pool.specs.Steps.{Steps}
use Rattle.cluster_core.specs.Pools.{Acts, end_in, slots_in}
use Rattle.cluster_core.specs.declared.stages.Report.{Report}
use Rattle.cluster_core.specs.declared.stages.Report.TheVariants as report
use Rattle.cluster_core.specs.declared.stages.Stage.{Stage}
use Rattle.cluster_core.specs.declared.stages.Stage.TheVariants.{Fetching, FetchingFixed, FetchingSure, Releasing, Running, Stamping, Appending, Quitting, Replying, Resting}
use Rattle.cluster_core.specs.declared.stages.Turned.{Turned}

-- ---- a worker's act

-- what is to be done for an act, and what the pool begins for it
abbrev pub BeginsDeed : ℕ → Deed → PoolState → PoolState → Stage → Type 0
BeginsDeed n (deed.Fetch q) s t stage = (stage ≡ Fetching q) × BeginsFetch n (page_of q) s t
BeginsDeed n (deed.FetchFixed place) s t stage = (stage ≡ FetchingFixed place) × BeginsFetch n (number_of place) s t
BeginsDeed n (deed.FetchSure q) s t stage = (stage ≡ FetchingSure q) × BeginsFetch n (page_of q) s t
BeginsDeed n (deed.Release page) s t stage = (stage ≡ Releasing page) × (t ≡ s)
BeginsDeed n (deed.Run plan) s t stage = (stage ≡ Running false) × BeginsPlan n plan s t
BeginsDeed n deed.Stamp s t stage = (stage ≡ Stamping) × (t ≡ s)
BeginsDeed n deed.Append s t stage = (stage ≡ Appending) × (t ≡ s)

abbrev pub Begins : ℕ → Act → PoolState → PoolState → Stage → Type 0
Begins n (act.Do d) s t stage = BeginsDeed n d s t stage
Begins n (act.Reply r) s t stage = (stage ≡ Replying r) × (t ≡ s)
Begins n act.Rest s t stage = (stage ≡ Resting) × (t ≡ s)

-- a plan that is begun can be run
abbrev pub DeedRuns : PoolState → Deed → Type 0
DeedRuns s (deed.Fetch q) = Unit {0}
DeedRuns s (deed.FetchFixed place) = Unit {0}
DeedRuns s (deed.FetchSure q) = Unit {0}
DeedRuns s (deed.Release page) = Unit {0}
DeedRuns s (deed.Run plan) = IsRunnable s.log.made plan
DeedRuns s deed.Stamp = Unit {0}
DeedRuns s deed.Append = Unit {0}

abbrev pub ActRuns : PoolState → Act → Type 0
ActRuns s (act.Do d) = DeedRuns s d
ActRuns s (act.Reply r) = Unit {0}
ActRuns s act.Rest = Unit {0}

-- the worker was told, so that it goes on with work w: it wants an act of this work, which is begun
abbrev pub GoesOn : (t : Terms) → ℕ → Work t → PoolState → PoolState → Work t → Stage → Type 0
GoesOn t n w s now new stage = (next : Act) × Does t w next × Goes w new × Begins n next s now stage

-- ---- what a plan's install comes to

abbrev pub report_for : PlanKind → ℕ → Report
report_for (kind.Begin trx) end = report.Numbered trx
report_for kind.Change end = report.Went
report_for kind.Split end = report.Went
report_for kind.Undo end = report.Went
report_for kind.Commit end = report.Queued end
report_for kind.Free end = report.Went

abbrev pub report_of : Option PlanKind → Option ℕ → Report
report_of None end = report.Went
report_of (Some k) None = report.Went
report_of (Some k) (Some end) = report_for k end

abbrev pub kind_of : Job → Option PlanKind
kind_of job = option_map (λ plan. plan.kind) (plan_of job)

-- a plan is installed, if its act told an end of the log
abbrev pub now_installed : Bool → Option ℕ → Bool
now_installed installed end = installed || is_some end

-- ---- turns

-- the stage stays
abbrev pub IsSame : (t : Terms) → Work t → Work t → Stage → Report → Turned → Type 0
IsSame t w new stage r turned = (new ≡ w) × (turned ≡ record { stage = Some stage; report = r })

-- the worker goes on with work w
abbrev pub IsGone : (t : Terms) → ℕ → Work t → PoolState → PoolState → Work t → Report → Turned → Type 0
IsGone t n w s now new r turned =
    (stage : Stage) × GoesOn t n w s now new stage × (turned ≡ record { stage = Some stage; report = r })

-- the page that was handed out is given to the worker
abbrev pub Hands : (t : Terms) → (ℕ → Work t) → ℕ → ℕ → Work t → PoolState → PoolState → Work t → Turned → Type 0
Hands t undoes n p w s now new turned =
    (h : nodes.Handed) × ((s.node n).handed p ≡ Some h)
    × IsGone t n (anew undoes (after w (Handed h.image))) s now new
    (report.Used p h.image.lsn h.origin) turned

-- a full pool is told, as soon as nothing is under way any more
abbrev pub Quits : (t : Terms) → ℕ → ℕ → Work t → PoolState → PoolState → Work t → Turned → Type 0
Quits t n slots w s now new turned =
    ((is_busy (s.node n).job ≡ true) × (now ≡ s) × IsSame t w new (Quitting slots) report.Went turned)
    ⊎ (((s.node n).job ≡ Rests) × IsGone t n (met w (obstacle.PoolFull slots)) s now new report.Went turned)

-- the pool, with so many slots, is full, so what is under way is given up
abbrev pub FillsWith : (t : Terms) → ℕ → ℕ → Work t → PoolState → PoolState → Work t → Turned → Type 0
FillsWith t n slots w s now new turned = (mid : PoolState) × GivesUp n s mid × Quits t n slots w mid now new turned

abbrev pub Fills : (t : Terms) → ℕ → Option Outcome → Work t → PoolState → PoolState → Work t → Turned → Type 0
Fills t n outcome w s now new turned =
    (slots : ℕ) × (slots_in outcome ≡ Some slots) × FillsWith t n slots w s now new turned

-- a fetch goes on, or it is over and its page is given
abbrev pub FetchGoes : (t : Terms) → (ℕ → Work t) → ℕ → ℕ → Stage → Work t → PoolState → PoolState → Work t → Turned → Type 0
FetchGoes t undoes n p stage w s now new turned =
    ((is_busy (s.node n).job ≡ true) × (now ≡ s) × IsSame t w new stage report.Went turned)
    ⊎ (((s.node n).job ≡ Rests) × Hands t undoes n p w s now new turned)

-- an act of a fetch, after which it is given up, or goes on or is over
abbrev pub FetchActs : (t : Terms) → (ℕ → Work t) → ℕ → ℕ → Stage → Work t → PoolState → PoolState → Work t → Turned → Type 0
FetchActs t undoes n p stage w s now new turned =
    (outcome : Option Outcome) × (mid : PoolState) × Acts n outcome s mid
    × (Fills t n outcome w mid now new turned
    ⊎ ((slots_in outcome ≡ None) × FetchGoes t undoes n p stage w mid now new turned))

-- a turn with a fetch: an act of it, or where it is over, its end
unfoldable pub FetchTurn : (t : Terms) → (ℕ → Work t) → ℕ → ℕ → Stage → Work t → PoolState → PoolState → Work t → Turned → Type 0
FetchTurn t undoes n p stage w s now new turned =
    ((is_busy (s.node n).job ≡ true) × FetchActs t undoes n p stage w s now new turned)
    ⊎ (((s.node n).job ≡ Rests) × Hands t undoes n p w s now new turned)

-- a plan goes on, or it is over and that is told
abbrev pub PlanGoes : (t : Terms) → (ℕ → Work t) → ℕ → Bool → Report → Work t → PoolState → PoolState → Work t → Turned → Type 0
PlanGoes t undoes n installed r w s now new turned =
    ((is_busy (s.node n).job ≡ true) × (now ≡ s) × IsSame t w new (Running installed) r turned)
    ⊎ (((s.node n).job ≡ Rests) × IsGone t n (anew undoes (after w Made)) s now new r turned)

-- a plan is given up where the pool, with so many slots, is full and nothing is installed
abbrev pub filled : Bool → Option Outcome → Option ℕ
filled true outcome = None
filled false outcome = slots_in outcome

-- a turn with a plan: an act of it, after which it is given up, or goes on or is over
abbrev pub PlanTurn : (t : Terms) → (ℕ → Work t) → ℕ → Bool → Work t → PoolState → PoolState → Work t → Turned → Type 0
PlanTurn t undoes n installed w s now new turned =
    (outcome : Option Outcome) × (mid : PoolState) × Acts n outcome s mid
    × (((slots : ℕ) × (filled installed outcome ≡ Some slots) × FillsWith t n slots w mid now new turned)
    ⊎ ((filled installed outcome ≡ None)
    × PlanGoes t undoes n (now_installed installed (end_in outcome)) (report_of (kind_of (s.node n).job) (end_in outcome)) w mid now new turned))

-- a turn with what is given up: an act of its end
abbrev pub QuitTurn : (t : Terms) → ℕ → ℕ → Work t → PoolState → PoolState → Work t → Turned → Type 0
QuitTurn t n slots w s now new turned =
    ((is_busy (s.node n).job ≡ true)
    × ((outcome : Option Outcome) × (mid : PoolState) × Acts n outcome s mid × Quits t n slots w mid now new turned))
    ⊎ (((s.node n).job ≡ Rests) × Quits t n slots w s now new turned)

-- a turn with a page that is let go: the act, or nothing where the node has the page no more; the worker goes on where the
-- act was made
unfoldable pub Lets : ℕ → ℕ → Bool → PoolState → PoolState → Type 0
Lets n page met s mid =
    ((mid ≡ s) × ((s.node n).handed page ≡ None) × (met ≡ false))
    ⊎ ((answer : PoolAnswer) × Steps (event.Act n (action.Release page) how.Made) answer s mid × (met ≡ meets answer))

abbrev pub ReleaseTurn : (t : Terms) → (ℕ → Work t) → ℕ → ℕ → Work t → PoolState → PoolState → Work t → Turned → Type 0
ReleaseTurn t undoes n page w s now new turned =
    (met : Bool) × (mid : PoolState) × Lets n page met s mid
    × (((met ≡ true) × (now ≡ mid) × IsSame t w new (Releasing page) report.Went turned)
    ⊎ ((met ≡ false) × IsGone t n (anew undoes (after w Made)) mid now new report.Went turned))

-- a turn with an append: where it is known to be kept, the worker goes on
abbrev pub AppendTurn : (t : Terms) → (ℕ → Work t) → ℕ → Work t → PoolState → PoolState → Work t → Turned → Type 0
AppendTurn t undoes n w s now new turned =
    (answer : PoolAnswer) × (mid : PoolState) × Steps (event.Act n action.Append how.Made) answer s mid
    × (((kept_by answer ≡ None) × (now ≡ mid) × IsSame t w new Appending report.Went turned)
    ⊎ ((tail : ℕ) × (kept_by answer ≡ Some tail) × IsGone t n (anew undoes (after w Made)) mid now new (report.Kept tail) turned))

-- nothing is left of the work
abbrev pub IsOver : PoolState → PoolState → Report → Turned → Type 0
IsOver s now r turned = (now ≡ s) × (turned ≡ record { stage = None; report = r })

-- a turn of node n, whose stamp for a snapshot is given
abbrev pub Turns : (t : Terms) → (ℕ → Work t) → ℕ → ℕ → Stage → Work t → PoolState → PoolState → Work t → Turned → Type 0
Turns t undoes n stamp (Fetching q) w s now new turned = FetchTurn t undoes n (page_of q) (Fetching q) w s now new turned
Turns t undoes n stamp (FetchingFixed place) w s now new turned =
    FetchTurn t undoes n (number_of place) (FetchingFixed place) w s now new turned
Turns t undoes n stamp (FetchingSure q) w s now new turned = FetchTurn t undoes n (page_of q) (FetchingSure q) w s now new turned
Turns t undoes n stamp (Releasing page) w s now new turned = ReleaseTurn t undoes n page w s now new turned
Turns t undoes n stamp (Running installed) w s now new turned = PlanTurn t undoes n installed w s now new turned
Turns t undoes n stamp Stamping w s now new turned =
    IsGone t n (anew undoes (after w (Stamped stamp))) s now new (report.Snapped stamp) turned
Turns t undoes n stamp Appending w s now new turned = AppendTurn t undoes n w s now new turned
Turns t undoes n stamp (Quitting slots) w s now new turned = QuitTurn t n slots w s now new turned
Turns t undoes n stamp (Replying r) w s now new turned = IsOver s now (report.Replied r) turned
Turns t undoes n stamp Resting w s now new turned = IsOver s now report.Rested turned
