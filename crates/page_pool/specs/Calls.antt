-- Stated: what begins work of a node, and what ends it before its time.
use Rattle.std.specs.Prelude.{◌≡◌, ◌≢◌, ◌≤◌, ◌<◌, ◌⊎◌, ℕ, Bool, true, false, Option, Some, None, List, length}
use Rattle.std.specs.List.{AllByRecursion, Contains}
use Rattle.page_image.specs.Image.{unmade}
use Rattle.redo_record.specs.declared.redo.Group.{Group}
use Rattle.redo_record.specs.declared.plans.Plan.{Plan}
use Rattle.redo_record.specs.Spelling.{IsAdmitted}
use Rattle.redo_record.specs.Effect.{page_of, RecordsApply}
use Rattle.cluster_model.specs.declared.traces.Origin.{Origin}
use Rattle.page_pool.specs.Nodes.{Job, Job.Rests, Job.Fetches, Job.Runs, Job.Quits, is_busy, Handed, NodeState, IsNode}
use Rattle.page_pool.specs.State.{PoolState, current}

-- a plan that can be run over the pages of the log: its records can be kept, are for its pages and apply to them, and the
-- pages that it makes are not made
pub record IsRunnable (made : List Group) (plan : Plan) : Type 0 where
  pub some : 1 ≤ length plan.records
  pub most : length plan.records ≤ 65535
  pub admitted : AllByRecursion IsAdmitted plan.records
  pub mine : AllByRecursion (λ r. Contains plan.pages (page_of r)) plan.records
  pub apply : (lsn p : ℕ) → RecordsApply lsn plan.records (current made p)
  pub unmade : AllByRecursion (λ p. current made p ≡ unmade p) plan.made

-- a fetch hands out the page as the log leaves it
abbrev pub HandsOut : List Group → ℕ → Option Handed → Type 0
HandsOut made p handed = (origin : Origin) × (handed ≡ Some (record { image = current made p; origin = origin }))

-- what was handed out stands, or goes
abbrev pub MayGo : Option Handed → Option Handed → Type 0
MayGo old new = (new ≡ old) ⊎ (new ≡ None)

-- node n changes, and nothing beside
pub record ChangesNode (n : ℕ) (s t : PoolState) : Type 0 where
  pub nodes : t.nodes ≡ s.nodes
  pub rw : t.rw ≡ s.rw
  pub log : t.log ≡ s.log
  pub up : (t.node n).up ≡ (s.node n).up
  pub stopped : (t.node n).stopped ≡ (s.node n).stopped
  pub others : (m : ℕ) → m ≢ n → t.node m ≡ s.node m
  pub node : IsNode (t.node n)

-- node n begins a fetch of page p. It may be over at once, where the node has the page
pub record BeginsFetch (n p : ℕ) (s t : PoolState) : Type 0 where
  pub changes : ChangesNode n s t
  pub job : ((t.node n).job ≡ Fetches p) ⊎ ((t.node n).job ≡ Rests)
  pub over : (t.node n).job ≡ Rests → HandsOut s.log.made p ((t.node n).handed p)
  pub page : (t.node n).job ≡ Fetches p → MayGo ((s.node n).handed p) ((t.node n).handed p)
  pub pages : (q : ℕ) → q ≢ p → MayGo ((s.node n).handed q) ((t.node n).handed q)

-- node n begins a plan
pub record BeginsPlan (n : ℕ) (plan : Plan) (s t : PoolState) : Type 0 where
  pub changes : ChangesNode n s t
  pub job : (t.node n).job ≡ Runs plan false
  pub pages : (q : ℕ) → MayGo ((s.node n).handed q) ((t.node n).handed q)

-- node n gives up what it has under way, and what was handed out. Latches may still have to be released
pub record GivesUp (n : ℕ) (s t : PoolState) : Type 0 where
  pub changes : ChangesNode n s t
  pub job : ((t.node n).job ≡ Quits) ⊎ ((t.node n).job ≡ Rests)
  pub pages : (q : ℕ) → (t.node n).handed q ≡ None

-- begun exactly where nothing was under way; else nothing has changed
pub record IfFree (job : Job) (begun : Bool) (Begun Same : Type 0) : Type 0 where
  pub refused : (begun ≡ false → is_busy job ≡ true) × (is_busy job ≡ true → begun ≡ false)
  pub begins : begun ≡ true → Begun
  pub same : begun ≡ false → Same
