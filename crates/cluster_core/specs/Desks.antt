-- Stated: a turn of a node with the task of its worker.
use Rattle.std.specs.Prelude.{◌≡◌, ℕ, Bool, Option, Some, None}
use Rattle.std.specs.Option.{option_map}
use Rattle.page_pool.specs.State.{PoolState}
use Rattle.statement_work.specs.Terms.{Terms}
use Rattle.statement_work.specs.Works.{Work}
use Rattle.cluster_core.specs.Ledgers.{Account, HasRoom}
use Rattle.cluster_core.specs.Recording.{recorded}
use Rattle.cluster_core.specs.Stages.{MayTurn}
use Rattle.cluster_core.specs.Turns.{Turns}
use Rattle.cluster_core.specs.declared.desks.Task.{Task}
use Rattle.cluster_core.specs.declared.recording.Purpose.{Purpose}
use Rattle.cluster_core.specs.declared.stages.Stage.{Stage}
use Rattle.cluster_core.specs.declared.stages.Turned.{Turned}

-- the task has a next act, and there is room to count what it may come to
abbrev pub MayWork : ℕ → PoolState → Account → Task → Type 0
MayWork n s a task = HasRoom a × MayTurn n s task.stage

-- what is left of a task
abbrev pub task_for : Purpose → Option Stage → Option Task
task_for who None = None
task_for who (Some stage) = Some (record { purpose = who; stage = stage })

abbrev pub stage_of : Option Task → Option Stage
stage_of left = option_map (λ task. task.stage) left

-- what a turn comes to is recorded, and what is left of the task
abbrev pub IsNoted : Purpose → Turned → Account → Account → Option Task → Type 0
IsNoted who turned a b left = (b ≡ recorded who turned.report a) × (left ≡ task_for who turned.stage)

-- the worker's turn, with the stamp of the commits that are published now; what it comes to is recorded
abbrev pub TaskTurn : (t : Terms) → (ℕ → Work t) → ℕ → Task → Work t → PoolState → Account → PoolState → Work t → Account → Option Task → Type 0
TaskTurn t undoes n task w s a now new b left =
    (turned : Turned) × Turns t undoes n a.published task.stage w s now new turned × IsNoted task.purpose turned a b left
