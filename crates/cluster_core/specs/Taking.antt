-- Stated: how texts are read, the job that a statement is, and what a worker that takes something up goes on to.
use Rattle.std.specs.Prelude.{◌≡◌, ℕ, List, Option, Some, None, Result, Ok, Err}
use Rattle.std.specs.Result.{result_ok}
use Rattle.sql_statements.specs.declared.statements.Stmt.{Stmt}
use Rattle.sql_front.specs.Sentences.{Reads}
use Rattle.page_pool.specs.State.{PoolState}
use Rattle.session_state.specs.declared.places.Asked.{Asked}
use Rattle.session_state.specs.declared.places.Place.{Place}
use Rattle.session_state.specs.declared.places.Place.TheVariants.{Idle, Active, Lost}
use Rattle.session_state.specs.declared.places.SessionRow.{SessionRow}
use Rattle.session_state.specs.Rows.{class_of, number_in}
use Rattle.statement_work.specs.declared.acts.Job.{Job}
use Rattle.statement_work.specs.Terms.{Terms}
use Rattle.statement_work.specs.Works.{Work}
use Rattle.cluster_core.specs.Ledgers.{Account, submitted}
use Rattle.sql_database.specs.declared.replies.SqlReply.TheVariants as reply
use Rattle.cluster_core.specs.Stages.{PlansRun}
use Rattle.cluster_core.specs.Turns.{GoesOn}
use Rattle.cluster_core.specs.declared.recording.Purpose.TheVariants.{Serving}
use Rattle.cluster_core.specs.declared.stages.Stage.TheVariants.{Replying}
use Rattle.cluster_core.specs.declared.desks.Task.{Task}
use Rattle.cluster_core.specs.declared.recording.Purpose.{Purpose}
use Rattle.cluster_core.specs.declared.stages.Stage.{Stage}

-- what an unanswered statement is read as
unfoldable pub ReadsAsked : Option Asked → Option (Result Stmt ℕ) → Type 0
ReadsAsked None o = o ≡ None
ReadsAsked (Some asked) o = (read : Result Stmt ℕ) × (o ≡ Some read) × Reads asked.text read

-- the session hands in a text, of the class of what it is read as
unfoldable pub Submits : ℕ → List ℕ → Account → Account → Type 0
Submits s text a b = (read : Result Stmt ℕ) × Reads text read × (b ≡ submitted s text (class_of (result_ok read)) a)

abbrev pub snap_in : Place → Option ℕ
snap_in Idle = None
snap_in (Active snap own) = Some snap
snap_in Lost = None

-- the job that a statement of the session is
abbrev pub job_for : ℕ → Stmt → SessionRow → Job
job_for s statement row = record {
  session = s;
  statement = statement;
  snapshot = snap_in row.place;
  trx = number_in row.place;
  lasting = row.lasting;
}

-- a worker that takes up this work wants an act of it, which is begun
abbrev pub IsBegun : (t : Terms) → ℕ → Purpose → Work t → PoolState → PoolState → Work t → Task → Type 0
IsBegun t n who w s now new task = (stage : Stage) × GoesOn t n w s now new stage × (task ≡ record { purpose = who; stage = stage })

-- no statement begins with a plan that cannot be run
unfoldable pub StartsCalmly : (t : Terms) → (Job → Work t) → PoolState → Type 0
StartsCalmly t serves s = (job : Job) → PlansRun t s (serves job)

-- what a text was read as is begun, or answered at once
abbrev pub TakesRead : (t : Terms) → (Job → Work t) → ℕ → ℕ → SessionRow → Result Stmt ℕ → PoolState → PoolState → Work t → Task → Type 0
TakesRead t serves n s row (Ok statement) pool now new task = IsBegun t n (Serving s) (serves (job_for s statement row)) pool now new task
TakesRead t serves n s row (Err at) pool now new task =
    (now ≡ pool) × (task ≡ record { purpose = Serving s; stage = Replying (reply.Syntax at) })

-- the session's statement is taken up, if it has one
abbrev pub TakesAsked : (t : Terms) → (Job → Work t) → ℕ → ℕ → SessionRow → Option Asked → PoolState → PoolState → Work t → Option Task → Type 0
TakesAsked t serves n s row None pool now new task = (now ≡ pool) × (task ≡ None)
TakesAsked t serves n s row (Some asked) pool now new task =
    (read : Result Stmt ℕ) × (taken : Task) × Reads asked.text read × TakesRead t serves n s row read pool now new taken × (task ≡ Some taken)

unfoldable pub Takes : (t : Terms) → (Job → Work t) → ℕ → ℕ → SessionRow → PoolState → PoolState → Work t → Option Task → Type 0
Takes t serves n s row pool now new task = TakesAsked t serves n s row row.asked pool now new task
