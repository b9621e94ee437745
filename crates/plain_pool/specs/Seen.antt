-- Stated: a plain pool as callers of any pool know it. Node 0 is its one node, and the RW.
use Rattle.std.specs.Prelude.{ℕ, Bool, true, false, ◌&&◌, Option, Some, None, List, [], nat_eq, sum_by, if◌then◌else◌}
use Rattle.page_image.specs.Image.{Image}
use Rattle.redo_record.specs.declared.redo.Group.{Group}
use Rattle.redo_durability.specs.Machine.{State, Phase.Open, Append.NoAppend}
use Rattle.cluster_model.specs.declared.traces.Origin.TheVariants.{Local}
use Rattle.fetch_steps.specs.declared.acts.Action.{Action}
use Rattle.fetch_steps.specs.declared.acts.Action.TheVariants.{Look, Install}
use Rattle.page_store.specs.Stored.{Stored, groups_of}
use Rattle.page_pool.specs.Nodes.{Job, Job.Rests, Job.Fetches, Job.Runs, Handed, NodeState, resting}
use Rattle.page_pool.specs.State.{PoolState, bytes_of, current}
use Rattle.plain_pool.specs.declared.work.Work.{Work}
use Rattle.plain_pool.specs.declared.work.Work.TheVariants.{Rest, Fetch, Run}
use Rattle.plain_pool.specs.Plain.{Plain}

abbrev pub job_of : Work → Job
job_of Rest = Rests
job_of (Fetch page) = Fetches page
job_of (Run plan) = Runs plan false

-- a fetch is one look, and a plan is its install
abbrev pub next_of : Work → Option Action
next_of Rest = None
next_of (Fetch page) = Some (Look page)
next_of (Run plan) = Some Install

abbrev pub acts_of : Work → ℕ
acts_of Rest = 0
acts_of (Fetch page) = 1
acts_of (Run plan) = 1

-- each page is the node's own
abbrev pub page_handed : List Group → ℕ → Option Handed
page_handed made page = Some (record { image = current made page; origin = Local })

-- what was handed out of page p, where it is this page
abbrev pub handed_at : List Group → Option ℕ → ℕ → Option Handed
handed_at made None p = None
handed_at made (Some page) p = if nat_eq p page then page_handed made page else None

abbrev pub node_of : Plain → NodeState
node_of s = record {
  up = true;
  stopped = false;
  job = job_of s.work;
  next = next_of s.work;
  waits = false;
  acts = acts_of s.work;
  handed = handed_at (groups_of s.store) s.handed;
}

-- what is kept is in storage, and known to be; no append is ever on its way
abbrev pub log_of : Stored → State Group
log_of s = record {
  store = record { epoch = 1; groups = s.kept };
  phase = Open;
  epoch = 1;
  made = groups_of s;
  buffer = s.own;
  next = sum_by bytes_of s.kept;
  append = NoAppend;
  acknowledged = s.kept;
}

-- nothing happens beside the acts
unfoldable pub state_of : Plain → PoolState
state_of s = record {
  nodes = 1;
  rw = Some 0;
  log = log_of s.store;
  node = λ n. if nat_eq n 0 then node_of s else resting;
  due = λ event. false;
}
