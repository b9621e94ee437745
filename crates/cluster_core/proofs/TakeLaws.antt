-- For the proofs: what is taken up.
use Rattle.std.proofs.Common.{◌≡◌, ℕ, List, Option, Some, None, Result, Ok, Err, refl, sym, ap, subst, ◌∙◌}
use Rattle.std.specs.Result.{result_ok}
use Rattle.sql_statements.specs.declared.statements.Stmt.{Stmt}
use Rattle.sql_front.specs.Sentences.{Reads}
use Rattle.page_pool.specs.State.{PoolState}
use Rattle.session_state.specs.declared.classes.StatementClass.{StatementClass}
use Rattle.session_state.specs.Rows.{class_of}
use Rattle.statement_work.specs.declared.acts.Act.{Act}
use Rattle.statement_work.specs.Terms.{Terms}
use Rattle.statement_work.specs.Works.{Work}
use Rattle.statement_work.specs.Acting.{Does, Goes}
use Rattle.cluster_core.specs.Ledgers.{Account, submitted}
use Rattle.cluster_core.specs.Taking.{IsBegun, ReadsAsked, StartsCalmly, Submits, Takes, TakesAsked, TakesRead, job_for}
use Rattle.session_state.specs.declared.places.Asked.{Asked}
use Rattle.session_state.specs.declared.places.SessionRow.{SessionRow}
use Rattle.statement_work.specs.declared.acts.Job.{Job}
use Rattle.cluster_core.specs.Stages.{PlansRun}
use Rattle.cluster_core.specs.Turns.{Begins}
use Rattle.cluster_core.specs.declared.desks.Task.{Task}
use Rattle.cluster_core.specs.declared.recording.Purpose.TheVariants.{Serving}
use Rattle.cluster_core.specs.declared.recording.Purpose.{Purpose}
use Rattle.cluster_core.specs.declared.stages.Stage.{Stage}

pub begun : (t : Terms) (n : ℕ) (who : Purpose) (w new : Work t) (next : Act) (s now : PoolState) (stage : Stage) → Begins n next s now stage
    → Does t w next → Goes w new → IsBegun t n who w s now new (record { purpose = who; stage = stage })
begun t n who w new next s now stage b d g = (stage, (next, d, g, b), refl)

pub submits : (s : ℕ) (text : List ℕ) (read : Result Stmt ℕ) (class : StatementClass) (a b : Account) → Reads text read → class ≡ class_of (result_ok read)
    → b ≡ submitted s text class a → Submits s text a b
unfolding Submits
submits s text read class a b r e f = (read, r, f ∙ ap (λ (x : StatementClass). submitted s text x a) e)

pub asked_none : (o : Option (Result Stmt ℕ)) (asked : Option Asked) → asked ≡ None → o ≡ None → ReadsAsked asked o
unfolding ReadsAsked
asked_none o None e f = f
asked_none o (Some asked) e f = absurd (some_none asked e)
  where
    some_none : (asked : Asked) → Some asked ≡ None → ⊥
    some_none asked e = cc

pub asked_read : (asked : Asked) (read : Result Stmt ℕ) (o : Option Asked) → Reads asked.text read → o ≡ Some asked → ReadsAsked o (Some read)
unfolding ReadsAsked
asked_read asked read o r e = subst (λ (x : Option Asked). ReadsAsked x (Some read)) (sym e) (read, refl, r)

pub calm_job : (t : Terms) (serves : Job → Work t) (s : PoolState) (job : Job) → StartsCalmly t serves s → PlansRun t s (serves job)
unfolding StartsCalmly
calm_job t serves s job h = h job

pub takes_statement : (t : Terms) (serves : Job → Work t) (n s : ℕ) (row : SessionRow) (statement : Stmt) (job : Job) (pool now : PoolState) (new : Work t) (task : Task)
    → job ≡ job_for s statement row → IsBegun t n (Serving job.session) (serves job) pool now new task
    → IsBegun t n (Serving s) (serves (job_for s statement row)) pool now new task
takes_statement t serves n s row statement job pool now new task e h =
    subst (λ (x : Job). IsBegun t n (Serving x.session) (serves x) pool now new task) e h

pub takes_asked : (t : Terms) (serves : Job → Work t) (n s : ℕ) (row : SessionRow) (read : Result Stmt ℕ) (pool now : PoolState) (new : Work t) (task : Task)
    → ReadsAsked row.asked (Some read) → TakesRead t serves n s row read pool now new task → Takes t serves n s row pool now new (Some task)
unfolding Takes ReadsAsked
takes_asked t serves n s row read pool now new task r h = by_asked row.asked r
  where
    by_asked : (asked : Option Asked) → ReadsAsked asked (Some read) → TakesAsked t serves n s row asked pool now new (Some task)
    by_asked None r = absurd (some_none read r)
      where
        some_none : (read : Result Stmt ℕ) → Some read ≡ None → ⊥
        some_none read e = cc
    by_asked (Some asked) r = (r.0, task, r.2, subst (λ (x : Result Stmt ℕ). TakesRead t serves n s row x pool now new task) (same read r.0 r.1) h, refl)
      where
        same : (x y : Result Stmt ℕ) → Some x ≡ Some y → x ≡ y
        same x y e = cc

pub takes_none : (t : Terms) (serves : Job → Work t) (n s : ℕ) (row : SessionRow) (pool now : PoolState) (new : Work t) → ReadsAsked row.asked None → now ≡ pool
    → Takes t serves n s row pool now new None
unfolding Takes ReadsAsked
takes_none t serves n s row pool now new r e = by_asked row.asked r
  where
    by_asked : (asked : Option Asked) → ReadsAsked asked None → TakesAsked t serves n s row asked pool now new None
    by_asked None r = (e, refl)
    by_asked (Some asked) r = absurd (none_some r.0 r.1)
      where
        none_some : (read : Result Stmt ℕ) → None ≡ Some read → ⊥
        none_some read e = cc
