-- For the proofs: a turn with a task.
use Rattle.std.proofs.Common.{◌≡◌, ℕ, Option, Some, None, Result, Ok, Err, IfOk, refl, sym, ap, subst, ◌∙◌}
use Rattle.page_pool.specs.Nodes.{NodeState}
use Rattle.page_pool.specs.State.{PoolState}
use Rattle.statement_work.specs.Terms.{Terms}
use Rattle.statement_work.specs.Works.{Work}
use Rattle.cluster_core.specs.Ledgers.{Account}
use Rattle.cluster_core.specs.Desks.{IsNoted, TaskTurn, stage_of, task_for}
use Rattle.cluster_core.specs.Recording.{recorded}
use Rattle.cluster_core.specs.Stages.{StandsIf}
use Rattle.cluster_core.specs.Turns.{Turns}
use Rattle.cluster_core.specs.declared.desks.Task.{Task}
use Rattle.cluster_core.specs.declared.recording.Purpose.{Purpose}
use Rattle.rm_base.specs.declared.errors.WantOfMemory.{WantOfMemory}
use Rattle.cluster_core.specs.declared.stages.Report.{Report}
use Rattle.cluster_core.specs.declared.stages.Stage.{Stage}
use Rattle.cluster_core.specs.declared.stages.Turned.{Turned}

pub noted : (who : Purpose) (a b : Account) (stage : Option Stage) (report : Report) (left : Option Task) → b ≡ recorded who report a
    → left ≡ task_for who stage → IsNoted who (record { stage = stage; report = report }) a b left
noted who a b stage report left e f = (e, f)

pub turned_over : (t : Terms) (undoes : ℕ → Work t) (n : ℕ) (task : Task) (w new : Work t) (s now : PoolState) (a b : Account) (x : Turned)
    (r : Result (Option Task) WantOfMemory) → Turns t undoes n a.published task.stage w s now new x → IfOk r (λ left. IsNoted task.purpose x a b left)
    → IfOk r (λ left. TaskTurn t undoes n task w s a now new b left)
turned_over t undoes n task w new s now a b x (Ok left) h g = (x, h, g)
turned_over t undoes n task w new s now a b x (Err e) h g = tt

same_stage : (who : Purpose) (stage : Option Stage) → stage_of (task_for who stage) ≡ stage
same_stage who None = refl
same_stage who (Some stage) = refl

left_stands : (t : Terms) (w : Work t) (node : NodeState) (who : Purpose) (stage : Option Stage) (left : Option Task) → left ≡ task_for who stage
    → StandsIf t w node stage → StandsIf t w node (stage_of left)
left_stands t w node who stage left e h =
    subst (λ (x : Option Stage). StandsIf t w node x) (sym (ap stage_of e ∙ same_stage who stage)) h

pub left_stands_over : (t : Terms) (w : Work t) (node : NodeState) (who : Purpose) (x : Turned) (a b : Account) (r : Result (Option Task) WantOfMemory)
    → IfOk r (λ left. IsNoted who x a b left) → StandsIf t w node x.stage → IfOk r (λ left. StandsIf t w node (stage_of left))
left_stands_over t w node who x a b (Ok left) g h = left_stands t w node who x.stage left g.1 h
left_stands_over t w node who x a b (Err e) g h = tt
