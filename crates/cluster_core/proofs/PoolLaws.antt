-- For the proofs: what begins and acts come to at a node that serves.
use Rattle.std.proofs.Common.{◌≡◌, ◌≢◌, ◌<◌, ◌⊎◌, inl, inr, ℕ, Bool, true, false, ◌&&◌, Option, Some, None, IsSome, refl, sym, ap, subst, ◌∙◌, arith}
use Rattle.redo_record.specs.declared.plans.Plan.{Plan}
use Rattle.fetch_steps.specs.declared.acts.Action.{Action}
use Rattle.page_pool.specs.declared.events.How.TheVariants.{Made}
use Rattle.page_pool.specs.declared.events.PoolEvent.TheVariants.{Act}
use Rattle.page_pool.specs.declared.answers.Outcome.{Outcome}
use Rattle.page_pool.specs.declared.answers.PoolAnswer.{PoolAnswer}
use Rattle.page_pool.specs.declared.answers.PoolAnswer.TheVariants.{Refused}
use Rattle.page_pool.specs.Events.{outcome_of}
use Rattle.page_pool.specs.Nodes.{Job, Job.Rests, Job.Fetches, Job.Runs, Job.Quits, NodeState, is_able, is_busy}
use Rattle.page_pool.specs.State.{PoolState}
use Rattle.page_pool.specs.Calls.{IfFree, BeginsFetch, BeginsPlan, GivesUp}
use Rattle.page_pool.specs.Steps.{NodeSteps, Steps}
use Rattle.cluster_core.specs.Pools.{Acts, IsServing}
use Rattle.cluster_core.specs.Stages.{IsUnderWay}

true_false : true ≡ false → ⊥
true_false e = cc

-- what begins where nothing is under way has begun
begun : (job : Job) (b : Bool) (Begun Same : Type 0) → job ≡ Rests → IfFree job b Begun Same → Begun
begun job true B S e h = h.begins refl
begun job false B S e h = absurd (true_false (sym (h.refused.0 refl) ∙ ap is_busy e))

pub fetch_begins : (n p : ℕ) (job : Job) (b : Bool) (s t : PoolState) → job ≡ Rests
    → IfFree job b (BeginsFetch n p s t) (t ≡ s) → BeginsFetch n p s t
fetch_begins n p job b s t e h = begun job b (BeginsFetch n p s t) (t ≡ s) e h

pub plan_begins : (n : ℕ) (plan : Plan) (job : Job) (b : Bool) (s t : PoolState) → job ≡ Rests
    → IfFree job b (BeginsPlan n plan s t) (t ≡ s) → BeginsPlan n plan s t
plan_begins n plan job b s t e h = begun job b (BeginsPlan n plan s t) (t ≡ s) e h

pub not_busy : (job : Job) → is_busy job ≡ false → job ≡ Rests
not_busy Rests e = refl
not_busy (Fetches p) e = absurd (true_false e)
not_busy (Runs plan installed) e = absurd (true_false e)
not_busy Quits e = absurd (true_false e)

-- a node that does not wait has a next act while something is under way
pub acts_next : (n : ℕ) (s : PoolState) → IsServing n s → IsUnderWay (s.node n) → is_busy (s.node n).job ≡ true → IsSome (s.node n).next
acts_next n s v u b = v.node.works b (u b)

able_kept : (x y : NodeState) → x.up ≡ y.up → x.stopped ≡ y.stopped → is_able y ≡ true → is_able x ≡ true
able_kept x y u s h = grind arith

pub given_up_serves : (n : ℕ) (s now : PoolState) → IsServing n s → GivesUp n s now → IsServing n now
given_up_serves n s now v g = record {
  there = subst (λ k. n < k) (sym g.changes.nodes) v.there;
  able = able_kept (now.node n) (s.node n) g.changes.up g.changes.stopped v.able;
  node = g.changes.node;
  writes = g.changes.rw ∙ v.writes;
}

-- an act of a node that is able is not refused
not_refused : (n : ℕ) (a : Action) (answer : PoolAnswer) (s mid : PoolState) → IsServing n s → Steps (Act n a Made) answer s mid → answer ≢ Refused
not_refused n a answer s mid v h e = true_false (sym (able_admits (s.node n) v.able) ∙ h.refused.0 e)
  where
    able_admits : (x : NodeState) → is_able x ≡ true → is_able x && true ≡ true
    able_admits x e = grind arith

pub took : (n : ℕ) (a : Action) (answer : PoolAnswer) (s mid : PoolState) → IsServing n s → Steps (Act n a Made) answer s mid
    → NodeSteps (Act n a Made) (outcome_of answer) n s.log.made (s.node n) (mid.node n)
took n a answer s mid v h = h.node (not_refused n a answer s mid v h) n refl

pub step_serves : (n : ℕ) (a : Action) (answer : PoolAnswer) (s mid : PoolState) → IsServing n s → Steps (Act n a Made) answer s mid → IsServing n mid
step_serves n a answer s mid v h =
    let step = took n a answer s mid v h in record {
      there = subst (λ k. n < k) (sym h.nodes) v.there;
      able = able_kept (mid.node n) (s.node n) step.up step.stopped v.able;
      node = step.node;
      writes = h.rw ∙ v.writes;
    }

pub acted : (n : ℕ) (a : Action) (answer : PoolAnswer) (s mid : PoolState) → Steps (Act n a Made) answer s mid → (s.node n).next ≡ Some a
    → Acts n (outcome_of answer) s mid
unfolding Acts
acted n a answer s mid h e = (a, answer, e, refl, h)
