-- For the proofs: what a worker that is told goes on to, and how what it wants then stands.
use Rattle.std.proofs.Common.{◌≡◌, ◌≢◌, ◌<◌, ◌⊎◌, inl, inr, ℕ, Bool, true, false, Option, Some, None, IsSome, refl, sym, ap, subst, ◌∙◌, arith}
use Rattle.std.specs.Option.{option_map}
use Rattle.page_image.specs.Image.{Image}
use Rattle.cluster_model.specs.declared.traces.Origin.{Origin}
use Rattle.redo_record.specs.declared.plans.Plan.{Plan}
use Rattle.question_tree.specs.Questions.{tells, asks, stops, wanted, after}
use Rattle.range_reader.specs.Finding.{page_of}
use Rattle.sql_database.specs.declared.replies.SqlReply.{SqlReply}
use Rattle.statement_work.specs.declared.acts.Obstacle.TheVariants as obstacle
use Rattle.statement_work.specs.declared.acts.Act.{Act}
use Rattle.statement_work.specs.declared.acts.Act.TheVariants as act
use Rattle.statement_work.specs.declared.acts.Deed.{Deed}
use Rattle.statement_work.specs.declared.acts.Deed.TheVariants as deed
use Rattle.statement_work.specs.Terms.{Terms}
use Rattle.statement_work.specs.Works as works
use Rattle.statement_work.specs.Works.{Wish, Fetches, FetchesFixed, FetchesSure, Releases, Runs, Stamps, Appends, Work, AskedFor, Found, Replied, Rested, Again, Told}
use Rattle.statement_work.specs.Acting.{Does, Grants, Tells, Goes, anew, is_calm, met, pool_full, waits}
use Rattle.statement_work.specs.Latches.{number_of}
use Rattle.page_pool.specs.Nodes as nodes
use Rattle.page_pool.specs.Nodes.{Job, Job.Rests, Job.Fetches, NodeState, is_able}
use Rattle.page_pool.specs.State.{PoolState}
use Rattle.page_pool.specs.Calls.{BeginsFetch, BeginsPlan, ChangesNode, HandsOut, IsRunnable}
use Rattle.cluster_core.specs.Pools.{IsServing}
use Rattle.cluster_core.specs.Stages.{AsksNow, IsFetched, PlansRun, RunsNow, Stands, StandsIf}
use Rattle.cluster_core.specs.Turns.{ActRuns, Begins, BeginsDeed, DeedRuns, GoesOn, Hands, IsGone}
use Rattle.cluster_core.specs.declared.stages.Report.{Report}
use Rattle.cluster_core.specs.declared.stages.Report.TheVariants as report
use Rattle.cluster_core.specs.declared.stages.Stage.{Stage}
use Rattle.cluster_core.specs.declared.stages.Turned.{Turned}

-- ---- plans

pub runs : (t : Terms) (s : PoolState) (w : Work t) (next : Act) → Does t w next → PlansRun t s w → ActRuns s next
unfolding PlansRun
runs t s w (act.Do (deed.Fetch q)) d h = tt
runs t s w (act.Do (deed.FetchFixed place)) d h = tt
runs t s w (act.Do (deed.FetchSure q)) d h = tt
runs t s w (act.Do (deed.Release page)) d h = tt
runs t s w (act.Do (deed.Run plan)) d h = h plan d
runs t s w (act.Do deed.Stamp) d h = tt
runs t s w (act.Do deed.Append) d h = tt
runs t s w (act.Reply r) d h = tt
runs t s w act.Rest d h = tt

not_reply : (r : SqlReply) (plan : Plan) → act.Do (deed.Run plan) ≡ act.Reply r → ⊥
not_reply r plan e = cc

waits_runs : (t : Terms) (s : PoolState) (w : Work t) (calm : Bool) (slots : ℕ) → PlansRun t s w → PlansRun t s (waits calm w slots)
unfolding PlansRun
waits_runs t s w true slots h = h
waits_runs t s w false slots h = λ plan d. absurd (not_reply _ plan d)

pub met_runs : (t : Terms) (s : PoolState) (w : Work t) (slots : ℕ) → PlansRun t s w → PlansRun t s (met w (obstacle.PoolFull slots))
met_runs t s (tells a) slots h = h
met_runs t s (asks q k) slots h = waits_runs t s (asks q k) (is_calm q) slots h
met_runs t s stops slots h = h

-- ---- what is begun

-- the node of a pool that is changed just there still serves
changed_serves : (n : ℕ) (s now : PoolState) → IsServing n s → ChangesNode n s now → IsServing n now
changed_serves n s now v c = record {
  there = subst (λ k. n < k) (sym c.nodes) v.there;
  able = able_kept (now.node n) (s.node n) c.up c.stopped v.able;
  node = c.node;
  writes = c.rw ∙ v.writes;
}
  where
    able_kept : (x y : NodeState) → x.up ≡ y.up → x.stopped ≡ y.stopped → is_able y ≡ true → is_able x ≡ true
    able_kept x y u s h = grind arith

same_serves : (n : ℕ) (s now : PoolState) → IsServing n s → now ≡ s → IsServing n now
same_serves n s now v e = subst (λ (x : PoolState). IsServing n x) (sym e) v

pub begun_serves : (n : ℕ) (next : Act) (s now : PoolState) (stage : Stage) → Begins n next s now stage → IsServing n s → IsServing n now
begun_serves n (act.Do (deed.Fetch q)) s now stage b v = changed_serves n s now v b.1.changes
begun_serves n (act.Do (deed.FetchFixed place)) s now stage b v = changed_serves n s now v b.1.changes
begun_serves n (act.Do (deed.FetchSure q)) s now stage b v = changed_serves n s now v b.1.changes
begun_serves n (act.Do (deed.Release page)) s now stage b v = same_serves n s now v b.1
begun_serves n (act.Do (deed.Run plan)) s now stage b v = changed_serves n s now v b.1.changes
begun_serves n (act.Do deed.Stamp) s now stage b v = same_serves n s now v b.1
begun_serves n (act.Do deed.Append) s now stage b v = same_serves n s now v b.1
begun_serves n (act.Reply r) s now stage b v = same_serves n s now v b.1
begun_serves n act.Rest s now stage b v = same_serves n s now v b.1

-- a fetch is under way, or has handed out
fetched : (n p : ℕ) (s now : PoolState) → BeginsFetch n p s now → IsFetched p (now.node n)
fetched n p s now b = elim b.job [ inl e ↦ inl e | inr e ↦ inr (e, some_handed (b.over e)) ]
  where
    some_handed : HandsOut s.log.made p ((now.node n).handed p) → IsSome ((now.node n).handed p)
    some_handed h = subst (λ (x : Option nodes.Handed). IsSome x) (sym h.1) refl

free_same : (n : ℕ) (s now : PoolState) → (s.node n).job ≡ Rests → now ≡ s → (now.node n).job ≡ Rests
free_same n s now e h = ap (λ (x : PoolState). (x.node n).job) h ∙ e

no_reply : (d : Deed) (r : SqlReply) → act.Do d ≡ act.Reply r → ⊥
no_reply d r e = cc

no_rest : (d : Deed) → act.Do d ≡ act.Rest → ⊥
no_rest d e = cc

-- an act that is wanted still is the one of the work
wants_deed : (t : Terms) (w new : Work t) (d : Deed) → Does t w (act.Do d) → Goes w new → Does t new (act.Do d)
wants_deed t (tells (Found a)) new d h g = absurd (no_reply d h.0 h.1)
wants_deed t (tells (Replied r)) new d h g = absurd (no_reply d r h)
wants_deed t (tells Rested) new d h g = absurd (no_rest d h)
wants_deed t (tells (Again s)) new d h g = absurd h
wants_deed t (asks q k) new d h g = subst (λ (x : Work t). Does t x (act.Do d)) (sym (g refl)) h
wants_deed t stops new d h g = absurd h

pub begun_stands : (t : Terms) (n : ℕ) (w new : Work t) (next : Act) (s now : PoolState) (stage : Stage) → Begins n next s now stage
    → Does t w next → Goes w new → (s.node n).job ≡ Rests → Stands t new (now.node n) stage
begun_stands t n w new (act.Do (deed.Fetch q)) s now stage b d g e =
    subst (λ (x : Stage). Stands t new (now.node n) x) (sym b.0) (wants_deed t w new _ d g, fetched n (page_of q) s now b.1)
begun_stands t n w new (act.Do (deed.FetchFixed place)) s now stage b d g e =
    subst (λ (x : Stage). Stands t new (now.node n) x) (sym b.0) (wants_deed t w new _ d g, fetched n (number_of place) s now b.1)
begun_stands t n w new (act.Do (deed.FetchSure q)) s now stage b d g e =
    subst (λ (x : Stage). Stands t new (now.node n) x) (sym b.0) (wants_deed t w new _ d g, fetched n (page_of q) s now b.1)
begun_stands t n w new (act.Do (deed.Release page)) s now stage b d g e =
    subst (λ (x : Stage). Stands t new (now.node n) x) (sym b.0) (wants_deed t w new _ d g, free_same n s now e b.1)
begun_stands t n w new (act.Do (deed.Run plan)) s now stage b d g e =
    subst (λ (x : Stage). Stands t new (now.node n) x) (sym b.0) (plan, wants_deed t w new _ d g, b.1.job)
begun_stands t n w new (act.Do deed.Stamp) s now stage b d g e =
    subst (λ (x : Stage). Stands t new (now.node n) x) (sym b.0) (wants_deed t w new _ d g, free_same n s now e b.1)
begun_stands t n w new (act.Do deed.Append) s now stage b d g e =
    subst (λ (x : Stage). Stands t new (now.node n) x) (sym b.0) (wants_deed t w new _ d g, free_same n s now e b.1)
begun_stands t n w new (act.Reply r) s now stage b d g e =
    subst (λ (x : Stage). Stands t new (now.node n) x) (sym b.0) (free_same n s now e b.1)
begun_stands t n w new act.Rest s now stage b d g e =
    subst (λ (x : Stage). Stands t new (now.node n) x) (sym b.0) (free_same n s now e b.1)

pub goes : (t : Terms) (n : ℕ) (w new : Work t) (next : Act) (s now : PoolState) (stage : Stage) (r : Report) → Does t w next → Goes w new
    → Begins n next s now stage → IsGone t n w s now new r (record { stage = Some stage; report = r })
goes t n w new next s now stage r d g b = (stage, (next, d, g, b), refl)

none_some : {A : Type 0} (x : A) → None ≡ Some x → ⊥
none_some x e = cc

-- an image that is handed out is that of what was handed out
image_there : (o : Option nodes.Handed) (im : Image) → option_map (λ (h : nodes.Handed). h.image) o ≡ Some im → (h : nodes.Handed) × (o ≡ Some h) × (h.image ≡ im)
image_there None im e = absurd (none_some im e)
image_there (Some h) im e = (h, refl, cc)

pub asked_there : (t : Terms) (n p : ℕ) (s : PoolState) (w : Work t) (im : Image)
    → Some im ≡ option_map (λ (h : nodes.Handed). h.image) ((s.node n).handed p) → AsksNow t n p s w → AskedFor w (works.Handed im)
unfolding AsksNow
asked_there t n p s w im e a =
    let there = image_there ((s.node n).handed p) im (sym e) in
    subst (λ (x : Image). AskedFor w (works.Handed x)) there.2 (a there.0 there.1)

pub run_there : (t : Terms) (undoes : ℕ → Work t) (n p : ℕ) (s : PoolState) (w : Work t) (im : Image)
    → Some im ≡ option_map (λ (h : nodes.Handed). h.image) ((s.node n).handed p) → AskedFor w (works.Handed im) → RunsNow t undoes n s w
    → PlansRun t s (anew undoes (after w (works.Handed im)))
unfolding RunsNow
run_there t undoes n p s w im e a h =
    let there = image_there ((s.node n).handed p) im (sym e) in
    h (works.Handed im) a (p, there.0, there.1, sym there.2)

some_same : {A : Type 0} (x y : A) → Some x ≡ Some y → x ≡ y
some_same x y e = cc

both_there : (o : Option nodes.Handed) (im : Image) (from : Origin) → Some im ≡ option_map (λ (h : nodes.Handed). h.image) o
    → Some from ≡ option_map (λ (h : nodes.Handed). h.origin) o → o ≡ Some (record { image = im; origin = from })
both_there None im from e f = absurd (none_some im (sym e))
both_there (Some h) im from e f =
    ap (λ (x : Image). Some (record { image = x; origin = h.origin })) (sym (some_same im h.image e))
    ∙ ap (λ (x : Origin). Some (record { image = im; origin = x })) (sym (some_same from h.origin f))

pub hands : (t : Terms) (undoes : ℕ → Work t) (n p : ℕ) (w new : Work t) (next : Act) (s now : PoolState) (stage : Stage) (im : Image) (from : Origin)
    → Some im ≡ option_map (λ (h : nodes.Handed). h.image) ((s.node n).handed p)
    → Some from ≡ option_map (λ (h : nodes.Handed). h.origin) ((s.node n).handed p)
    → Does t (anew undoes (after w (works.Handed im))) next
    → Goes (anew undoes (after w (works.Handed im))) new → Begins n next s now stage
    → Hands t undoes n p w s now new (record { stage = Some stage; report = report.Used p im.lsn from })
hands t undoes n p w new next s now stage im from e f d g b =
    (record { image = im; origin = from }, both_there ((s.node n).handed p) im from e f, (stage, (next, d, g, b), refl))
