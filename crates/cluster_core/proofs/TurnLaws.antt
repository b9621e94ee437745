-- For the proofs: turns, case by case.
use Rattle.std.proofs.Common.{◌≡◌, ◌≢◌, ◌⊎◌, inl, inr, ℕ, Bool, true, false, not, ◌&&◌, ◌||◌, is_some, Option, Some, None, IsSome, refl, sym, ap, subst, ◌∙◌}
use Rattle.redo_record.specs.declared.plans.Plan.{Plan}
use Rattle.question_tree.specs.Questions.{wanted, after}
use Rattle.range_reader.specs.Finding.{page_of}
use Rattle.statement_work.specs.Terms.{Terms}
use Rattle.statement_work.specs.Works.{Work, Input, AskedFor}
use Rattle.statement_work.specs.Acting.{anew, met}
use Rattle.statement_work.specs.declared.acts.Obstacle.TheVariants as obstacle
use Rattle.statement_work.specs.Latches.{number_of}
use Rattle.page_pool.specs.declared.answers.Outcome.{Outcome}
use Rattle.page_pool.specs.declared.answers.Outcome.TheVariants.{Went, Installed, Kept, Met}
use Rattle.page_pool.specs.Events.{outcome_of}
use Rattle.page_pool.specs.Nodes as nodes
use Rattle.page_pool.specs.Nodes.{Job, Job.Rests, Job.Fetches, NodeState, is_busy, is_installed}
use Rattle.page_pool.specs.State.{PoolState}
use Rattle.page_pool.specs.Calls.{GivesUp, HandsOut, IsRunnable}
use Rattle.page_pool.specs.Steps.{JobGoes}
use Rattle.cluster_core.specs.Pools.{Acts, IsServing, slots_in}
use Rattle.cluster_core.specs.Stages.{AsksNow, AsksOver, Becomes, HandsAsked, IsFetched, PlansRun, RunsAfter, RunsAgain, RunsNow, Stands, page_wanted}
use Rattle.cluster_core.specs.Turns.{FetchActs, FetchGoes, FetchTurn, Fills, FillsWith, Hands, IsGone, QuitTurn, Quits}
use Rattle.cluster_core.specs.declared.stages.Report.TheVariants as report
use Rattle.cluster_core.specs.declared.stages.Stage.{Stage}
use Rattle.cluster_core.specs.declared.stages.Stage.TheVariants.{Fetching, FetchingFixed, FetchingSure, Releasing, Running, Stamping, Appending, Quitting, Replying, Resting}
use Rattle.cluster_core.specs.declared.stages.Turned.{Turned}
use Rattle.cluster_core.proofs.PoolLaws.{took}

-- ---- what is given up

pub quits_later : (t : Terms) (n slots : ℕ) (w : Work t) (s : PoolState) → is_busy (s.node n).job ≡ true
    → Quits t n slots w s s w (record { stage = Some (Quitting slots); report = report.Went })
quits_later t n slots w s b = inl (b, refl, (refl, refl))

pub quits_now : (t : Terms) (n slots : ℕ) (w new : Work t) (s now : PoolState) (turned : Turned) → (s.node n).job ≡ Rests
    → IsGone t n (met w (obstacle.PoolFull slots)) s now new report.Went turned → Quits t n slots w s now new turned
quits_now t n slots w new s now turned e g = inr (e, g)

pub given_up_plans : (t : Terms) (n : ℕ) (w : Work t) (s mid : PoolState) → GivesUp n s mid → PlansRun t s w → PlansRun t mid w
unfolding PlansRun
given_up_plans t n w s mid g h = λ plan d. subst (λ x. IsRunnable x.made plan) (sym g.changes.log) (h plan d)

pub fills : (t : Terms) (n slots : ℕ) (w new : Work t) (s mid now : PoolState) (turned : Turned) → GivesUp n s mid
    → Quits t n slots w mid now new turned → FillsWith t n slots w s now new turned
fills t n slots w new s mid now turned g q = (mid, g, q)

pub again_now : (t : Terms) (n : ℕ) (s : PoolState) (w : Work t) → RunsAgain t n s w → PlansRun t s w
unfolding RunsAgain
again_now t n s w h = h s (inl refl)

pub again_then : (t : Terms) (n : ℕ) (o : Option Outcome) (s mid : PoolState) (w : Work t) → Acts n o s mid → RunsAgain t n s w → PlansRun t mid w
unfolding RunsAgain Acts
again_then t n o s mid w a h = h mid (inr (a.0, a.1, a.4))

pub quit_busy : (t : Terms) (n slots : ℕ) (o : Option Outcome) (w new : Work t) (s mid now : PoolState) (turned : Turned) → is_busy (s.node n).job ≡ true
    → Acts n o s mid → Quits t n slots w mid now new turned → QuitTurn t n slots w s now new turned
quit_busy t n slots o w new s mid now turned b a q = inl (b, (o, mid, a, q))

pub quit_free : (t : Terms) (n slots : ℕ) (w new : Work t) (s now : PoolState) (turned : Turned) → (s.node n).job ≡ Rests
    → Quits t n slots w s now new turned → QuitTurn t n slots w s now new turned
quit_free t n slots w new s now turned e q = inr (e, q)

-- ---- fetches

pub fetch_on : (t : Terms) (undoes : ℕ → Work t) (n p : ℕ) (stage : Stage) (w : Work t) (s : PoolState) → is_busy (s.node n).job ≡ true
    → FetchGoes t undoes n p stage w s s w (record { stage = Some stage; report = report.Went })
fetch_on t undoes n p stage w s b = inl (b, refl, (refl, refl))

pub fetch_over : (t : Terms) (undoes : ℕ → Work t) (n p : ℕ) (stage : Stage) (w new : Work t) (s now : PoolState) (turned : Turned)
    → (s.node n).job ≡ Rests → Hands t undoes n p w s now new turned → FetchGoes t undoes n p stage w s now new turned
fetch_over t undoes n p stage w new s now turned e h = inr (e, h)

-- what is over was handed out
pub is_handed : (p : ℕ) (node : NodeState) → node.job ≡ Rests → IsFetched p node → IsSome (node.handed p)
is_handed p node e h = elim h [ inl f ↦ absurd (not_both (sym e ∙ f)) | inr r ↦ r.1 ]
  where
    not_both : Rests ≡ Fetches p → ⊥
    not_both e = cc

pub fetch_acted : (t : Terms) (undoes : ℕ → Work t) (n p : ℕ) (stage : Stage) (o : Option Outcome) (w new : Work t) (s mid now : PoolState) (turned : Turned)
    → is_busy (s.node n).job ≡ true → Acts n o s mid → slots_in o ≡ None → FetchGoes t undoes n p stage w mid now new turned
    → FetchTurn t undoes n p stage w s now new turned
unfolding FetchTurn
fetch_acted t undoes n p stage o w new s mid now turned b a e g = inl (b, (o, mid, a, inr (e, g)))

pub fetch_filled : (t : Terms) (undoes : ℕ → Work t) (n p slots : ℕ) (stage : Stage) (o : Option Outcome) (w new : Work t) (s mid now : PoolState) (turned : Turned)
    → is_busy (s.node n).job ≡ true → Acts n o s mid → slots_in o ≡ Some slots → FillsWith t n slots w mid now new turned
    → FetchTurn t undoes n p stage w s now new turned
unfolding FetchTurn
fetch_filled t undoes n p slots stage o w new s mid now turned b a e f = inl (b, (o, mid, a, inl (slots, e, f)))

pub fetch_ended : (t : Terms) (undoes : ℕ → Work t) (n p : ℕ) (stage : Stage) (w new : Work t) (s now : PoolState) (turned : Turned)
    → (s.node n).job ≡ Rests → Hands t undoes n p w s now new turned → FetchTurn t undoes n p stage w s now new turned
unfolding FetchTurn
fetch_ended t undoes n p stage w new s now turned e h = inr (e, h)

-- a fetch that is under way goes on, or ends
fetch_job : (p : ℕ) (o : Option Outcome) (now : Job) → JobGoes o (Fetches p) now → (now ≡ Fetches p) ⊎ (now ≡ Rests)
fetch_job p None now h = h
fetch_job p (Some Went) now h = h
fetch_job p (Some (Installed end)) now h = h
fetch_job p (Some (Kept tail)) now h = h
fetch_job p (Some (Met x)) now h = h

busy_fetched : (p : ℕ) (node : NodeState) → is_busy node.job ≡ true → IsFetched p node → node.job ≡ Fetches p
busy_fetched p node b h = elim h [ inl e ↦ e | inr r ↦ absurd (no_rest (sym b ∙ ap is_busy r.0)) ]
  where
    no_rest : true ≡ false → ⊥
    no_rest e = cc

pub still_fetched : (n p : ℕ) (o : Option Outcome) (s mid : PoolState) → IsServing n s → is_busy (s.node n).job ≡ true → IsFetched p (s.node n)
    → Acts n o s mid → IsFetched p (mid.node n)
unfolding Acts
still_fetched n p o s mid v b f a =
    let step = took n a.0 a.1 s mid v a.4 in
    let job : (s.node n).job ≡ Fetches p = busy_fetched p (s.node n) b f in
    let goes : JobGoes (outcome_of a.1) (Fetches p) (mid.node n).job = subst (λ (x : Job). JobGoes (outcome_of a.1) x (mid.node n).job) job step.job in
    elim (fetch_job p (outcome_of a.1) (mid.node n).job goes) [
      | inl e ↦ inl e
      | inr e ↦ inr (e, handed (step.hands_out p job e))
    ]
  where
    handed : HandsOut s.log.made p ((mid.node n).handed p) → IsSome ((mid.node n).handed p)
    handed h = subst (λ (x : Option nodes.Handed). IsSome x) (sym h.1) refl

pub fetch_uninstalled : (p : ℕ) (node : NodeState) → IsFetched p node → is_installed node.job ≡ false
fetch_uninstalled p node h = elim h [ inl e ↦ ap is_installed e | inr r ↦ ap is_installed r.0 ]

some_same : (x y : ℕ) → Some x ≡ Some y → x ≡ y
some_same x y e = cc

-- such a stage stands as long as its page is fetched
same_page : (p : ℕ) (node : NodeState) (q : ℕ) → Some q ≡ Some p → IsFetched p node → IsFetched q node
same_page p node q e h = subst (λ (x : ℕ). IsFetched x node) (sym (some_same q p e)) h

none_some : (x : ℕ) → None ≡ Some x → ⊥
none_some x e = cc

pub still_stands : (t : Terms) (w : Work t) (p : ℕ) (x y : NodeState) (stage : Stage) → page_wanted stage ≡ Some p → IsFetched p y
    → Stands t w x stage → Stands t w y stage
still_stands t w p x y (Fetching q) e f h = (h.0, same_page p y (page_of q) e f)
still_stands t w p x y (FetchingFixed place) e f h = (h.0, same_page p y (number_of place) e f)
still_stands t w p x y (FetchingSure q) e f h = (h.0, same_page p y (page_of q) e f)
still_stands t w p x y (Releasing page) e f h = absurd (none_some p e)
still_stands t w p x y (Running installed) e f h = absurd (none_some p e)
still_stands t w p x y Stamping e f h = absurd (none_some p e)
still_stands t w p x y Appending e f h = absurd (none_some p e)
still_stands t w p x y (Quitting slots) e f h = absurd (none_some p e)
still_stands t w p x y (Replying r) e f h = absurd (none_some p e)
still_stands t w p x y Resting e f h = absurd (none_some p e)

-- what is asked for and run then, and here
pub runs_then : (t : Terms) (undoes : ℕ → Work t) (n : ℕ) (o : Option Outcome) (s mid : PoolState) (w : Work t) → Acts n o s mid
    → RunsAfter t undoes n s w → RunsNow t undoes n mid w
unfolding RunsAfter RunsNow Acts
runs_then t undoes n o s mid w a h = λ x asked given. h x asked mid (inr (a.0, a.1, a.4)) given

pub runs_here : (t : Terms) (undoes : ℕ → Work t) (n : ℕ) (s : PoolState) (w : Work t) → RunsAfter t undoes n s w → RunsNow t undoes n s w
unfolding RunsAfter RunsNow
runs_here t undoes n s w h = λ x asked given. h x asked s (inl refl) given

pub asks_then : (t : Terms) (n p : ℕ) (o : Option Outcome) (s mid : PoolState) (w : Work t) → Acts n o s mid → HandsAsked t n p s w → AsksOver t n p mid w
unfolding HandsAsked AsksOver AsksNow Acts
asks_then t n p o s mid w a h = λ e x there. h mid (inr (a.0, a.1, a.4)) e x there

pub asks_here : (t : Terms) (n p : ℕ) (s : PoolState) (w : Work t) → HandsAsked t n p s w → AsksOver t n p s w
unfolding HandsAsked AsksOver AsksNow
asks_here t n p s w h = λ e x there. h s (inl refl) e x there

pub asks_now : (t : Terms) (n p : ℕ) (s : PoolState) (w : Work t) → AsksOver t n p s w → (s.node n).job ≡ Rests → AsksNow t n p s w
unfolding AsksOver
asks_now t n p s w h e = h e
