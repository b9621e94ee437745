-- For the proofs: turns with a plan, case by case.
use Rattle.std.proofs.Common.{◌≡◌, ◌≢◌, ◌⊎◌, inl, inr, ℕ, Bool, true, false, ◌||◌, is_some, Option, Some, None, IsSome, refl, sym, ap, subst, ◌∙◌}
use Rattle.redo_record.specs.declared.plans.Plan.{Plan}
use Rattle.sql_database.specs.declared.replies.SqlReply.{SqlReply}
use Rattle.question_tree.specs.Questions.{tells, asks, stops, wanted, after}
use Rattle.statement_work.specs.declared.acts.Act.TheVariants as act
use Rattle.statement_work.specs.declared.acts.Deed.{Deed}
use Rattle.statement_work.specs.declared.acts.Deed.TheVariants as deed
use Rattle.statement_work.specs.Terms.{Terms}
use Rattle.statement_work.specs.Works.{Wish, Fetches, FetchesFixed, FetchesSure, Releases, Runs, Stamps, Appends, Work, Input, Made, Stamped, AskedFor, Found, Replied, Rested, Again}
use Rattle.statement_work.specs.Acting.{Does, anew}
use Rattle.page_pool.specs.declared.answers.Outcome.{Outcome}
use Rattle.page_pool.specs.declared.answers.Outcome.TheVariants.{Went, Installed, Kept, Met}
use Rattle.page_pool.specs.Events.{outcome_of}
use Rattle.page_pool.specs.Nodes as nodes
use Rattle.page_pool.specs.Nodes.{Job, Job.Rests, NodeState, is_busy, is_installed}
use Rattle.page_pool.specs.State.{PoolState}
use Rattle.page_pool.specs.Steps.{JobGoes}
use Rattle.cluster_core.specs.Pools.{Acts, IsServing, end_in, slots_in}
use Rattle.cluster_core.specs.Stages.{IsPlanned, PlansRun, RunsNow, Stands}
use Rattle.cluster_core.specs.Turns.{FillsWith, IsGone, PlanGoes, PlanTurn, filled, kind_of, now_installed, report_of}
use Rattle.cluster_core.specs.declared.stages.Report.{Report}
use Rattle.cluster_core.specs.declared.stages.Stage.TheVariants.{Running}
use Rattle.cluster_core.specs.declared.stages.Turned.{Turned}
use Rattle.cluster_core.proofs.PoolLaws.{took}

pub plan_on : (t : Terms) (undoes : ℕ → Work t) (n : ℕ) (installed : Bool) (r : Report) (w : Work t) (s : PoolState) → is_busy (s.node n).job ≡ true
    → PlanGoes t undoes n installed r w s s w (record { stage = Some (Running installed); report = r })
plan_on t undoes n installed r w s b = inl (b, refl, (refl, refl))

pub plan_over : (t : Terms) (undoes : ℕ → Work t) (n : ℕ) (installed : Bool) (r : Report) (w new : Work t) (s now : PoolState) (turned : Turned)
    → (s.node n).job ≡ Rests → IsGone t n (anew undoes (after w Made)) s now new r turned → PlanGoes t undoes n installed r w s now new turned
plan_over t undoes n installed r w new s now turned e g = inr (e, g)

busy_rests : (job : Job) → is_busy job ≡ true → job ≡ Rests → ⊥
busy_rests job b e = clash (sym b ∙ ap is_busy e)
  where
    clash : true ≡ false → ⊥
    clash e = cc

pub on_stands : (t : Terms) (w : Work t) (node : NodeState) (installed : Bool) → is_busy node.job ≡ true → IsPlanned t w node installed
    → Stands t w node (Running installed)
on_stands t w node installed b h = (h.0, h.1, elim h.2 [ inl e ↦ e | inr e ↦ absurd (busy_rests node.job b e) ])

pub ran : (t : Terms) (undoes : ℕ → Work t) (n : ℕ) (s : PoolState) (w : Work t) → RunsNow t undoes n s w → AskedFor w Made → PlansRun t s (anew undoes (after w Made))
unfolding RunsNow
ran t undoes n s w h a = h Made a tt

pub plan_busy : (t : Terms) (w : Work t) (node : NodeState) (installed : Bool) → Stands t w node (Running installed) → is_busy node.job ≡ true
plan_busy t w node installed h = ap is_busy h.2

-- who wants a deed that is made, is told so
no_reply : (d : Deed) (r : SqlReply) → act.Do d ≡ act.Reply r → ⊥
no_reply d r e = cc

no_rest : (d : Deed) → act.Do d ≡ act.Rest → ⊥
no_rest d e = cc

pub deed_wants : (t : Terms) (w : Work t) (d : Deed) → Does t w (act.Do d) → IsSome (wanted w)
deed_wants t (tells (Found a)) d h = absurd (no_reply d h.0 h.1)
deed_wants t (tells (Replied r)) d h = absurd (no_reply d r h)
deed_wants t (tells Rested) d h = absurd (no_rest d h)
deed_wants t (tells (Again s)) d h = absurd h
deed_wants t (asks q k) d h = refl
deed_wants t stops d h = absurd h

pub run_asked : (t : Terms) (w : Work t) (plan : Plan) → Does t w (act.Do (deed.Run plan)) → AskedFor w Made
run_asked t (tells (Found a)) plan h = absurd (no_reply (deed.Run plan) h.0 h.1)
run_asked t (tells (Replied r)) plan h = absurd (no_reply (deed.Run plan) r h)
run_asked t (tells Rested) plan h = absurd (no_rest (deed.Run plan) h)
run_asked t (tells (Again s)) plan h = absurd h
run_asked t (asks (Fetches calm q) k) plan h = absurd cc
run_asked t (asks (FetchesFixed calm p) k) plan h = absurd cc
run_asked t (asks (FetchesSure calm c) k) plan h = absurd cc
run_asked t (asks (Releases p) k) plan h = tt
run_asked t (asks (Runs calm a) k) plan h = tt
run_asked t (asks Stamps k) plan h = absurd cc
run_asked t (asks Appends k) plan h = tt
run_asked t stops plan h = absurd h

pub plan_asked : (t : Terms) (w : Work t) (node : NodeState) (installed : Bool) → Stands t w node (Running installed) → AskedFor w Made
plan_asked t w node installed h = run_asked t w h.0 h.1

pub plan_wants : (t : Terms) (w : Work t) (node : NodeState) (installed : Bool) → Stands t w node (Running installed) → IsSome (wanted w)
plan_wants t w node installed h = deed_wants t w (deed.Run h.0) h.1

-- ---- the job after an act

abbrev PlanJob : Plan → Bool → Job → Type 0
PlanJob plan installed now = (now ≡ nodes.Job.Runs plan installed) ⊎ (now ≡ Rests)

going : (plan : Plan) (o : Option Outcome) (now : Job) → JobGoes o (nodes.Job.Runs plan true) now → PlanJob plan true now
going plan None now h = h
going plan (Some Went) now h = h
going plan (Some (Installed end)) now h = h
going plan (Some (Kept tail)) now h = h
going plan (Some (Met x)) now h = h

starting : (plan : Plan) (o : Option Outcome) (now : Job) → JobGoes o (nodes.Job.Runs plan false) now → PlanJob plan (is_some (end_in o)) now
starting plan None now h = inl h
starting plan (Some Went) now h = inl h
starting plan (Some (Installed end)) now h = h
starting plan (Some (Kept tail)) now h = inl h
starting plan (Some (Met x)) now h = inl h

job_goes : (plan : Plan) (installed : Bool) (o : Option Outcome) (now : Job) → JobGoes o (nodes.Job.Runs plan installed) now
    → PlanJob plan (now_installed installed (end_in o)) now
job_goes plan true o now h = going plan o now h
job_goes plan false o now h = starting plan o now h

pub still_planned : (t : Terms) (n : ℕ) (w : Work t) (installed : Bool) (o : Option Outcome) (s mid : PoolState) → IsServing n s
    → Stands t w (s.node n) (Running installed) → Acts n o s mid → IsPlanned t w (mid.node n) (now_installed installed (end_in o))
unfolding Acts
still_planned t n w installed o s mid v h a =
    let step = took n a.0 a.1 s mid v a.4 in
    let goes : JobGoes (outcome_of a.1) (nodes.Job.Runs h.0 installed) (mid.node n).job = subst (λ (x : Job). JobGoes (outcome_of a.1) x (mid.node n).job) h.2 step.job in
    let same : JobGoes o (nodes.Job.Runs h.0 installed) (mid.node n).job = subst (λ (x : Option Outcome). JobGoes x (nodes.Job.Runs h.0 installed) (mid.node n).job) (sym a.3) goes in
    (h.0, h.1, job_goes h.0 installed o (mid.node n).job same)

-- where a full pool gives it up, nothing is installed
not_ended : (o : Option Outcome) (slots : ℕ) → slots_in o ≡ Some slots → end_in o ≡ None
not_ended None slots e = refl
not_ended (Some Went) slots e = refl
not_ended (Some (Installed end)) slots e = absurd cc
not_ended (Some (Kept tail)) slots e = refl
not_ended (Some (Met x)) slots e = refl

uninstalled : (plan : Plan) (job : Job) → PlanJob plan false job → is_installed job ≡ false
uninstalled plan job h = elim h [ inl e ↦ ap is_installed e | inr e ↦ ap is_installed e ]

pub plan_uninstalled : (t : Terms) (w : Work t) (node : NodeState) (installed : Bool) (o : Option Outcome) (slots : ℕ) → filled installed o ≡ Some slots
    → IsPlanned t w node (now_installed installed (end_in o)) → is_installed node.job ≡ false
plan_uninstalled t w node true o slots e h = absurd cc
plan_uninstalled t w node false o slots e h =
    uninstalled h.0 node.job (subst (λ (x : Option ℕ). PlanJob h.0 (is_some x) node.job) (not_ended o slots e) h.2)

pub plan_filled : (t : Terms) (undoes : ℕ → Work t) (n slots : ℕ) (installed : Bool) (o : Option Outcome) (w new : Work t) (s mid now : PoolState) (turned : Turned)
    → Acts n o s mid → filled installed o ≡ Some slots → FillsWith t n slots w mid now new turned → PlanTurn t undoes n installed w s now new turned
plan_filled t undoes n slots installed o w new s mid now turned a e f = (o, mid, a, inl (slots, e, f))

pub plan_acted : (t : Terms) (undoes : ℕ → Work t) (n : ℕ) (installed : Bool) (o : Option Outcome) (w new : Work t) (s mid now : PoolState) (turned : Turned)
    → Acts n o s mid → filled installed o ≡ None
    → PlanGoes t undoes n (now_installed installed (end_in o)) (report_of (kind_of (s.node n).job) (end_in o)) w mid now new turned
    → PlanTurn t undoes n installed w s now new turned
plan_acted t undoes n installed o w new s mid now turned a e g = (o, mid, a, inr (e, g))

pub planned_by : (t : Terms) (w : Work t) (node : NodeState) (installed b : Bool) (o : Option Outcome) (end : Option ℕ) → b ≡ now_installed installed end
    → end ≡ end_in o → IsPlanned t w node (now_installed installed (end_in o)) → IsPlanned t w node b
planned_by t w node installed b o end e f h =
    subst (λ (x : Bool). IsPlanned t w node x) (sym (e ∙ ap (λ (x : Option ℕ). now_installed installed x) f)) h
