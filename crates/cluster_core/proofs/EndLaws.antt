-- For the proofs: turns with a page that is let go, and with an append.
use Rattle.std.proofs.Common.{◌≡◌, ◌≢◌, ◌⊎◌, inl, inr, ℕ, Bool, true, false, is_some, Option, Some, None, IsSome, refl, sym, ap, subst, ◌∙◌}
use Rattle.std.specs.Option.{option_map}
use Rattle.page_image.specs.Image.{Image}
use Rattle.redo_record.specs.declared.plans.Plan.{Plan}
use Rattle.sql_database.specs.declared.replies.SqlReply.{SqlReply}
use Rattle.question_tree.specs.Questions.{tells, asks, stops, after}
use Rattle.fetch_steps.specs.declared.acts.Action.{Action}
use Rattle.fetch_steps.specs.declared.acts.Action.TheVariants as action
use Rattle.statement_work.specs.declared.acts.Act.TheVariants as act
use Rattle.statement_work.specs.declared.acts.Deed.{Deed}
use Rattle.statement_work.specs.declared.acts.Deed.TheVariants as deed
use Rattle.statement_work.specs.Terms.{Terms}
use Rattle.statement_work.specs.Works.{Fetches, FetchesFixed, FetchesSure, Releases, Runs, Stamps, Appends, Work, Made, Stamped, AskedFor, Found, Replied, Rested, Again}
use Rattle.statement_work.specs.Acting.{Does, anew}
use Rattle.page_pool.specs.declared.events.How.TheVariants as how
use Rattle.page_pool.specs.declared.events.PoolEvent.TheVariants.{Act}
use Rattle.page_pool.specs.declared.answers.PoolAnswer.{PoolAnswer}
use Rattle.page_pool.specs.declared.answers.Outcome.{Outcome}
use Rattle.page_pool.specs.declared.answers.Outcome.TheVariants.{Went, Installed, Kept, Met}
use Rattle.page_pool.specs.Events.{kept_by, meets, outcome_of}
use Rattle.page_pool.specs.Nodes as nodes
use Rattle.page_pool.specs.Nodes.{Job, Job.Rests, NodeState}
use Rattle.page_pool.specs.State.{IsBeside, MayAct, PoolState, Suits}
use Rattle.page_pool.specs.Steps.{JobGoes, Steps}
use Rattle.cluster_core.specs.Pools.{IsServing}
use Rattle.cluster_core.specs.Stages.{PlansRun, RunsAfter, RunsNow, Stands}
use Rattle.cluster_core.specs.Turns.{AppendTurn, IsGone, Lets, ReleaseTurn}
use Rattle.cluster_core.specs.declared.stages.Report.TheVariants as report
use Rattle.cluster_core.specs.declared.stages.Stage.TheVariants.{Appending, Releasing, Stamping}
use Rattle.cluster_core.specs.declared.stages.Turned.{Turned}
use Rattle.cluster_core.proofs.PoolLaws.{took}

pub beside_may : (n : ℕ) (a : Action) (s : PoolState) → IsServing n s → IsBeside s n a → Suits s (Act n a how.Made)
beside_may n a s v b = (v.there, λ able. inr b)

-- ---- pages

pub gone : (n p : ℕ) (s : PoolState) (o : Option Image) → o ≡ option_map (λ (h : nodes.Handed). h.image) ((s.node n).handed p) → is_some o ≡ false
    → Lets n p false s s
unfolding Lets
gone n p s o e b = inl (refl, none_there ((s.node n).handed p) o e b, refl)
  where
    none_there : (x : Option nodes.Handed) (o : Option Image) → o ≡ option_map (λ (h : nodes.Handed). h.image) x → is_some o ≡ false → x ≡ None
    none_there None o e b = refl
    none_there (Some h) o e b = absurd (clash (sym b ∙ ap is_some e))
      where
        clash : false ≡ true → ⊥
        clash e = cc

pub has_page : (n p : ℕ) (s : PoolState) (o : Option Image) → o ≡ option_map (λ (h : nodes.Handed). h.image) ((s.node n).handed p) → is_some o ≡ true
    → IsBeside s n (action.Release p)
has_page n p s o e b = some_there ((s.node n).handed p) o e b
  where
    some_there : (x : Option nodes.Handed) (o : Option Image) → o ≡ option_map (λ (h : nodes.Handed). h.image) x → is_some o ≡ true → IsSome x
    some_there None o e b = absurd (clash (sym b ∙ ap is_some e))
      where
        clash : true ≡ false → ⊥
        clash e = cc
    some_there (Some h) o e b = refl

pub let_go : (n p : ℕ) (answer : PoolAnswer) (s mid : PoolState) → Steps (Act n (action.Release p) how.Made) answer s mid → Lets n p (meets answer) s mid
unfolding Lets
let_go n p answer s mid h = inr (answer, h, refl)

-- a node that has nothing under way has nothing after an act beside
rests_on : (o : Option Outcome) (now : Job) → JobGoes o Rests now → now ≡ Rests
rests_on None now h = h
rests_on (Some Went) now h = h
rests_on (Some (Installed end)) now h = h
rests_on (Some (Kept tail)) now h = h
rests_on (Some (Met x)) now h = h

pub beside_rests : (n : ℕ) (a : Action) (answer : PoolAnswer) (s mid : PoolState) → Steps (Act n a how.Made) answer s mid → IsServing n s
    → (s.node n).job ≡ Rests → (mid.node n).job ≡ Rests
beside_rests n a answer s mid h v e =
    rests_on (outcome_of answer) (mid.node n).job (subst (λ (x : Job). JobGoes (outcome_of answer) x (mid.node n).job) e (took n a answer s mid v h).job)

pub lets_rests : (n p : ℕ) (met : Bool) (s mid : PoolState) → Lets n p met s mid → IsServing n s → (s.node n).job ≡ Rests → (mid.node n).job ≡ Rests
unfolding Lets
lets_rests n p met s mid h v e = elim h [
  | inl g ↦ ap (λ (x : PoolState). (x.node n).job) g.0 ∙ e
  | inr g ↦ beside_rests n (action.Release p) g.0 s mid g.1 v e
]

pub runs_beside : (t : Terms) (undoes : ℕ → Work t) (n : ℕ) (a : Action) (answer : PoolAnswer) (s mid : PoolState) (w : Work t)
    → Steps (Act n a how.Made) answer s mid → RunsAfter t undoes n s w → RunsNow t undoes n mid w
unfolding RunsAfter RunsNow
runs_beside t undoes n a answer s mid w h r = λ x asked given. r x asked mid (inr (a, answer, h)) given

pub runs_let : (t : Terms) (undoes : ℕ → Work t) (n p : ℕ) (met : Bool) (s mid : PoolState) (w : Work t)
    → Lets n p met s mid → RunsAfter t undoes n s w → RunsNow t undoes n mid w
unfolding RunsAfter RunsNow Lets
runs_let t undoes n p met s mid w h r = elim h [
  | inl g ↦ λ x asked given. r x asked mid (inl g.0) given
  | inr g ↦ λ x asked given. r x asked mid (inr (action.Release p, g.0, g.1)) given
]

pub ran_beside : (t : Terms) (undoes : ℕ → Work t) (n : ℕ) (s : PoolState) (w : Work t) → RunsNow t undoes n s w → AskedFor w Made
    → PlansRun t s (anew undoes (after w Made))
unfolding RunsNow
ran_beside t undoes n s w h a = h Made a tt

no_reply : (d : Deed) (r : SqlReply) → act.Do d ≡ act.Reply r → ⊥
no_reply d r e = cc

no_rest : (d : Deed) → act.Do d ≡ act.Rest → ⊥
no_rest d e = cc

pub release_asked : (t : Terms) (w : Work t) (node : NodeState) (p : ℕ) → Stands t w node (Releasing p) → AskedFor w Made
release_asked t (tells (Found a)) node p h = absurd (no_reply (deed.Release p) h.0.0 h.0.1)
release_asked t (tells (Replied r)) node p h = absurd (no_reply (deed.Release p) r h.0)
release_asked t (tells Rested) node p h = absurd (no_rest (deed.Release p) h.0)
release_asked t (tells (Again s)) node p h = absurd h.0
release_asked t (asks (Fetches calm q) k) node p h = absurd cc
release_asked t (asks (FetchesFixed calm q) k) node p h = absurd cc
release_asked t (asks (FetchesSure calm c) k) node p h = absurd cc
release_asked t (asks (Releases q) k) node p h = tt
release_asked t (asks (Runs calm a) k) node p h = tt
release_asked t (asks Stamps k) node p h = absurd cc
release_asked t (asks Appends k) node p h = tt
release_asked t stops node p h = absurd h.0

pub append_asked : (t : Terms) (w : Work t) (node : NodeState) → Stands t w node Appending → AskedFor w Made
append_asked t (tells (Found a)) node h = absurd (no_reply deed.Append h.0.0 h.0.1)
append_asked t (tells (Replied r)) node h = absurd (no_reply deed.Append r h.0)
append_asked t (tells Rested) node h = absurd (no_rest deed.Append h.0)
append_asked t (tells (Again s)) node h = absurd h.0
append_asked t (asks (Fetches calm q) k) node h = absurd cc
append_asked t (asks (FetchesFixed calm q) k) node h = absurd cc
append_asked t (asks (FetchesSure calm c) k) node h = absurd cc
append_asked t (asks (Releases q) k) node h = tt
append_asked t (asks (Runs calm a) k) node h = tt
append_asked t (asks Stamps k) node h = absurd cc
append_asked t (asks Appends k) node h = tt
append_asked t stops node h = absurd h.0

pub stamp_asked : (t : Terms) (w : Work t) (node : NodeState) (n : ℕ) → Stands t w node Stamping → AskedFor w (Stamped n)
stamp_asked t (tells (Found a)) node n h = absurd (no_reply deed.Stamp h.0.0 h.0.1)
stamp_asked t (tells (Replied r)) node n h = absurd (no_reply deed.Stamp r h.0)
stamp_asked t (tells Rested) node n h = absurd (no_rest deed.Stamp h.0)
stamp_asked t (tells (Again s)) node n h = absurd h.0
stamp_asked t (asks (Fetches calm q) k) node n h = absurd cc
stamp_asked t (asks (FetchesFixed calm q) k) node n h = absurd cc
stamp_asked t (asks (FetchesSure calm c) k) node n h = absurd cc
stamp_asked t (asks (Releases q) k) node n h = absurd cc
stamp_asked t (asks (Runs calm a) k) node n h = absurd (no_run h.0)
  where
    no_run : (plan : Plan) × (act.Do deed.Stamp ≡ act.Do (deed.Run plan)) × t.Serves a plan → ⊥
    no_run h = stamp_run h.0 h.1
      where
        stamp_run : (plan : Plan) → act.Do deed.Stamp ≡ act.Do (deed.Run plan) → ⊥
        stamp_run plan e = cc
stamp_asked t (asks Stamps k) node n h = tt
stamp_asked t (asks Appends k) node n h = absurd cc
stamp_asked t stops node n h = absurd h.0

pub release_stays : (t : Terms) (undoes : ℕ → Work t) (n p : ℕ) (w : Work t) (s mid : PoolState) → Lets n p true s mid
    → ReleaseTurn t undoes n p w s mid w (record { stage = Some (Releasing p); report = report.Went })
release_stays t undoes n p w s mid h = (true, mid, h, inl (refl, refl, (refl, refl)))

pub release_goes : (t : Terms) (undoes : ℕ → Work t) (n p : ℕ) (w new : Work t) (s mid now : PoolState) (turned : Turned) → Lets n p false s mid
    → IsGone t n (anew undoes (after w Made)) mid now new report.Went turned → ReleaseTurn t undoes n p w s now new turned
release_goes t undoes n p w new s mid now turned h g = (false, mid, h, inr (refl, g))

pub release_stands : (t : Terms) (w : Work t) (p : ℕ) (x y : NodeState) → Stands t w x (Releasing p) → y.job ≡ Rests → Stands t w y (Releasing p)
release_stands t w p x y h e = (h.0, e)

-- ---- appends

pub append_stays : (t : Terms) (undoes : ℕ → Work t) (n : ℕ) (answer : PoolAnswer) (w : Work t) (s mid : PoolState)
    → Steps (Act n action.Append how.Made) answer s mid → kept_by answer ≡ None
    → AppendTurn t undoes n w s mid w (record { stage = Some Appending; report = report.Went })
append_stays t undoes n answer w s mid h e = (answer, mid, h, inl (e, refl, (refl, refl)))

pub append_goes : (t : Terms) (undoes : ℕ → Work t) (n tail : ℕ) (answer : PoolAnswer) (w new : Work t) (s mid now : PoolState) (turned : Turned)
    → Steps (Act n action.Append how.Made) answer s mid → kept_by answer ≡ Some tail
    → IsGone t n (anew undoes (after w Made)) mid now new (report.Kept tail) turned → AppendTurn t undoes n w s now new turned
append_goes t undoes n tail answer w new s mid now turned h e g = (answer, mid, h, inr (tail, e, g))

pub append_stands : (t : Terms) (w : Work t) (x y : NodeState) → Stands t w x Appending → y.job ≡ Rests → Stands t w y Appending
append_stands t w x y h e = (h.0, e)
