-- For the proofs: the one node of a plain pool, as callers know it.
use Rattle.std.proofs.Common.{◌≡◌, ◌≢◌, ℕ, ◌<◌, Bool, true, false, Option, Some, None, IsSome, List, [], nat_eq, if◌then◌else◌, ◌⊎◌, inl, inr, refl, sym, ◌∙◌, ap, subst, arith, lit<, Bor}
use Rattle.std.specs.Option.{option_map, option_copied, MatchOption}
use Rattle.page_image.specs.Image.{Image, unmade}
use Rattle.redo_record.specs.declared.plans.Plan.{Plan}
use Rattle.redo_record.specs.declared.redo.Group.{Group}
use Rattle.cluster_model.specs.declared.traces.Origin.{Origin}
use Rattle.cluster_model.specs.declared.traces.Origin.TheVariants.{Local}
use Rattle.cluster_model.specs.declared.shape.Shape.{Shape}
use Rattle.fetch_steps.specs.declared.acts.Action.{Action}
use Rattle.fetch_steps.specs.declared.acts.Action.TheVariants as action
use Rattle.page_store.specs.Stored.{Stored, groups_of, pages_of}
use Rattle.page_pool.specs.Nodes.{Job, Job.Rests, Job.Fetches, Job.Runs, is_busy, plan_of, is_installed, Handed, NodeState, is_able, resting, IsNode}
use Rattle.page_pool.specs.declared.events.How.{How}
use Rattle.page_pool.specs.declared.events.PoolEvent.{PoolEvent}
use Rattle.page_pool.specs.declared.events.PoolEvent.TheVariants.{Act, Deliver, Home, Ship, Fold, Evict}
use Rattle.page_pool.specs.Events.{can_end}
use Rattle.page_pool.specs.State.{PoolState, Begins, current, admits, IsBeside, MayAct, Suits}
use Rattle.page_pool.specs.Calls.{IsRunnable, MayGo, HandsOut, ChangesNode, IfFree, BeginsFetch, BeginsPlan, GivesUp}
use Rattle.plain_pool.specs.declared.work.Work.{Work}
use Rattle.plain_pool.specs.declared.work.Work.TheVariants.{Rest, Fetch, Run}
use Rattle.plain_pool.specs.Plain.{Plain, begun, fetching, running, resting as at_rest}
use Rattle.plain_pool.specs.Seen.{job_of, next_of, acts_of, page_handed, handed_at, node_of, log_of, state_of}

pub only_zero : (s : Plain) (n : ℕ) → n < (state_of s).nodes → n ≡ 0
unfolding state_of
only_zero s n lt = let below : n < 1 = lt in omega arith

pub node_is : (s : Plain) (n : ℕ) → n < (state_of s).nodes → (state_of s).node n ≡ node_of s
unfolding state_of
node_is s n lt = subst (λ (k : ℕ). (state_of s).node k ≡ node_of s) (sym (only_zero s n lt)) refl

pub next_seen : (s : Plain) (n : ℕ) → n < (state_of s).nodes → ((state_of s).node n).next ≡ next_of s.work
next_seen s n lt = ap (λ (x : NodeState). x.next) (node_is s n lt)

pub waits_seen : (s : Plain) (n : ℕ) → n < (state_of s).nodes → ((state_of s).node n).waits ≡ false
waits_seen s n lt = ap (λ (x : NodeState). x.waits) (node_is s n lt)

pub busy_seen : (s : Plain) (n : ℕ) → n < (state_of s).nodes → is_busy ((state_of s).node n).job ≡ is_busy (job_of s.work)
busy_seen s n lt = ap (λ (x : NodeState). is_busy x.job) (node_is s n lt)

pub plan_seen : (s : Plain) (n : ℕ) → n < (state_of s).nodes → plan_of ((state_of s).node n).job ≡ plan_of (job_of s.work)
plan_seen s n lt = ap (λ (x : NodeState). plan_of x.job) (node_is s n lt)

pub handed_seen : (s : Plain) (n p : ℕ) → n < (state_of s).nodes → ((state_of s).node n).handed p ≡ handed_at (groups_of s.store) s.handed p
handed_seen s n p lt = ap (λ (x : NodeState). x.handed p) (node_is s n lt)

pub log_seen : (s : Plain) → (state_of s).log.made ≡ groups_of s.store
unfolding state_of
log_seen s = refl

-- ---- what was handed out
pub is-itself : (p : ℕ) → nat_eq p p ≡ true
is-itself p = grind arith

pub handed_page : (made : List Group) (p : ℕ) → handed_at made (Some p) p ≡ Some (record { image = current made p; origin = Local })
handed_page made p = ap (λ (b : Bool). if b then page_handed made p else None) (is-itself p)

pub handed_not : (made : List Group) (h : Option ℕ) (p : ℕ) → h ≢ Some p → handed_at made h p ≡ None
handed_not made None p ne = refl
handed_not made (Some q) p ne = other (nat_eq p q) refl
  where
    same-number : (p q : ℕ) → nat_eq p q ≡ true → q ≡ p
    same-number p q e = grind arith

    other : (b : Bool) → nat_eq p q ≡ b → (if b then page_handed made q else None) ≡ None
    other true e = absurd (ne (ap (λ (k : ℕ). Some k) (same-number p q e)))
    other false e = refl

-- ---- a node with work has a next act
pub works : (w : Work) → is_busy (job_of w) ≡ true → IsSome (next_of w)
works Rest e = absurd (no-work e)
  where
    no-work : false ≡ true → ⊥
    no-work e = cc
works (Fetch page) e = refl
works (Run plan) e = refl

pub is-node : (s : Plain) → IsNode (node_of s)
is-node s = record { works = λ e w. works s.work e; waiting = λ e. absurd (not-waiting e) }
  where
    not-waiting : false ≡ true → ⊥
    not-waiting e = cc

-- ---- the beginning
begins-begun : (shape : Shape) → shape.nodes ≡ 1 → Begins shape (state_of begun)
unfolding state_of
begins-begun shape e = record {
  nodes = sym e;
  rw = refl;
  log = refl;
  rests = λ n lt. first n (subst (λ (k : ℕ). n < k) e lt);
}
  where
    first : (n : ℕ) → n < 1 → (if nat_eq n 0 then node_of begun else resting) ≡ resting
    first n lt = let z : n ≡ 0 = omega arith in subst (λ (k : ℕ). (if nat_eq k 0 then node_of begun else resting) ≡ resting) (sym z) refl

pub begins : (shape : Shape) (s : Plain) → shape.nodes ≡ 1 → s ≡ begun → Begins shape (state_of s)
begins shape s e is = subst (λ (x : Plain). Begins shape (state_of x)) (sym is) (begins-begun shape e)

-- ---- calls that change what is under way
pub others-same : (s t : Plain) (m : ℕ) → m ≢ 0 → (state_of t).node m ≡ (state_of s).node m
unfolding state_of
others-same s t m ne = by-test (nat_eq m 0) refl
  where
    zero-number : (m : ℕ) → nat_eq m 0 ≡ true → m ≡ 0
    zero-number m e = grind arith

    by-test : (b : Bool) → nat_eq m 0 ≡ b → (if b then node_of t else resting) ≡ (if b then node_of s else resting)
    by-test true e = absurd (ne (zero-number m e))
    by-test false e = refl

abbrev with-work : Plain → Work → Plain
with-work s w = record s { work = w; handed = None }

changes : (s : Plain) (w : Work) → ChangesNode 0 (state_of s) (state_of (with-work s w))
unfolding state_of
changes s w = record {
  nodes = refl;
  rw = refl;
  log = refl;
  up = refl;
  stopped = refl;
  others = λ m ne. others-same s (with-work s w) m ne;
  node = is-node (with-work s w);
}

free : (job : Job) (Begun Same : Type 0) → is_busy job ≡ false → Begun → IfFree job true Begun Same
free job Begun Same e b = record {
  refused = (λ q. absurd (true-false q), λ q. absurd (true-false (sym q ∙ e)));
  begins = λ q. b;
  same = λ q. absurd (true-false q);
}
  where
    true-false : true ≡ false → ⊥
    true-false e = cc

taken : (job : Job) (Begun Same : Type 0) → is_busy job ≡ true → Same → IfFree job false Begun Same
taken job Begun Same e b = record {
  refused = (λ q. e, λ q. refl);
  begins = λ q. absurd (false-true q);
  same = λ q. b;
}
  where
    false-true : false ≡ true → ⊥
    false-true e = cc

fetch-begins : (s : Plain) (p : ℕ) → BeginsFetch 0 p (state_of s) (state_of (fetching s p))
unfolding state_of
fetch-begins s p = record {
  changes = changes s (Fetch p);
  job = inl refl;
  over = λ e. absurd (not-rest e);
  page = λ e. inr refl;
  pages = λ q ne. inr refl;
}
  where
    not-rest : Fetches p ≡ Rests → ⊥
    not-rest e = cc

plan-begins : (s : Plain) (plan : Plan) → BeginsPlan 0 plan (state_of s) (state_of (running s plan))
unfolding state_of
plan-begins s plan = record { changes = changes s (Run plan); job = refl; pages = λ q. inr refl }

ends : (s : Plain) → GivesUp 0 (state_of s) (state_of (at_rest s))
unfolding state_of
ends s = record { changes = changes s Rest; job = inr refl; pages = λ q. refl }

pub fetch_free : (s t : Plain) (n p : ℕ) → n < (state_of s).nodes → is_busy (job_of s.work) ≡ false → t ≡ fetching s p
    → IfFree ((state_of s).node n).job true (BeginsFetch n p (state_of s) (state_of t)) (state_of t ≡ state_of s)
fetch_free s t n p lt e is =
    free ((state_of s).node n).job (BeginsFetch n p (state_of s) (state_of t)) (state_of t ≡ state_of s) (busy_seen s n lt ∙ e)
    (subst (λ (x : Plain). BeginsFetch n p (state_of s) (state_of x)) (sym is)
    (subst (λ (k : ℕ). BeginsFetch k p (state_of s) (state_of (fetching s p))) (sym (only_zero s n lt)) (fetch-begins s p)))

pub fetch_taken : (s : Plain) (n p : ℕ) → n < (state_of s).nodes → is_busy (job_of s.work) ≡ true
    → IfFree ((state_of s).node n).job false (BeginsFetch n p (state_of s) (state_of s)) (state_of s ≡ state_of s)
fetch_taken s n p lt e =
    taken ((state_of s).node n).job (BeginsFetch n p (state_of s) (state_of s)) (state_of s ≡ state_of s) (busy_seen s n lt ∙ e) refl

pub run_free : (s t : Plain) (n : ℕ) (plan : Plan) → n < (state_of s).nodes → is_busy (job_of s.work) ≡ false → t ≡ running s plan
    → IfFree ((state_of s).node n).job true (BeginsPlan n plan (state_of s) (state_of t)) (state_of t ≡ state_of s)
run_free s t n plan lt e is =
    free ((state_of s).node n).job (BeginsPlan n plan (state_of s) (state_of t)) (state_of t ≡ state_of s) (busy_seen s n lt ∙ e)
    (subst (λ (x : Plain). BeginsPlan n plan (state_of s) (state_of x)) (sym is)
    (subst (λ (k : ℕ). BeginsPlan k plan (state_of s) (state_of (running s plan))) (sym (only_zero s n lt)) (plan-begins s plan)))

pub run_taken : (s : Plain) (n : ℕ) (plan : Plan) → n < (state_of s).nodes → is_busy (job_of s.work) ≡ true
    → IfFree ((state_of s).node n).job false (BeginsPlan n plan (state_of s) (state_of s)) (state_of s ≡ state_of s)
run_taken s n plan lt e =
    taken ((state_of s).node n).job (BeginsPlan n plan (state_of s) (state_of s)) (state_of s ≡ state_of s) (busy_seen s n lt ∙ e) refl

pub runnable : (s : Plain) (plan : Plan) → IsRunnable (state_of s).log.made plan → IsRunnable (groups_of s.store) plan
runnable s plan h = subst (λ (x : List Group). IsRunnable x plan) (log_seen s) h

pub gives_up : (s t : Plain) (n : ℕ) → n < (state_of s).nodes → t ≡ at_rest s → GivesUp n (state_of s) (state_of t)
gives_up s t n lt is =
    subst (λ (x : Plain). GivesUp n (state_of s) (state_of x)) (sym is)
    (subst (λ (k : ℕ). GivesUp k (state_of s) (state_of (at_rest s))) (sym (only_zero s n lt)) (ends s))

-- ---- the page that was handed out
handed-now : (s : Plain) (n p : ℕ) → n < (state_of s).nodes → s.handed ≡ Some p
    → ((state_of s).node n).handed p ≡ Some (record { image = current (groups_of s.store) p; origin = Local })
handed-now s n p lt e =
    handed_seen s n p lt ∙ ap (λ (x : Option ℕ). handed_at (groups_of s.store) x p) e ∙ handed_page (groups_of s.store) p

not-handed : (s : Plain) (n p : ℕ) → n < (state_of s).nodes → s.handed ≢ Some p → ((state_of s).node n).handed p ≡ None
not-handed s n p lt ne = handed_seen s n p lt ∙ handed_not (groups_of s.store) s.handed p ne

pub image_seen : (s : Plain) (n p : ℕ) (r : Option Image) → n < (state_of s).nodes → s.handed ≡ Some p → r ≡ Some (pages_of s.store p)
    → r ≡ option_map (λ (x : Handed). x.image) (((state_of s).node n).handed p)
image_seen s n p r lt e is = is ∙ ap (λ (x : Option Handed). option_map (λ (y : Handed). y.image) x) (sym (handed-now s n p lt e))

pub no_image : (s : Plain) (n p : ℕ) → n < (state_of s).nodes → s.handed ≢ Some p
    → None ≡ option_map (λ (x : Handed). x.image) (((state_of s).node n).handed p)
no_image s n p lt ne = ap (λ (x : Option Handed). option_map (λ (y : Handed). y.image) x) (sym (not-handed s n p lt ne))

pub origin_seen : (s : Plain) (n p : ℕ) → n < (state_of s).nodes → s.handed ≡ Some p
    → Some Local ≡ option_map (λ (x : Handed). x.origin) (((state_of s).node n).handed p)
origin_seen s n p lt e = ap (λ (x : Option Handed). option_map (λ (y : Handed). y.origin) x) (sym (handed-now s n p lt e))

pub no_origin : (s : Plain) (n p : ℕ) → n < (state_of s).nodes → s.handed ≢ Some p
    → None ≡ option_map (λ (x : Handed). x.origin) (((state_of s).node n).handed p)
no_origin s n p lt ne = ap (λ (x : Option Handed). option_map (λ (y : Handed). y.origin) x) (sym (not-handed s n p lt ne))

-- the answer of the store for a page that is made
pub made_page : (r : Option (Bor Image)) (p : ℕ) (im : Image) → MatchOption r (im ≡ unmade p) (λ page. page.now ≡ im) → im ≢ unmade p → option_copied r ≡ Some im
made_page None p im h ne = absurd (ne h)
made_page (Some page) p im h ne = ap (λ (x : Image). Some x) h

-- ---- events
pub not_act : (s : Plain) (event : PoolEvent) → ((n : ℕ) (a : Action) (h : How) → event ≡ Act n a h → ⊥) → admits (state_of s) event ≡ false
unfolding state_of
not_act s (Act n a h) ne = absurd (ne n a h refl)
not_act s (Deliver k) ne = refl
not_act s Home ne = refl
not_act s (Ship c) ne = refl
not_act s (Fold p) ne = refl
not_act s (Evict n p) ne = refl

pub suited : (s : Plain) (event : PoolEvent) (n : ℕ) (a : Action) (h : How) → event ≡ Act n a h → Suits (state_of s) event → (n ≡ 0) × MayAct (state_of s) 0 a
unfolding state_of
suited s event n a h e k =
    let suits : Suits (state_of s) (Act n a h) = subst (λ (x : PoolEvent). Suits (state_of s) x) e k in
    let zero : n ≡ 0 = only_zero s n suits.0 in
    (zero, subst (λ (m : ℕ). is_able ((state_of s).node m) ≡ true → MayAct (state_of s) m a) zero suits.1 refl)

pub admits_act : (s : Plain) (event : PoolEvent) (n : ℕ) (a : Action) (h : How) → event ≡ Act n a h → Suits (state_of s) event → admits (state_of s) event ≡ can_end a h
unfolding state_of
admits_act s event n a h e k =
    let zero : n ≡ 0 = (suited s event n a h e k).0 in
    ap (λ (x : PoolEvent). admits (state_of s) x) (e ∙ ap (λ (m : ℕ). Act m a h) zero)

-- ---- what may be appended
pub appends : (s : Plain) (n : ℕ) → n < (state_of s).nodes → s.store.own ≢ [] → IsBeside (state_of s) n action.Append
unfolding state_of
appends s n lt ne =
    subst (λ (k : ℕ). IsBeside (state_of s) k action.Append) (sym (only_zero s n lt)) (refl, refl, refl, ne)

pub appended : (s : Plain) (n : ℕ) → IsBeside (state_of s) n action.Append → s.store.own ≢ []
unfolding state_of
appended s n h = h.3

-- ---- what is always so of the one node
pub zero_there : (s : Plain) (n : ℕ) → n ≡ 0 → n < (state_of s).nodes
unfolding state_of
zero_there s n e = subst (λ (k : ℕ). k < 1) (sym e) (lit< tt)

pub zero_able : (s : Plain) (n : ℕ) → n ≡ 0 → is_able ((state_of s).node n) ≡ true
unfolding state_of
zero_able s n e = subst (λ (k : ℕ). is_able ((state_of s).node k) ≡ true) (sym e) refl

pub zero_writes : (s : Plain) (n : ℕ) → n ≡ 0 → (state_of s).rw ≡ Some n
unfolding state_of
zero_writes s n e = ap (λ (k : ℕ). Some k) (sym e)

never-installed : (w : Work) → is_installed (job_of w) ≡ false
never-installed Rest = refl
never-installed (Fetch page) = refl
never-installed (Run plan) = refl

pub zero_uninstalled : (s : Plain) (n : ℕ) → n ≡ 0 → is_installed ((state_of s).node n).job ≡ false
unfolding state_of
zero_uninstalled s n e = subst (λ (k : ℕ). is_installed ((state_of s).node k).job ≡ false) (sym e) (never-installed s.work)

pub suits_next : (s : Plain) (n : ℕ) (a : Action) (h : How) → n ≡ 0 → Some a ≡ ((state_of s).node n).next → Suits (state_of s) (Act n a h)
suits_next s n a h z e = (zero_there s n z, λ able. inl (sym e))

pub suits_append : (s : Plain) (n : ℕ) (h : How) → n ≡ 0 → IsBeside (state_of s) n action.Append → Suits (state_of s) (Act n action.Append h)
suits_append s n h z b = (zero_there s n z, λ able. inr b)
