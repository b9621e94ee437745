-- The steps of each takeover come in order.
use Rattle.std.proofs.Common.{◌≡◌, ◌≤◌, ℕ, Bool, true, false, List, [], ◌∷◌, Option, Some, None, if◌then◌else◌, nat_eq, refl, sym, ap, subst, arith}
use Rattle.cluster_manager.specs.declared.steps.Step.{Step}
use Rattle.cluster_manager.specs.declared.steps.Step.TheVariants.{Fence, Tail, Ship, Sweep, Rejoin, Work, Opened}
use Rattle.cluster_manager.specs.declared.steps.Stage.{Stage}
use Rattle.cluster_manager.specs.declared.steps.Stage.TheVariants.{Fenced, Tailed, Shipped, Rejoining, Worked}
use Rattle.cluster_manager.specs.declared.steps.Takeover.{Takeover}
use Rattle.cluster_manager.specs.Steps.{IsStepOf, stage_after, without}
use Rattle.cluster_manager.specs.Takeover.{ManagerState, first_manager, MayTake, IsDue, Comes, Follows, after, takeover_without}
use Rattle.cluster_manager.specs.Order.{Event, Event.did, Event.downed, Event.renewed, one_more, Does, Run, FallsFrom, IsRejoined, IsInOrder}

-- the steps that led to a stage
abbrev IsSoFar : Stage → List Step → Type 0
IsSoFar Fenced steps = steps ≡ Fence ∷ []
IsSoFar Tailed steps = steps ≡ Tail ∷ Fence ∷ []
IsSoFar Shipped steps = steps ≡ Ship ∷ Tail ∷ Fence ∷ []
IsSoFar (Rejoining from) steps = IsRejoined from steps
IsSoFar Worked steps = IsInOrder steps

abbrev Holds : Option Takeover → List Step → Type 0
Holds None steps = Unit {0}
Holds (Some t) steps = IsSoFar t.stage steps

step_on : (t : Takeover) (n : ℕ) (step : Step) (steps : List Step) → IsSoFar t.stage steps → Comes t.stage step → Holds (stage_after n step) (one_more step steps)
step_on t n Fence steps so comes = absurd comes
step_on t n Tail steps so comes = ap (λ (ss : List Step). Tail ∷ ss) (subst (λ (g : Stage). IsSoFar g steps) comes so)
step_on t n Ship steps so comes = ap (λ (ss : List Step). Ship ∷ ss) (subst (λ (g : Stage). IsSoFar g steps) comes so)
step_on t n Sweep steps so comes = ([], tt, ap (λ (ss : List Step). Sweep ∷ ss) (subst (λ (g : Stage). IsSoFar g steps) comes so))
step_on t n (Rejoin m) steps so comes =
    let old : IsRejoined comes.0 steps = subst (λ (g : Stage). IsSoFar g steps) comes.1 so in
    (m ∷ old.0, (omega arith, lower old.0 comes.0 m comes.2 old.1), ap (λ (ss : List Step). Rejoin m ∷ ss) old.2)
  where
    lower : (nodes : List ℕ) (from m : ℕ) → from ≤ m → FallsFrom from nodes → FallsFrom m nodes
    lower [] from m h falls = tt
    lower (k ∷ nodes) from m h falls = (let less = falls.0 in omega (arith, less, h), falls.1)
step_on t n Work steps so comes =
    let old : IsRejoined comes.0 steps = subst (λ (g : Stage). IsSoFar g steps) comes.1 so in
    (comes.0, steps, refl, old)
step_on t n Opened steps so comes = tt

begin_on : (n : ℕ) (step : Step) (steps : List Step) → step ≡ Fence → Holds (stage_after n step) (one_more step steps)
begin_on n step steps is = subst (λ (s : Step). Holds (stage_after n s) (one_more s steps)) (sym is) refl

does_on : (o : Option Takeover) (n : ℕ) (step : Step) (steps : List Step) → Holds o steps → Follows o n step → Holds (stage_after n step) (one_more step steps)
does_on None n step steps so follows = begin_on n step steps follows
does_on (Some t) n step steps so follows = step_on t n step steps so follows.1

crash_on : (o : Option Takeover) (n : ℕ) (steps : List Step) → Holds o steps → Holds (takeover_without o n) steps
crash_on None n steps so = tt
crash_on (Some t) n steps so = by (nat_eq t.node n)
  where
    by : (b : Bool) → Holds (if b then None else Some t) steps
    by true = tt
    by false = so

-- while a takeover is under way no node has the writes
abbrev Alone : ManagerState → Type 0
Alone M = (t : Takeover) → M.takeover ≡ Some t → M.writer ≡ None

-- what each event keeps
abbrev Good : ManagerState → List Step → Type 0
Good M steps = Holds M.takeover steps × Alone M

alone_after : (n : ℕ) (step : Step) → Alone (after n step)
alone_after n Fence t is = refl
alone_after n Tail t is = refl
alone_after n Ship t is = refl
alone_after n Sweep t is = refl
alone_after n (Rejoin m) t is = refl
alone_after n Work t is = refl
alone_after n Opened t is = absurd cc

alone_crash : (o : Option Takeover) (w : Option ℕ) (n : ℕ) → ((t : Takeover) → o ≡ Some t → w ≡ None) → (t : Takeover) → takeover_without o n ≡ Some t → without w n ≡ None
alone_crash None w n alone t is = absurd cc
alone_crash (Some t) w n alone u is = ap (λ (x : Option ℕ). without x n) (alone t refl)

good_step : (event : Event) (M M' : ManagerState) (steps steps' : List Step) → Good M steps → Does event M steps M' steps' → Good M' steps'
good_step (did n step) M M' steps steps' good does = (
  subst (λ (N : ManagerState). Holds N.takeover steps') (sym does.1) (subst (λ (ss : List Step). Holds (stage_after n step) ss) (sym does.2) (does_on M.takeover n step steps good.0 does.0)),
  subst Alone (sym does.1) (alone_after n step),
)
good_step (downed n) M M' steps steps' good does = (
  subst (λ (N : ManagerState). Holds N.takeover steps') (sym does.0) (subst (λ (ss : List Step). Holds (takeover_without M.takeover n) ss) (sym does.1) (crash_on M.takeover n steps good.0)),
  subst Alone (sym does.0) (alone_crash M.takeover M.writer n good.1),
)
good_step renewed M M' steps steps' good does = (
  subst (λ (N : ManagerState). Holds N.takeover steps') (sym does.0) tt,
  subst Alone (sym does.0) (λ t is. refl),
)

good_run : (events : List Event) (M M' : ManagerState) (steps steps' : List Step) → Good M steps → Run events M steps M' steps' → Good M' steps'
good_run [] M M' steps steps' good run = subst (λ (N : ManagerState). Good N steps') (sym run.0) (subst (λ (ss : List Step). Good M ss) (sym run.1) good)
good_run (event ∷ events) M M' steps steps' good run = good_run events run.0 M' run.1 steps' (good_step event M run.0 steps run.1 good run.2) run.3

first_good : Good first_manager []
first_good = (tt, λ t is. absurd cc)

at_opened : (o : Option Takeover) (n : ℕ) (steps : List Step) → Holds o steps → Follows o n Opened → IsInOrder steps
at_opened None n steps so follows = absurd cc
at_opened (Some t) n steps so follows = subst (λ (g : Stage). IsSoFar g steps) follows.1 so

pub opens_in_order : (events : List Event) (M : ManagerState) (steps : List Step) (n : ℕ) → Run events first_manager [] M steps → Follows M.takeover n Opened → IsInOrder steps
opens_in_order events M steps n run follows = at_opened M.takeover n steps (good_run events first_manager M [] steps first_good run).0 follows

pub one_writer : (events : List Event) (M : ManagerState) (steps : List Step) (t : Takeover) → Run events first_manager [] M steps → M.takeover ≡ Some t → M.writer ≡ None
one_writer events M steps t run is = (good_run events first_manager M [] steps first_good run).1 t is

-- the step that is due follows on what was done
pub due_follows : (M : ManagerState) (up : ℕ → Bool) (home : Bool) (n : ℕ) (step : Step) → MayTake M up home n → IsDue M.takeover up n step → Follows M.takeover n step
due_follows M up home n step may due = by M.takeover refl due
  where
    comes : (stage : Stage) (s : Step) → IsStepOf stage up s → Comes stage s
    comes stage Fence is = is
    comes stage Tail is = is
    comes stage Ship is = is
    comes stage Sweep is = is
    comes stage (Rejoin m) is = (is.0, is.1, is.2.0)
    comes stage Work is = (is.0, is.1)
    comes stage Opened is = is

    by : (o : Option Takeover) → M.takeover ≡ o → IsDue o up n step → Follows o n step
    by None is d = d
    by (Some t) is d = (may.no_other t is, comes t.stage step d)
