-- Stated: what happens to the manager, one thing after another, and the steps of the takeover that is under way.
use Rattle.std.specs.Prelude.{◌≡◌, ◌<◌, ℕ, List, [], ◌∷◌, ◌++◌, map}
use Rattle.cluster_manager.specs.declared.steps.Step.{Step}
use Rattle.cluster_manager.specs.declared.steps.Step.TheVariants.{Fence, Tail, Ship, Sweep, Rejoin, Work, Opened}
use Rattle.cluster_manager.specs.Takeover.{ManagerState, no_manager, Follows, after, after_crash}

-- a node does a step of its takeover, a node goes down, or the home is renewed
pub data Event : Type 0 where
  did : ℕ → Step → Event
  downed : ℕ → Event
  renewed : Event

-- the steps of the takeover, the last one first, after one more; Fence begins anew
abbrev pub one_more : Step → List Step → List Step
one_more Fence steps = Fence ∷ []
one_more Tail steps = Tail ∷ steps
one_more Ship steps = Ship ∷ steps
one_more Sweep steps = Sweep ∷ steps
one_more (Rejoin n) steps = Rejoin n ∷ steps
one_more Work steps = Work ∷ steps
one_more Opened steps = Opened ∷ steps

-- an event leads from one state, with the steps so far, to another
abbrev pub Does : Event → ManagerState → List Step → ManagerState → List Step → Type 0
Does (did n step) M steps M' steps' = Follows M.takeover n step × (M' ≡ after n step) × (steps' ≡ one_more step steps)
Does (downed n) M steps M' steps' = (M' ≡ after_crash M n) × (steps' ≡ steps)
Does renewed M steps M' steps' = (M' ≡ no_manager) × (steps' ≡ steps)

abbrev pub Run : List Event → ManagerState → List Step → ManagerState → List Step → Type 0
Run [] M steps M' steps' = (M' ≡ M) × (steps' ≡ steps)
Run (event ∷ events) M steps M' steps' = (N : ManagerState) × (mid : List Step) × Does event M steps N mid × Run events N mid M' steps'

-- the last one is below a number, and each is below the one before it in the list
abbrev pub FallsFrom : ℕ → List ℕ → Type 0
FallsFrom bound [] = Unit {0}
FallsFrom bound (n ∷ nodes) = (n < bound) × FallsFrom n nodes

-- before the first node goes on
abbrev pub to_sweep : List Step
to_sweep = Sweep ∷ Ship ∷ Tail ∷ Fence ∷ []

-- nodes went on after the sweep, each after those with lesser numbers
abbrev pub IsRejoined : ℕ → List Step → Type 0
IsRejoined bound steps = (nodes : List ℕ) × FallsFrom bound nodes × (steps ≡ map Rejoin nodes ++ to_sweep)

-- the whole order, the last one first: Work, the nodes that went on, Sweep, Ship, Tail, Fence
abbrev pub IsInOrder : List Step → Type 0
IsInOrder steps = (bound : ℕ) × (before : List Step) × (steps ≡ Work ∷ before) × IsRejoined bound before
