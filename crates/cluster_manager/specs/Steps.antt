-- Stated: the steps of a takeover and which one comes after which.
use Rattle.std.specs.Prelude.{◌≡◌, ◌≤◌, ◌<◌, ◌+◌, ℕ, Bool, true, false, Option, Some, None, nat_eq, if◌then◌else◌}
use Rattle.cluster_manager.specs.declared.steps.Step.{Step}
use Rattle.cluster_manager.specs.declared.steps.Step.TheVariants.{Fence, Tail, Ship, Sweep, Rejoin, Work, Opened}
use Rattle.cluster_manager.specs.declared.steps.Stage.{Stage}
use Rattle.cluster_manager.specs.declared.steps.Stage.TheVariants.{Fenced, Tailed, Shipped, Rejoining, Worked}
use Rattle.cluster_manager.specs.declared.steps.Takeover.{Takeover}

-- the least node from a number on that is up, or none where none is
abbrev pub IsFirstUp : (ℕ → Bool) → ℕ → Option ℕ → Type 0
IsFirstUp up from None = (n : ℕ) → from ≤ n → n < 16 → up n ≡ false
IsFirstUp up from (Some n) = (from ≤ n) × (up n ≡ true) × ((m : ℕ) → from ≤ m → m < n → up m ≡ false)

-- the nodes that are up go on one by one, by their numbers; then the node is at work
abbrev pub IsStepOf : Stage → (ℕ → Bool) → Step → Type 0
IsStepOf stage up Fence = ⊥
IsStepOf stage up Tail = stage ≡ Fenced
IsStepOf stage up Ship = stage ≡ Tailed
IsStepOf stage up Sweep = stage ≡ Shipped
IsStepOf stage up (Rejoin n) = (from : ℕ) × (stage ≡ Rejoining from) × IsFirstUp up from (Some n)
IsStepOf stage up Work = (from : ℕ) × (stage ≡ Rejoining from) × IsFirstUp up from None
IsStepOf stage up Opened = stage ≡ Worked

-- the takeover after a step of node n
abbrev pub stage_after : ℕ → Step → Option Takeover
stage_after n Fence = Some record { node = n; stage = Fenced }
stage_after n Tail = Some record { node = n; stage = Tailed }
stage_after n Ship = Some record { node = n; stage = Shipped }
stage_after n Sweep = Some record { node = n; stage = Rejoining 0 }
stage_after n (Rejoin m) = Some record { node = n; stage = Rejoining (m + 1) }
stage_after n Work = Some record { node = n; stage = Worked }
stage_after n Opened = None

-- which node has the writes after a step of node n
abbrev pub writer_after : ℕ → Step → Option ℕ
writer_after n Fence = None
writer_after n Tail = None
writer_after n Ship = None
writer_after n Sweep = None
writer_after n (Rejoin m) = None
writer_after n Work = None
writer_after n Opened = Some n

-- the node, unless it is n
abbrev pub without : Option ℕ → ℕ → Option ℕ
without None n = None
without (Some m) n = if nat_eq m n then None else Some m
