-- Stated: a statement that has used these pages so far: what is carried from event to event.
use Rattle.std.specs.Prelude.{◌≡◌, ◌≤◌, ℕ, suc, List, [], ◌∷◌, ◌++◌, Option, Some, None, ⊤}
use Rattle.page_image.specs.declared.kind.Kind.TheVariants as kind
use Rattle.tree_timeline.specs.Types.{PagesAt}
use Rattle.tree_timeline.specs.Timeline.{Unchanged}
use Rattle.tree_timeline.specs.Walks.{Visit}
use Rattle.snapshot_reads.specs.Times.{Rises, Latched}

abbrev pub last_use : List Visit → Option Visit
last_use [] = None
last_use (v ∷ []) = Some v
last_use (v ∷ (w ∷ vs)) = last_use (w ∷ vs)

-- an inner page that was used last is still held: it is as it was read
abbrev pub StillHeld : PagesAt → ℕ → Option Visit → Type 0
StillHeld at now None = ⊤
StillHeld at now (Some v) = (at v.time v.page).kind ≡ kind.Inner → Unchanged at v.page v.time now

-- The uses of a statement that began at an LSN, up to now.
pub record Open (at : PagesAt) (from now : ℕ) (us : List Visit) : Type 0 where
  pub begun : from ≤ now
  pub rises : Rises now from us
  pub latched : Latched at us
  pub held : StillHeld at now (last_use us)

-- a log that goes on: the images up to now stay
abbrev pub Continues : PagesAt → PagesAt → ℕ → Type 0
Continues at new now = (t q : ℕ) → t ≤ now → new t q ≡ at t q

-- the group that is installed changes no page that the statement holds
abbrev pub Spares : PagesAt → PagesAt → ℕ → Option Visit → Type 0
Spares at new now None = ⊤
Spares at new now (Some v) = (at v.time v.page).kind ≡ kind.Inner
    → new (suc now) v.page ≡ at now v.page

-- a statement begins with no use
abbrev pub Begins : Type 0
Begins = (at : PagesAt) (now : ℕ) → Open at now now []

-- one more use, of the image that is current
abbrev pub UsesMore : Type 0
UsesMore =
    (at : PagesAt) (from now : ℕ) (us : List Visit) (v : Visit) → v.time ≡ now
    → Open at from now us → Open at from now (us ++ v ∷ [])

-- one more group
abbrev pub InstallsMore : Type 0
InstallsMore =
    (at new : PagesAt) (from now : ℕ) (us : List Visit)
    → Continues at new now → Spares at new now (last_use us)
    → Open at from now us → Open new from (suc now) us
