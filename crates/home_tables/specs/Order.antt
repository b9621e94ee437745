-- Stated: which pages are due at which nodes.
use Rattle.std.specs.Prelude.{◌≡◌, ◌<◌, ℕ, Bool, true, false, ◌&&◌, List, Option, Some, None, nat_eq}
use Rattle.page_latches.specs.Set.{has}
use Rattle.home_tables.specs.Home.{HomeState, kept, entry_at}
use Rattle.home_tables.specs.Table.{is_idle_on}

-- page p is due at node n
abbrev pub due_at : HomeState → ℕ → ℕ → ℕ → Bool
due_at H node p n = nat_eq n node && (entry_at H p).due n

-- page p is due at node n, which is one of those that are up
abbrev pub due_among : HomeState → List ℕ → ℕ → ℕ → Bool
due_among H up p n = has up n && (entry_at H p).due n

-- the least page that may be given away for its slot of a slab, or none where there is none
abbrev pub IsFirstIdle : HomeState → ℕ → Option ℕ → Type 0
IsFirstIdle H slab None = (p : ℕ) → p < 32768 → is_idle_on slab (kept H p) ≡ false
IsFirstIdle H slab (Some p) = (is_idle_on slab (kept H p) ≡ true) × ((q : ℕ) → q < p → is_idle_on slab (kept H q) ≡ false)
