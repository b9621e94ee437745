-- Stated: which pages may be given away for their slots, and the least of them.
use Rattle.std.specs.Prelude.{◌≡◌, ◌<◌, ℕ, Bool, true, false, ◌&&◌, List, Option, Some, None, nat_le, if◌then◌else◌}
use Rattle.std.specs.List.{list_any}
use Rattle.slab_node.specs.Slab.{SlabState}
use Rattle.home_tables.specs.Home.{HomeState, kept}
use Rattle.home_tables.specs.Table.{is_idle_on}

-- nobody refers to page p, its latch is free, and its slot is one of this slab, which is up
abbrev pub gives : HomeState → ℕ → SlabState → Bool
gives H p S = S.up && is_idle_on S.id (kept H p)

-- page p may be given away for its slot of a live slab
abbrev pub may_give : HomeState → List SlabState → ℕ → Bool
may_give H slabs p = list_any (gives H p) slabs

-- the least page at which D holds, or none where it holds at none
abbrev pub IsLeastPage : (ℕ → Bool) → Option ℕ → Type 0
IsLeastPage D None = (p : ℕ) → p < 32768 → D p ≡ false
IsLeastPage D (Some p) = (D p ≡ true) × ((q : ℕ) → q < 32768 → q < p → D q ≡ false)

-- the lesser of two pages, where they are there
abbrev pub lesser : Option ℕ → Option ℕ → Option ℕ
lesser None other = other
lesser (Some p) None = Some p
lesser (Some p) (Some q) = if nat_le p q then Some p else Some q
