-- For the proofs: where pages stand among the entries.
use Rattle.std.specs.Prelude.{◌≡◌, ◌+◌, ℕ, Bool, false, List, take, nat_eq, slice_get}
use Rattle.std.specs.List.{list_any}
use Rattle.std.specs.Map.{keys_of}
use Rattle.home_tables.specs.Home.{HomeState}

-- the pages that have an entry, in the order of the entries
abbrev pub pages_in : HomeState → List ℕ
pages_in H = keys_of H.entries

-- page q is one of the first i
abbrev pub is_among : ℕ → List ℕ → ℕ → Bool
is_among i pages q = list_any (nat_eq q) (take i pages)

-- the pages that stand before page p keep their places
abbrev pub KeepsBefore : HomeState → HomeState → ℕ → Type 0
KeepsBefore before after p = (i : ℕ) → is_among (i + 1) (pages_in before) p ≡ false → slice_get (pages_in after) i ≡ slice_get (pages_in before) i
