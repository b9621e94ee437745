-- Stated: which slots of a slab are free, as a test of each: whether it is taken.
use Rattle.std.specs.Prelude.{◌≡◌, ◌<◌, ◌+◌, ℕ, Bool, true, false, not, if◌then◌else◌, List, [], ◌∷◌, slice_index_or}

-- slot s is one of these and is not taken
abbrev pub is_free : List Bool → ℕ → Bool
is_free taken s = not (slice_index_or taken s true)

-- slot s is the least free slot
abbrev pub IsFirstFree : List Bool → ℕ → Type 0
IsFirstFree taken s = (is_free taken s ≡ true) × ((t : ℕ) → t < s → is_free taken t ≡ false)

-- no slot is free
abbrev pub AllTaken : List Bool → Type 0
AllTaken taken = (s : ℕ) → is_free taken s ≡ false

-- how many slots are free
abbrev pub count_free : List Bool → ℕ
count_free [] = 0
count_free (taken ∷ rest) = (if taken then 0 else 1) + count_free rest

-- the slots before `first` are taken, and `free` is the number of free slots
pub record IsCounted (taken : List Bool) (first free : ℕ) : Type 0 where
  pub before : (t : ℕ) → t < first → is_free taken t ≡ false
  pub count : free ≡ count_free taken
