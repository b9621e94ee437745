-- Stated: sets of numbers as a test of each number, and 16 sets of pages in one of them.
use Rattle.std.specs.Prelude.{◌≡◌, ◌<◌, ◌≤◌, ◌+◌, ◌*◌, ◌/◌, ℕ, Bool, true, false, List, length, slice_index_or}

-- number x is a member
abbrev pub has : List Bool → ℕ → Bool
has members x = slice_index_or members x false

-- no number from `low` up to `high` is a member
abbrev pub HasNone : List Bool → ℕ → ℕ → Type 0
HasNone members low high = (y : ℕ) → low ≤ y → y < high → has members y ≡ false

-- x is the least member from `low` up to `high`
pub record IsLeast (members : List Bool) (low high x : ℕ) : Type 0 where
  pub from : low ≤ x
  pub until : x < high
  pub member : has members x ≡ true
  pub least : HasNone members low x

-- the number of page p in set i, where a set has 32,768 numbers
abbrev pub number_of : ℕ → ℕ → ℕ
number_of i p = i * 32768 + p

-- page p is in set i
abbrev pub has_page : List Bool → ℕ → ℕ → Bool
has_page members i p = has members (number_of i p)

-- groups of 128 numbers: a group that has a member is marked, and the groups are those of all numbers
pub record AreMarked (members groups : List Bool) : Type 0 where
  pub marked : (x : ℕ) → has members x ≡ true → has groups (x / 128) ≡ true
  pub whole : length members ≡ length groups * 128
