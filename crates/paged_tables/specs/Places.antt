-- For the proofs: where the keys of a range begin and end among the keys of a leaf.
use Rattle.std.specs.Prelude.{◌≡◌, ◌≤◌, ℕ, List, length, Option, Some, None}
use Rattle.page_view.specs.Keys.{LessBelow, GreaterFrom}

-- each key before the place is below the low end
abbrev pub IsFirst : Option (List ℕ) → List (List ℕ) → ℕ → Type 0
IsFirst None keys n = n ≡ 0
IsFirst (Some low) keys n = LessBelow keys n low

-- each key from the place on is past the high end
abbrev pub IsEnd : Option (List ℕ) → List (List ℕ) → ℕ → Type 0
IsEnd None keys n = length keys ≤ n
IsEnd (Some high) keys n = GreaterFrom keys n high
