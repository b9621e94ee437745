-- Stated: the lines of a text.
use Rattle.std.specs.Prelude.{◌==◌, ◌||◌, ◌-◌, ℕ, Bool, not, List, length, take, filter}
use Rattle.std.specs.List.{slice_split, list_all}

-- what stands before, between and behind the LFs of a text
unfoldable pub lines : List ℕ → List (List ℕ)
lines text = slice_split (λ b. b == 10) text

-- the lines that an LF ends: all but the last
unfoldable pub whole_lines : List ℕ → List (List ℕ)
whole_lines text = take (length (lines text) - 1) (lines text)

-- spaces, tabs and CRs alone
abbrev pub is_blank : List ℕ → Bool
is_blank line = list_all (λ b. b == 32 || b == 9 || b == 13) line

-- the lines that are not blank
abbrev pub filled : List (List ℕ) → List (List ℕ)
filled lines = filter (λ line. not (is_blank line)) lines
