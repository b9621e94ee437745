-- Stated: the words of a line.
use Rattle.std.specs.Prelude.{ℕ, Bool, List, ◌==◌, ◌||◌}
use Rattle.std.specs.List.{slice_split, list_all}
use Rattle.std.specs.Str.{bytes_eq}

-- what stands before, between and behind the spaces of a line
unfoldable pub words : List ℕ → List (List ℕ)
words line = slice_split (λ b. b == 32) line

-- whether the word is the text
abbrev pub is : List ℕ → List ℕ → Bool
is word text = bytes_eq word text

-- spaces, tabs and CRs alone
abbrev pub is_blank : List ℕ → Bool
is_blank text = list_all (λ b. b == 32 || b == 9 || b == 13) text
