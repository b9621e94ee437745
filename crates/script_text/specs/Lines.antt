-- Stated: the lines of a script.
use Rattle.std.specs.Prelude.{ℕ, Bool, true, ◌==◌, List, [], ◌∷◌, length}
use Rattle.std.specs.Str.Lines as std
use Rattle.std.specs.Str.Lossy.{utf8_valid_len}

-- Lines end in LF, and the last may lack it. One CR before the LF is dropped.
unfoldable pub lines : List ℕ → List (List ℕ)
lines bytes = std.lines bytes

-- whether the line is UTF-8
unfoldable pub is_utf8 : List ℕ → Bool
is_utf8 line = utf8_valid_len line == length line

-- empty lines and comments are passed over
unfoldable pub is_passed_over : List ℕ → Bool
is_passed_over [] = true
is_passed_over (b ∷ line) = b == 35
