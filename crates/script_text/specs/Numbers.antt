-- Stated: numbers and nodes as a script writes them.
use Rattle.std.specs.Prelude.{ℕ, Bool, ◌&&◌, ◌==◌, nat_le, List, [], ◌∷◌, length, Option, Some, None, if◌then◌else◌}
use Rattle.std.specs.List.{list_all}
use Rattle.sql_words.specs.Bytes.{is_digit}
use Rattle.sql_words.specs.Front.{value_of}

-- 1 to 9 digits
unfoldable pub is_number : List ℕ → Bool
is_number word = list_all is_digit word && (nat_le 1 (length word) && nat_le (length word) 9)

-- the number that 1 to 9 digits spell
unfoldable pub number_of : List ℕ → Option ℕ
number_of word = if is_number word then Some (value_of word) else None

-- the number behind an `n`
unfoldable pub node_of : List ℕ → Option ℕ
node_of [] = None
node_of (b ∷ digits) = if b == 110 then number_of digits else None
