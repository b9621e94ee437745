-- Stated: session names as a script writes them.
use Rattle.std.specs.Prelude.{ℕ, Bool, false, ◌&&◌, ◌||◌, nat_le, List, [], ◌∷◌, length, Option, Some, None, if◌then◌else◌}
use Rattle.std.specs.List.{list_all}
use Rattle.sql_words.specs.Bytes.{is_digit}

-- a lower-case letter
unfoldable pub is_lower : ℕ → Bool
is_lower b = nat_le 97 b && nat_le b 122

-- a lower-case letter or a digit
unfoldable pub is_name_byte : ℕ → Bool
is_name_byte b = is_lower b || is_digit b

-- a lower-case letter and up to 7 lower-case letters or digits
unfoldable pub is_name : List ℕ → Bool
is_name [] = false
is_name (b ∷ others) = is_lower b && (nat_le (length others) 7 && list_all is_name_byte others)

-- the word, where it is a session's name
unfoldable pub name_of : List ℕ → Option (List ℕ)
name_of word = if is_name word then Some word else None
