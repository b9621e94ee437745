-- Stated: the line that may follow the first one.
use Rattle.std.specs.Prelude.{ℕ, ◌%◌, Bool, false, not, ◌&&◌, ◌||◌, ◌==◌, nat_le, List, [], ◌∷◌, length, codes}
use Rattle.std.specs.List.{list_all}
use Rattle.sql_words.specs.Bytes.{is_digit}
use Rattle.script_text.specs.Words.{is}

-- 0 to 9 and a to f
unfoldable pub is_hex_digit : ℕ → Bool
is_hex_digit b = is_digit b || (nat_le 97 b && nat_le b 102)

-- `boot` and an even number of such digits, at least two
unfoldable pub is_boot : List (List ℕ) → Bool
is_boot (first ∷ digits ∷ []) =
    is first (codes "boot") && (not (length digits == 0) && (length digits % 2 == 0 && list_all is_hex_digit digits))
is_boot _ = false
