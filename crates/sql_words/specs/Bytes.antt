-- Stated: kinds of bytes.
use Rattle.std.specs.Prelude.{◌≡◌, ℕ, Bool, false, ◌||◌, ◌&&◌, ◌==◌, nat_le, List, [], ◌∷◌}

-- the space, tab and CR
unfoldable pub is_space : ℕ → Bool
is_space b = b == 32 || b == 9 || b == 13

-- an ASCII letter or `_`
unfoldable pub is_letter : ℕ → Bool
is_letter b = (nat_le 65 b && nat_le b 90) || (nat_le 97 b && nat_le b 122) || b == 95

unfoldable pub is_digit : ℕ → Bool
is_digit b = nat_le 48 b && nat_le b 57

abbrev pub is_quote : ℕ → Bool
is_quote b = b == 39

-- what goes on with a word
unfoldable pub is_word_byte : ℕ → Bool
is_word_byte b = is_letter b || is_digit b

-- the bytes do not begin with one that passes the test
abbrev pub BeginsNot : (ℕ → Bool) → List ℕ → Type 0
BeginsNot test [] = Unit {0}
BeginsNot test (b ∷ bytes) = test b ≡ false
