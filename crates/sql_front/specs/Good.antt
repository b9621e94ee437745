-- Stated: what every token of a text keeps.
use Rattle.std.specs.Prelude.{◌≡◌, ℕ, ◌<◌, ◌≤◌, ◌^◌, true, List, [], ◌∷◌, length}
use Rattle.std.specs.List.{list_all}
use Rattle.sql_words.specs.declared.tokens.Class.{Class}
use Rattle.sql_words.specs.declared.tokens.Class.TheVariants as c
use Rattle.sql_words.specs.Bytes.{is_digit}
use Rattle.sql_words.specs.Front.{value_of}
use Rattle.sql_words.specs.Lexed.{Lexed}
use Rattle.sql_words.specs.Tokens.{quoted}

-- a name has 1 to 32 bytes, a number digits and a value of at most 2 ^ 63, a text its quotes
abbrev pub IsGood : Class → List ℕ → Type 0
IsGood (c.Reserved w) bytes = Unit {0}
IsGood c.Name bytes = (0 < length bytes) × (length bytes ≤ 32)
IsGood c.Number bytes = (list_all is_digit bytes ≡ true) × (value_of bytes ≤ 2 ^ 63)
IsGood c.Text bytes = (content : List ℕ) × (bytes ≡ quoted content)
IsGood (c.Sign s) bytes = Unit {0}

abbrev pub AreGood : List Lexed → Type 0
AreGood [] = Unit {0}
AreGood (t ∷ ts) = IsGood t.class t.text × AreGood ts
