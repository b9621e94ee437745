-- Stated: the token at the front of bytes that do not begin with white space: its class and its length, or how
-- far behind the front the bytes have their fault.
use Rattle.std.specs.Prelude.{ℕ, ◌+◌, ◌-◌, ◌*◌, Bool, ◌==◌, if◌then◌else◌, nat_lt, nat_le, List, [], ◌∷◌, length, take, drop, slice_index, Option, Some, None, Result, Ok, Err}
use Rattle.std.specs.Option.{option_map}
use Rattle.std.specs.List.{prefix_len}
use Rattle.std.specs.Str.Lossy.{utf8_valid_len}
use Rattle.sql_words.specs.declared.cutting.Front.{Front}
use Rattle.sql_words.specs.declared.reserved.Word.{Word}
use Rattle.sql_words.specs.declared.signs.Sign.TheVariants as sign
use Rattle.sql_words.specs.declared.tokens.Class.{Class}
use Rattle.sql_words.specs.declared.tokens.Class.TheVariants as class
use Rattle.sql_words.specs.Bytes.{is_letter, is_digit, is_quote, is_word_byte}
use Rattle.sql_words.specs.Reserved.{word_of}

-- a token of so many bytes
abbrev pub found : Class → ℕ → Result Front ℕ
found c n = Ok (record { class = c; len = n })

-- a name has at most 32 bytes
abbrev pub word_or_name : Option Word → ℕ → Result Front ℕ
word_or_name (Some w) n = found (class.Reserved w) n
word_or_name None n = if nat_le n 32 then found class.Name n else Err 0

-- a word that directly follows a number is none
unfoldable pub word_at : Bool → List ℕ → Result Front ℕ
word_at joined bytes =
    let n = prefix_len is_word_byte bytes in
    if joined then Err 0 else word_or_name (word_of (take n bytes)) n

-- the number that digits spell behind those that spell n
abbrev pub value_behind : ℕ → List ℕ → ℕ
value_behind n [] = n
value_behind n (d ∷ digits) = value_behind (n * 10 + (d - 48)) digits

abbrev pub value_of : List ℕ → ℕ
value_of digits = value_behind 0 digits

-- a number is at most 9223372036854775807, or one more behind a minus
abbrev pub is_allowed : Bool → ℕ → Bool
is_allowed minus n = if minus then nat_le n 9223372036854775808 else nat_lt n 9223372036854775808

unfoldable pub number_at : Bool → List ℕ → Result Front ℕ
number_at minus bytes =
    let n = prefix_len is_digit bytes in
    if is_allowed minus (value_of (take n bytes)) then found class.Number n else Err 0

-- how many bytes there are up to a quote that no second one follows, and with it
abbrev mutual
  pub closing : List ℕ → Option ℕ
  closing [] = None
  closing (b ∷ bytes) = if is_quote b then behind_quote bytes else option_map (λ n. n + 1) (closing bytes)

  pub behind_quote : List ℕ → Option ℕ
  behind_quote [] = Some 1
  behind_quote (b ∷ bytes) = if is_quote b then option_map (λ n. n + 2) (closing bytes) else Some 1

-- a text up to its closing quote; the bytes between the quotes are UTF-8
abbrev pub text_until : Option ℕ → List ℕ → Result Front ℕ
text_until None bytes = Err 0
text_until (Some n) bytes =
    let inner = take (n - 1) bytes in
    if utf8_valid_len inner == length inner then found class.Text (n + 1) else Err (utf8_valid_len inner + 1)

unfoldable pub text_at : List ℕ → Result Front ℕ
text_at bytes = text_until (closing (drop 1 bytes)) (drop 1 bytes)

-- a sign by its first byte, and by the second where that makes it longer
unfoldable pub sign_at : ℕ → ℕ → Result Front ℕ
sign_at b c =
    if b == 40 then found (class.Sign sign.Open) 1
    else (if b == 41 then found (class.Sign sign.Close) 1
    else (if b == 44 then found (class.Sign sign.Comma) 1
    else (if b == 46 then found (class.Sign sign.Dot) 1
    else (if b == 59 then found (class.Sign sign.Semicolon) 1
    else (if b == 42 then found (class.Sign sign.Star) 1
    else (if b == 43 then found (class.Sign sign.Plus) 1
    else (if b == 45 then found (class.Sign sign.Minus) 1
    else (if b == 61 then found (class.Sign sign.Eq) 1
    else (if b == 33 then (if c == 61 then found (class.Sign sign.Ne) 2 else Err 0)
    else (if b == 60 then (if c == 61 then found (class.Sign sign.Le) 2 else (if c == 62 then found (class.Sign sign.Ne) 2 else found (class.Sign sign.Lt) 1))
    else (if b == 62 then (if c == 61 then found (class.Sign sign.Ge) 2 else found (class.Sign sign.Gt) 1)
    else Err 0)))))))))))

-- by the first byte
unfoldable pub front_of : Bool → Bool → List ℕ → Result Front ℕ
front_of minus joined bytes =
    let b = slice_index bytes 0 in
    if is_letter b then word_at joined bytes
    else (if is_digit b then number_at minus bytes
    else (if is_quote b then text_at bytes
    else sign_at b (slice_index bytes 1)))
