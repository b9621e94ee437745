-- Stated: the tokens of a text.
use Rattle.std.specs.Prelude.{◌≡◌, ◌≢◌, ℕ, suc, ◌+◌, ◌≤◌, ◌⊎◌, Bool, true, false, List, [], ◌∷◌, ◌++◌, length, if◌then◌else◌, Option, Some, None, take, drop}
use Rattle.std.specs.List.{list_all}
use Rattle.std.specs.Str.{IsUtf8}
use Rattle.std.specs.Str.Lossy.{utf8_valid_len}
use Rattle.sql_words.specs.declared.reserved.Word.{Word}
use Rattle.sql_words.specs.declared.signs.Sign.TheVariants as sign
use Rattle.sql_words.specs.declared.tokens.Class.{Class}
use Rattle.sql_words.specs.declared.tokens.Class.TheVariants as class
use Rattle.sql_words.specs.Bytes.{is_space, is_letter, is_digit, is_quote, is_word_byte, BeginsNot}
use Rattle.sql_words.specs.Front.{value_of, is_allowed}
use Rattle.sql_words.specs.Lexed.{Lexed}
use Rattle.sql_words.specs.Reserved.{lowered, spelling}
use Rattle.sql_words.specs.Signs.{IsSign, lengthens}

-- a letter or `_`, then letters, digits and `_`, and none of these behind them
abbrev pub IsWholeWord : List ℕ → List ℕ → Type 0
IsWholeWord [] rest = ⊥
IsWholeWord (b ∷ bytes) rest = (is_letter b ≡ true) × (list_all is_word_byte bytes ≡ true) × BeginsNot is_word_byte rest

-- one or more digits, and none behind them
abbrev pub IsWholeNumber : List ℕ → List ℕ → Type 0
IsWholeNumber [] rest = ⊥
IsWholeNumber (b ∷ bytes) rest = (is_digit b ≡ true) × (list_all is_digit bytes ≡ true) × BeginsNot is_digit rest

-- the bytes with each quote written twice
abbrev pub doubled : List ℕ → List ℕ
doubled [] = []
doubled (b ∷ bytes) = if is_quote b then 39 ∷ 39 ∷ doubled bytes else b ∷ doubled bytes

-- a text as it is written: in quotes, each quote in it twice
abbrev pub quoted : List ℕ → List ℕ
quoted content = 39 ∷ (doubled content ++ 39 ∷ [])

-- The bytes are one token of the class, with the rest behind them. `minus` says that the token before it
-- is `-`, `joined` that a number ends right before it.
abbrev pub IsToken : Bool → Bool → List ℕ → Class → List ℕ → Type 0
IsToken minus joined bytes (class.Reserved w) rest = IsWholeWord bytes rest × (joined ≡ false) × (lowered bytes ≡ lowered (spelling w))
IsToken minus joined bytes class.Name rest = IsWholeWord bytes rest × (joined ≡ false) × ((w : Word) → lowered bytes ≢ lowered (spelling w)) × (length bytes ≤ 32)
IsToken minus joined bytes class.Number rest = IsWholeNumber bytes rest × (is_allowed minus (value_of bytes) ≡ true)
IsToken minus joined bytes class.Text rest = (content : List ℕ) × (bytes ≡ quoted content) × BeginsNot is_quote rest × IsUtf8 (doubled content)
IsToken minus joined bytes (class.Sign s) rest = IsSign s bytes × BeginsNot (lengthens s) rest

-- whether the token before is `-`, and whether it is a number that ends right before these spaces' end
abbrev pub is_minus : Option Class → Bool
is_minus None = false
is_minus (Some (class.Reserved w)) = false
is_minus (Some class.Name) = false
is_minus (Some class.Number) = false
is_minus (Some class.Text) = false
is_minus (Some (class.Sign sign.Minus)) = true
is_minus (Some (class.Sign s)) = false

abbrev pub is_number : Option Class → Bool
is_number (Some class.Number) = true
is_number _ = false

abbrev pub is_joined : Option Class → List ℕ → Bool
is_joined before [] = is_number before
is_joined before (b ∷ spaces) = false

-- behind a token of the class before, the bytes from offset `at` on are white space, this token and a rest
pub record Cuts (before : Option Class) (at : ℕ) (bytes : List ℕ) (t : Lexed) : Type 0 where
  pub spaces : List ℕ
  pub rest : List ℕ
  pub whole : bytes ≡ spaces ++ (t.text ++ rest)
  pub blank : list_all is_space spaces ≡ true
  pub place : t.at ≡ at + length spaces
  pub token : IsToken (is_minus before) (is_joined before spaces) t.text t.class rest

-- no token begins at the front of the bytes
abbrev pub BeginsNone : Bool → Bool → List ℕ → Type 0
BeginsNone minus joined bytes = (front rest : List ℕ) (c : Class) → bytes ≡ front ++ rest → IsToken minus joined front c rest → ⊥

-- a text with its closing quote stands at the front
abbrev pub IsClosed : List ℕ → List ℕ → List ℕ → Type 0
IsClosed bytes content rest = (bytes ≡ quoted content ++ rest) × BeginsNot is_quote rest

-- Where behind the front a fault is: at the first byte that is not UTF-8 of a text that is closed, and
-- else at the front.
abbrev pub HasFaultAt : List ℕ → ℕ → Type 0
HasFaultAt bytes n =
    ((content rest : List ℕ) × IsClosed bytes content rest × (n ≡ suc (utf8_valid_len (doubled content))))
    ⊎ (((content rest : List ℕ) → IsClosed bytes content rest → ⊥) × (n ≡ 0))

-- behind a token of the class before, the bytes from offset `at` on are white space and then no token
pub record Fails (before : Option Class) (at : ℕ) (bytes : List ℕ) (p : ℕ) : Type 0 where
  pub spaces : List ℕ
  pub rest : List ℕ
  pub offset : ℕ
  pub whole : bytes ≡ spaces ++ rest
  pub blank : list_all is_space spaces ≡ true
  pub some : rest ≢ []
  pub visible : BeginsNot is_space rest
  pub none : BeginsNone (is_minus before) (is_joined before spaces) rest
  pub fault : HasFaultAt rest offset
  pub place : p ≡ at + length spaces + offset

-- Behind a token of the class before, the bytes from offset `at` on are these tokens and white space
-- between them, up to their end or to the first byte that begins no token.
abbrev pub AreTokens : Option Class → ℕ → List ℕ → List Lexed → Option ℕ → Type 0
AreTokens before at bytes [] None = list_all is_space bytes ≡ true
AreTokens before at bytes [] (Some p) = Fails before at bytes p
AreTokens before at bytes (t ∷ ts) fault = (c : Cuts before at bytes t) × AreTokens (Some t.class) (t.at + length t.text) c.rest ts fault

-- the tokens of a text, up to its end or to its first fault
abbrev pub AreTokensOf : List ℕ → List Lexed → Option ℕ → Type 0
AreTokensOf text ts fault = AreTokens None 0 text ts fault

-- each token is the slice of the text at its place, and ends before the next one begins
abbrev pub AscendIn : List ℕ → ℕ → List Lexed → Type 0
AscendIn text from [] = from ≤ length text
AscendIn text from (t ∷ ts) = (from ≤ t.at) × (t.text ≡ take (length t.text) (drop t.at text)) × AscendIn text (t.at + length t.text) ts

-- a text has one list of tokens, and one first fault at most
abbrev pub HasOneReading : Type 0
HasOneReading =
    (text : List ℕ) (ts us : List Lexed) (p q : Option ℕ)
    → AreTokensOf text ts p → AreTokensOf text us q → (ts ≡ us) × (p ≡ q)
