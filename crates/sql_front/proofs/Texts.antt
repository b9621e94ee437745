-- The tokens of a text: what each keeps, and that they stand in order.
use Rattle.std.proofs.Common.{◌≡◌, ℕ, ◌+◌, ◌<◌, ◌≤◌, ◌^◌, ◌&&◌, Bool, true, false, List, [], ◌∷◌, ◌++◌, length, Option, Some, None, refl, ◌∙◌, ap, arith, length-append}
use Rattle.std.proofs.lemmas.Bool.{leb-true, ltb-true}
use Rattle.std.specs.List.{list_all}
use Rattle.std.specs.Option.{unwrap_or}
use Rattle.sql_words.specs.Bytes.{is_digit}
use Rattle.sql_words.specs.declared.tokens.Class.{Class}
use Rattle.sql_words.specs.declared.tokens.Class.TheVariants as c
use Rattle.sql_words.specs.Front.{value_of, is_allowed}
use Rattle.sql_words.specs.Lexed.{Lexed}
use Rattle.sql_words.specs.Tokens.{IsToken, IsWholeWord, IsWholeNumber, AreTokens, Cuts, is_minus, is_joined}
use Rattle.sql_front.specs.Good.{IsGood, AreGood}
use Rattle.sql_front.specs.Sentences.{place}

-- ---- every token is good

word_some : (bytes rest : List ℕ) → IsWholeWord bytes rest → 0 < length bytes
word_some [] rest h = absurd h
word_some (b ∷ bytes) rest h = omega arith

both_true : (a b : Bool) → a ≡ true → b ≡ true → (a && b) ≡ true
both_true a b e f = ap (λ x. x && b) e ∙ f

number_digits : (bytes rest : List ℕ) → IsWholeNumber bytes rest → list_all is_digit bytes ≡ true
number_digits [] rest h = absurd h
number_digits (b ∷ bytes) rest h = both_true (is_digit b) (list_all is_digit bytes) h.0 h.1

pub number_bound : (minus : Bool) (n : ℕ) → is_allowed minus n ≡ true → n ≤ 2 ^ 63
number_bound true n h = leb-true n 9223372036854775808 h
number_bound false n h = let less = ltb-true n 9223372036854775808 h in omega arith

token_good : (minus joined : Bool) (bytes : List ℕ) (k : Class) (rest : List ℕ) → IsToken minus joined bytes k rest → IsGood k bytes
token_good minus joined bytes (c.Reserved w) rest h = tt
token_good minus joined bytes c.Name rest h = (word_some bytes rest h.0, h.3)
token_good minus joined bytes c.Number rest h = (number_digits bytes rest h.0, number_bound minus (value_of bytes) h.1)
token_good minus joined bytes c.Text rest h = (h.0, h.1)
token_good minus joined bytes (c.Sign s) rest h = tt

pub tokens_good : (before : Option Class) (at : ℕ) (bytes : List ℕ) (ts : List Lexed) (fault : Option ℕ) → AreTokens before at bytes ts fault → AreGood ts
tokens_good before at bytes [] fault h = tt
tokens_good before at bytes (t ∷ ts) fault h = (
  token_good (is_minus before) (is_joined before h.0.spaces) t.text t.class h.0.rest h.0.token,
  tokens_good (Some t.class) (t.at + length t.text) h.0.rest ts fault h.1,
)

-- ---- tokens stand in order

-- where the tokens end: at the first fault or at the end of the bytes
abbrev pub end_of : Option ℕ → ℕ → List ℕ → ℕ
end_of fault at bytes = unwrap_or fault (at + length bytes)

-- behind a token
end_behind : (before : Option Class) (at : ℕ) (bytes : List ℕ) (t : Lexed) (fault : Option ℕ) (u : Cuts before at bytes t) → end_of fault (t.at + length t.text) u.rest ≡ end_of fault at bytes
end_behind before at bytes t (Some p) u = refl
end_behind before at bytes t None u = omega (arith, u.place, ap length u.whole, length-append u.spaces (t.text ++ u.rest), length-append t.text u.rest)

from_start : (before : Option Class) (at : ℕ) (bytes : List ℕ) (ts : List Lexed) (fault : Option ℕ) → AreTokens before at bytes ts fault → at ≤ place ts (end_of fault at bytes)
from_start before at bytes [] None h = omega arith
from_start before at bytes [] (Some p) h = omega (arith, h.place)
from_start before at bytes (t ∷ ts) fault h = omega (arith, h.0.place)

rises : (before : Option Class) (at : ℕ) (bytes : List ℕ) (a b : List Lexed) (fault : Option ℕ) → AreTokens before at bytes (a ++ b) fault → place (a ++ b) (end_of fault at bytes) ≤ place b (end_of fault at bytes)
rises before at bytes [] b fault h = omega arith
rises before at bytes (t ∷ a) b fault h =
    let same = end_behind before at bytes t fault h.0 in
    let later = rises (Some t.class) (t.at + length t.text) h.0.rest a b fault h.1 in
    let start = from_start (Some t.class) (t.at + length t.text) h.0.rest (a ++ b) fault h.1 in
    omega (arith, ap (place (a ++ b)) same, ap (place b) same)

-- a token behind others is not before them, and none is behind the end
pub in_order : (before : Option Class) (at : ℕ) (bytes : List ℕ) (a b d : List Lexed) (fault : Option ℕ) → AreTokens before at bytes (a ++ (b ++ d)) fault → place (b ++ d) (end_of fault at bytes) ≤ place d (end_of fault at bytes)
in_order before at bytes [] b d fault h = rises before at bytes b d fault h
in_order before at bytes (t ∷ a) b d fault h =
    let same = end_behind before at bytes t fault h.0 in
    let later = in_order (Some t.class) (t.at + length t.text) h.0.rest a b d fault h.1 in
    omega (arith, ap (place (b ++ d)) same, ap (place d) same)
