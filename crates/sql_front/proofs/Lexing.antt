-- What is written of symbols has these symbols as its tokens.
use Rattle.std.proofs.Common.{◌≡◌, ◌≢◌, ℕ, suc, ◌+◌, ◌<◌, ◌≤◌, ◌^◌, inl, ◌&&◌, Bool, true, false, List, [], ◌∷◌, ◌++◌, length, map, drop, Option, Some, None, refl, sym, ◌∙◌, ap, subst, arith, append_assoc, append-nil, length-append, decimal}
use Rattle.std.proofs.lemmas.Bool.Decides.{nat_tests}
use Rattle.std.proofs.lemmas.Fmt.{digits_value-decimal, digits_decimal, decimal_nonempty}
use Rattle.std.proofs.lemmas.Str.Ascii.{lowercase-lowercase}
use Rattle.std.proofs.lemmas.Str.Parse.{IsNumeralModel, IsDigitsTest, FoldsDigits, numerals_by_fold}
use Rattle.std.specs.Char.{to_ascii_lowercase}
use Rattle.std.specs.List.{list_all}
use Rattle.std.specs.Str.{IsUtf8}
use Rattle.sql_words.specs.Bytes.{is_space, is_letter, is_digit, is_quote, is_word_byte, BeginsNot}
use Rattle.sql_words.specs.declared.reserved.Word.{Word}
use Rattle.sql_words.specs.declared.reserved.Word.TheVariants as w
use Rattle.sql_words.specs.declared.signs.Sign.{Sign}
use Rattle.sql_words.specs.declared.signs.Sign.TheVariants as s
use Rattle.sql_words.specs.declared.tokens.Class.{Class}
use Rattle.sql_words.specs.declared.tokens.Class.TheVariants as c
use Rattle.sql_words.specs.Front.{value_of, value_behind, is_allowed}
use Rattle.sql_words.specs.Lexed.{Lexed}
use Rattle.sql_words.specs.Reserved.{lowered, spelling}
use Rattle.sql_words.specs.Signs.{IsSign, sign_spelling, lengthens}
use Rattle.sql_words.specs.Tokens.{IsToken, IsWholeWord, IsWholeNumber, doubled, AreTokens, AreTokensOf, is_minus, is_joined}
use Rattle.sql_front.specs.Printed.{spelled, spaced, written}
use Rattle.sql_front.specs.Symbols.{Symbol, word, sign, name, number, text, Input, symbol_by, symbol_of, class_of, content_behind}
use Rattle.sql_front.proofs.Peeking.{content_of-quoted}
use Rattle.sql_front.proofs.Texts.{number_bound}

-- a name in lower case
pub record IsName (n : List ℕ) : Type 0 where
  pub whole : IsWholeWord n []
  pub lower : lowered n ≡ n
  pub free : (x : Word) → lowered n ≢ lowered (spelling x)
  pub short : length n ≤ 32

-- what the symbol of every token keeps
abbrev pub Sound : Symbol → Type 0
Sound (word x) = Unit {0}
Sound (sign x) = Unit {0}
Sound (name n) = IsName n
Sound (number n) = n ≤ 2 ^ 63
Sound (text t) = IsUtf8 (doubled t)

abbrev pub AllSound : Input → Type 0
AllSound [] = Unit {0}
AllSound (x ∷ i) = Sound x × AllSound i

-- what may be written behind a minus or not
abbrev pub Fits : Bool → Symbol → Type 0
Fits m (word x) = Unit {0}
Fits m (sign x) = Unit {0}
Fits m (name n) = IsName n
Fits m (number n) = is_allowed m n ≡ true
Fits m (text t) = IsUtf8 (doubled t)

abbrev pub Lexes : Bool → Input → Type 0
Lexes m [] = Unit {0}
Lexes m (x ∷ i) = Fits m x × Lexes (is_minus (Some (class_of x))) i

-- ---- what tokens keep

letter_lower : (b : ℕ) → is_letter b ≡ true → is_letter (to_ascii_lowercase b) ≡ true
unfolding is_letter
letter_lower b h = grind (arith, nat_tests)

word_lower : (b : ℕ) → is_word_byte b ≡ true → is_word_byte (to_ascii_lowercase b) ≡ true
unfolding is_word_byte is_letter is_digit
word_lower b h = grind (arith, nat_tests)

and_parts : (a b : Bool) → (a && b) ≡ true → (a ≡ true) × (b ≡ true)
and_parts true b h = (refl, h)
and_parts false b h = absurd (apart h) where
  apart : false ≡ true → ⊥
  apart e = cc

and_both : (a b : Bool) → a ≡ true → b ≡ true → (a && b) ≡ true
and_both a b e f = ap (λ x. x && b) e ∙ f

words_lower : (bs : List ℕ) → list_all is_word_byte bs ≡ true → list_all is_word_byte (lowered bs) ≡ true
words_lower [] h = refl
words_lower (b ∷ bs) h =
    let p = and_parts (is_word_byte b) (list_all is_word_byte bs) h in
    and_both (is_word_byte (to_ascii_lowercase b)) (list_all is_word_byte (lowered bs)) (word_lower b p.0) (words_lower bs p.1)

lowered_again : (bs : List ℕ) → lowered (lowered bs) ≡ lowered bs
lowered_again [] = refl
lowered_again (b ∷ bs) = ap (λ x. x ∷ lowered (lowered bs)) (lowercase-lowercase b) ∙ ap (λ z. to_ascii_lowercase b ∷ z) (lowered_again bs)

length-lowered : (bs : List ℕ) → length (lowered bs) ≡ length bs
length-lowered [] = refl
length-lowered (b ∷ bs) = ap suc (length-lowered bs)

whole_lower : (bs rest : List ℕ) → IsWholeWord bs rest → IsWholeWord (lowered bs) []
whole_lower [] rest h = absurd h
whole_lower (b ∷ bs) rest h = (letter_lower b h.0, words_lower bs h.1, tt)

token_sound : (minus joined : Bool) (bytes : List ℕ) (k : Class) (rest : List ℕ) → IsToken minus joined bytes k rest → Sound (symbol_by k bytes)
token_sound minus joined bytes (c.Reserved x) rest h = tt
token_sound minus joined bytes c.Name rest h = record {
  whole = whole_lower bytes rest h.0;
  lower = lowered_again bytes;
  free = λ x e. h.2 x (sym (lowered_again bytes) ∙ e);
  short = omega (arith, h.3, length-lowered bytes);
}
token_sound minus joined bytes c.Number rest h = number_bound minus (value_of bytes) h.1
token_sound minus joined bytes c.Text rest h = subst (λ z. IsUtf8 (doubled z)) (sym (ap (λ z. content_behind (drop 1 z)) h.1 ∙ content_of-quoted h.0)) h.3
token_sound minus joined bytes (c.Sign x) rest h = tt

pub tokens_sound : (before : Option Class) (at : ℕ) (bytes : List ℕ) (ts : List Lexed) (fault : Option ℕ) → AreTokens before at bytes ts fault → AllSound (map symbol_of ts)
tokens_sound before at bytes [] fault h = tt
tokens_sound before at bytes (t ∷ ts) fault h = (
  token_sound (is_minus before) (is_joined before h.0.spaces) t.text t.class h.0.rest h.0.token,
  tokens_sound (Some t.class) (t.at + length t.text) h.0.rest ts fault h.1,
)

-- ---- tokens that are written

-- the symbols behind another one
abbrev pub rest_bytes : Input → List ℕ
rest_bytes [] = []
rest_bytes (x ∷ i) = 32 ∷ (spelled x ++ rest_bytes i)

abbrev pub tokens : ℕ → Input → List Lexed
tokens at [] = []
tokens at (x ∷ i) = record { text = spelled x; at = at; class = class_of x } ∷ tokens (at + length (spelled x) + 1) i

no_word : (i : Input) → BeginsNot is_word_byte (rest_bytes i)
unfolding is_word_byte is_letter is_digit
no_word [] = tt
no_word (x ∷ i) = refl

no_digit : (i : Input) → BeginsNot is_digit (rest_bytes i)
unfolding is_digit
no_digit [] = tt
no_digit (x ∷ i) = refl

no_quote : (i : Input) → BeginsNot is_quote (rest_bytes i)
no_quote [] = tt
no_quote (x ∷ i) = refl

no_longer : (g : Sign) (i : Input) → BeginsNot (lengthens g) (rest_bytes i)
no_longer g [] = tt
no_longer s.Open (x ∷ i) = refl
no_longer s.Close (x ∷ i) = refl
no_longer s.Comma (x ∷ i) = refl
no_longer s.Dot (x ∷ i) = refl
no_longer s.Semicolon (x ∷ i) = refl
no_longer s.Star (x ∷ i) = refl
no_longer s.Plus (x ∷ i) = refl
no_longer s.Minus (x ∷ i) = refl
no_longer s.Eq (x ∷ i) = refl
no_longer s.Ne (x ∷ i) = refl
no_longer s.Lt (x ∷ i) = refl
no_longer s.Le (x ∷ i) = refl
no_longer s.Gt (x ∷ i) = refl
no_longer s.Ge (x ∷ i) = refl

is_its_sign : (g : Sign) → IsSign g (sign_spelling g)
is_its_sign s.Open = refl
is_its_sign s.Close = refl
is_its_sign s.Comma = refl
is_its_sign s.Dot = refl
is_its_sign s.Semicolon = refl
is_its_sign s.Star = refl
is_its_sign s.Plus = refl
is_its_sign s.Minus = refl
is_its_sign s.Eq = refl
is_its_sign s.Ne = inl refl
is_its_sign s.Lt = refl
is_its_sign s.Le = refl
is_its_sign s.Gt = refl
is_its_sign s.Ge = refl

-- letters only
abbrev IsPlainWord : List ℕ → Type 0
IsPlainWord [] = ⊥
IsPlainWord (b ∷ bytes) = (is_letter b ≡ true) × (list_all is_word_byte bytes ≡ true)

plain_word : (x : Word) → IsPlainWord (spelling x)
unfolding spelling is_word_byte is_letter is_digit
plain_word w.And = (refl, refl)
plain_word w.Asc = (refl, refl)
plain_word w.Begin = (refl, refl)
plain_word w.By = (refl, refl)
plain_word w.Commit = (refl, refl)
plain_word w.Count = (refl, refl)
plain_word w.Create = (refl, refl)
plain_word w.Delete = (refl, refl)
plain_word w.Desc = (refl, refl)
plain_word w.From = (refl, refl)
plain_word w.Insert = (refl, refl)
plain_word w.Int = (refl, refl)
plain_word w.Into = (refl, refl)
plain_word w.Is = (refl, refl)
plain_word w.Join = (refl, refl)
plain_word w.Key = (refl, refl)
plain_word w.Limit = (refl, refl)
plain_word w.Max = (refl, refl)
plain_word w.Min = (refl, refl)
plain_word w.Not = (refl, refl)
plain_word w.Null = (refl, refl)
plain_word w.On = (refl, refl)
plain_word w.Or = (refl, refl)
plain_word w.Order = (refl, refl)
plain_word w.Primary = (refl, refl)
plain_word w.Rollback = (refl, refl)
plain_word w.Select = (refl, refl)
plain_word w.Set = (refl, refl)
plain_word w.Sum = (refl, refl)
plain_word w.Table = (refl, refl)
plain_word w.Text = (refl, refl)
plain_word w.Update = (refl, refl)
plain_word w.Values = (refl, refl)
plain_word w.Where = (refl, refl)

whole_word : (bytes : List ℕ) (i : Input) → IsPlainWord bytes → IsWholeWord bytes (rest_bytes i)
whole_word [] i h = absurd h
whole_word (b ∷ bytes) i h = (h.0, h.1, no_word i)

whole_name : (n : List ℕ) (i : Input) → IsWholeWord n [] → IsWholeWord n (rest_bytes i)
whole_name [] i h = absurd h
whole_name (b ∷ n) i h = (h.0, h.1, no_word i)

digits_test : IsDigitsTest (λ ds. list_all is_digit ds ≡ true)
unfolding is_digit
digits_test = record {
  empty = refl;
  parts = λ d ds h. let p = and_parts (is_digit d) (list_all is_digit ds) h in (grind (arith, nat_tests, p.0), p.1);
  more = λ d ds r h. and_both (is_digit d) (list_all is_digit ds) (grind (arith, nat_tests, r)) h;
}

folds : FoldsDigits value_behind
folds = record { empty = λ n. refl; more = λ n d ds r. refl }

own : IsNumeralModel (λ ds. list_all is_digit ds ≡ true) value_of
own = numerals_by_fold (λ ds. list_all is_digit ds ≡ true) digits_test value_behind folds

whole_number : (ds : List ℕ) (i : Input) → 0 < length ds → list_all is_digit ds ≡ true → IsWholeNumber ds (rest_bytes i)
whole_number [] i some h = absurd (omega arith)
whole_number (d ∷ ds) i some h = let p = and_parts (is_digit d) (list_all is_digit ds) h in (p.0, p.1, no_digit i)

allowed_bound : (m : Bool) (n : ℕ) → is_allowed m n ≡ true → n < 2 ^ 64
allowed_bound m n h = let few = number_bound m n h in omega arith

token_is : (m : Bool) (x : Symbol) (i : Input) → Fits m x → IsToken m false (spelled x) (class_of x) (rest_bytes i)
token_is m (word x) i h = (whole_word (spelling x) i (plain_word x), refl, refl)
token_is m (sign x) i h = (is_its_sign x, no_longer x i)
token_is m (name n) i h = (whole_name n i h.whole, refl, h.free, h.short)
token_is m (number n) i h =
    let few = allowed_bound m n h in
    (whole_number (decimal n) i (decimal_nonempty n few) (digits_decimal own n few), subst (λ z. is_allowed m z ≡ true) (sym (digits_value-decimal own n few)) h)
token_is m (text t) i h = (t, refl, no_quote i, h)

symbol_back : (m : Bool) (x : Symbol) → Fits m x → symbol_by (class_of x) (spelled x) ≡ x
symbol_back m (word x) h = refl
symbol_back m (sign x) h = refl
symbol_back m (name n) h = ap name h.lower
symbol_back m (number n) h = ap number (digits_value-decimal own n (allowed_bound m n h))
symbol_back m (text t) h = ap text (content_of-quoted t)

pub symbols_back : (m : Bool) (at : ℕ) (i : Input) → Lexes m i → map symbol_of (tokens at i) ≡ i
symbols_back m at [] h = refl
symbols_back m at (x ∷ i) h =
    ap (λ y. y ∷ map symbol_of (tokens (at + length (spelled x) + 1) i)) (symbol_back m x h.0)
    ∙ ap (λ j. x ∷ j) (symbols_back (is_minus (Some (class_of x))) (at + length (spelled x) + 1) i h.1)

lexed_rest : (before : Class) (at : ℕ) (i : Input) → Lexes (is_minus (Some before)) i → AreTokens (Some before) at (rest_bytes i) (tokens (at + 1) i) None
unfolding is_space
lexed_rest before at [] h = refl
lexed_rest before at (x ∷ i) h = (
  record {
    spaces = 32 ∷ [];
    rest = rest_bytes i;
    whole = refl;
    blank = refl;
    place = refl;
    token = token_is (is_minus (Some before)) x i h.0;
  },
  lexed_rest (class_of x) (at + 1 + length (spelled x)) i h.1,
)

pub lexed_first : (x : Symbol) (i : Input) → Lexes false (x ∷ i) → AreTokensOf (spelled x ++ rest_bytes i) (tokens 0 (x ∷ i)) None
lexed_first x i h = (
  record {
    spaces = [];
    rest = rest_bytes i;
    whole = refl;
    blank = refl;
    place = refl;
    token = token_is false x i h.0;
  },
  lexed_rest (class_of x) (0 + length (spelled x)) i h.1,
)

-- ---- the text

spaced_more : (out : List ℕ) → 0 < length out → spaced out ≡ out ++ 32 ∷ []
unfolding spaced
spaced_more [] h = absurd (omega arith)
spaced_more (b ∷ out) h = refl

written_rest : (out : List ℕ) (i : Input) → 0 < length out → written out i ≡ out ++ rest_bytes i
written_rest out [] h = sym (append-nil out)
written_rest out (x ∷ i) h =
    ap (λ z. written (z ++ spelled x) i) (spaced_more out h)
    ∙ written_rest ((out ++ 32 ∷ []) ++ spelled x) i (omega (arith, length-append (out ++ 32 ∷ []) (spelled x), length-append out (32 ∷ [])))
    ∙ append_assoc (out ++ 32 ∷ []) (spelled x) (rest_bytes i) ∙ append_assoc out (32 ∷ []) (spelled x ++ rest_bytes i)

spelled_some : (m : Bool) (x : Symbol) → Fits m x → 0 < length (spelled x)
spelled_some m (word x) h = some (spelling x) (plain_word x) where
  some : (bytes : List ℕ) → IsPlainWord bytes → 0 < length bytes
  some [] e = absurd e
  some (b ∷ bytes) e = omega arith
spelled_some m (sign x) h = some x where
  some : (g : Sign) → 0 < length (sign_spelling g)
  some s.Open = omega arith
  some s.Close = omega arith
  some s.Comma = omega arith
  some s.Dot = omega arith
  some s.Semicolon = omega arith
  some s.Star = omega arith
  some s.Plus = omega arith
  some s.Minus = omega arith
  some s.Eq = omega arith
  some s.Ne = omega arith
  some s.Lt = omega arith
  some s.Le = omega arith
  some s.Gt = omega arith
  some s.Ge = omega arith
spelled_some m (name n) h = some n h.whole where
  some : (n : List ℕ) → IsWholeWord n [] → 0 < length n
  some [] e = absurd e
  some (b ∷ n) e = omega arith
spelled_some m (number n) h = decimal_nonempty n (allowed_bound m n h)
spelled_some m (text t) h = omega arith

written_first : (x : Symbol) (i : Input) → Fits false x → written [] (x ∷ i) ≡ spelled x ++ rest_bytes i
unfolding spaced
written_first x i h = written_rest (spelled x) i (spelled_some false x h)

-- the tokens of what is written
pub written_lexes : (i : Input) → Lexes false i → AreTokensOf (written [] i) (tokens 0 i) None
written_lexes [] h = refl
written_lexes (x ∷ i) h = subst (λ z. AreTokensOf z (tokens 0 (x ∷ i)) None) (sym (written_first x i h.0)) (lexed_first x i h)
