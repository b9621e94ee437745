-- Stated: the symbols of the grammar: what the tokens of a text stand for.
use Rattle.std.specs.Prelude.{ℕ, ◌+◌, Bool, false, if◌then◌else◌, ◌==◌, List, [], ◌∷◌, drop}
use Rattle.sql_words.specs.declared.reserved.Word.{Word}
use Rattle.sql_words.specs.declared.reserved.Word.TheVariants as w
use Rattle.sql_words.specs.declared.signs.Sign.{Sign}
use Rattle.sql_words.specs.declared.signs.Sign.TheVariants as s
use Rattle.sql_words.specs.declared.tokens.Class.{Class}
use Rattle.sql_words.specs.declared.tokens.Class.TheVariants as c
use Rattle.sql_words.specs.Bytes.{is_quote}
use Rattle.sql_words.specs.Front.{value_of}
use Rattle.sql_words.specs.Lexed.{Lexed}
use Rattle.sql_words.specs.Reserved.{lowered}

-- A symbol is a reserved word, a sign, a name in lower case, a number or the content of a text.
pub data Symbol : Type 0 where
  word : Word → Symbol
  sign : Sign → Symbol
  name : List ℕ → Symbol
  number : ℕ → Symbol
  text : List ℕ → Symbol

-- what is left of a statement to read
abbrev pub Input : Type 0
Input = List Symbol

-- the content of a text token, without its quotes: two quotes in a row are one
abbrev pub content_behind : List ℕ → List ℕ
content_behind [] = []
content_behind (b ∷ []) = []
content_behind (b ∷ d ∷ bytes) = if is_quote b then b ∷ content_behind bytes else b ∷ content_behind (d ∷ bytes)

abbrev pub symbol_by : Class → List ℕ → Symbol
symbol_by (c.Reserved x) bytes = word x
symbol_by c.Name bytes = name (lowered bytes)
symbol_by c.Number bytes = number (value_of bytes)
symbol_by c.Text bytes = text (content_behind (drop 1 bytes))
symbol_by (c.Sign x) bytes = sign x

-- what a token stands for
abbrev pub symbol_of : Lexed → Symbol
symbol_of t = symbol_by t.class t.text

abbrev pub class_of : Symbol → Class
class_of (word x) = c.Reserved x
class_of (sign x) = c.Sign x
class_of (name x) = c.Name
class_of (number n) = c.Number
class_of (text x) = c.Text

-- a number for each reserved word, sign and class, by which they are compared
abbrev pub word_code : Word → ℕ
word_code w.And = 0
word_code w.Asc = 1
word_code w.Begin = 2
word_code w.By = 3
word_code w.Commit = 4
word_code w.Count = 5
word_code w.Create = 6
word_code w.Delete = 7
word_code w.Desc = 8
word_code w.From = 9
word_code w.Insert = 10
word_code w.Int = 11
word_code w.Into = 12
word_code w.Is = 13
word_code w.Join = 14
word_code w.Key = 15
word_code w.Limit = 16
word_code w.Max = 17
word_code w.Min = 18
word_code w.Not = 19
word_code w.Null = 20
word_code w.On = 21
word_code w.Or = 22
word_code w.Order = 23
word_code w.Primary = 24
word_code w.Rollback = 25
word_code w.Select = 26
word_code w.Set = 27
word_code w.Sum = 28
word_code w.Table = 29
word_code w.Text = 30
word_code w.Update = 31
word_code w.Values = 32
word_code w.Where = 33

abbrev pub sign_code : Sign → ℕ
sign_code s.Open = 0
sign_code s.Close = 1
sign_code s.Comma = 2
sign_code s.Dot = 3
sign_code s.Semicolon = 4
sign_code s.Star = 5
sign_code s.Plus = 6
sign_code s.Minus = 7
sign_code s.Eq = 8
sign_code s.Ne = 9
sign_code s.Lt = 10
sign_code s.Le = 11
sign_code s.Gt = 12
sign_code s.Ge = 13

abbrev pub class_code : Class → ℕ
class_code c.Name = 0
class_code c.Number = 1
class_code c.Text = 2
class_code (c.Sign x) = sign_code x + 3
class_code (c.Reserved x) = word_code x + 17

unfoldable pub same_class : Class → Class → Bool
same_class a b = class_code a == class_code b

-- whether the next symbol is of the class
unfoldable pub sees : Class → Input → Bool
sees c [] = false
sees c (x ∷ i) = same_class c (class_of x)

-- what is left behind the next symbol
abbrev pub behind : Input → Input
behind [] = []
behind (x ∷ i) = i
