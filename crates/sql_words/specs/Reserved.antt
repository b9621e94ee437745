-- Stated: the words that SQL reserves.
use Rattle.std.specs.Prelude.{ℕ, List, [], ◌∷◌, Option, map, find, codes}
use Rattle.std.specs.Str.{bytes_eq}
use Rattle.std.specs.Char.{to_ascii_lowercase}
use Rattle.sql_words.specs.declared.reserved.Word.{Word}
use Rattle.sql_words.specs.declared.reserved.Word.TheVariants.{And, Asc, Begin, By, Commit, Count, Create, Delete, Desc, From, Insert, Int, Into, Is, Join, Key, Limit, Max, Min, Not, Null, On, Or, Order, Primary, Rollback, Select, Set, Sum, Table, Text, Update, Values, Where}

-- the word in upper case
unfoldable pub spelling : Word → List ℕ
spelling And = codes "AND"
spelling Asc = codes "ASC"
spelling Begin = codes "BEGIN"
spelling By = codes "BY"
spelling Commit = codes "COMMIT"
spelling Count = codes "COUNT"
spelling Create = codes "CREATE"
spelling Delete = codes "DELETE"
spelling Desc = codes "DESC"
spelling From = codes "FROM"
spelling Insert = codes "INSERT"
spelling Int = codes "INT"
spelling Into = codes "INTO"
spelling Is = codes "IS"
spelling Join = codes "JOIN"
spelling Key = codes "KEY"
spelling Limit = codes "LIMIT"
spelling Max = codes "MAX"
spelling Min = codes "MIN"
spelling Not = codes "NOT"
spelling Null = codes "NULL"
spelling On = codes "ON"
spelling Or = codes "OR"
spelling Order = codes "ORDER"
spelling Primary = codes "PRIMARY"
spelling Rollback = codes "ROLLBACK"
spelling Select = codes "SELECT"
spelling Set = codes "SET"
spelling Sum = codes "SUM"
spelling Table = codes "TABLE"
spelling Text = codes "TEXT"
spelling Update = codes "UPDATE"
spelling Values = codes "VALUES"
spelling Where = codes "WHERE"

-- the words in the order of the alphabet
abbrev pub all_words : List Word
all_words = And ∷ Asc ∷ Begin ∷ By ∷ Commit ∷ Count ∷ Create ∷ Delete ∷ Desc ∷ From ∷ Insert ∷ Int ∷ Into ∷ Is ∷ Join ∷ Key ∷ Limit ∷ Max ∷ Min ∷ Not ∷ Null ∷ On ∷ Or ∷ Order ∷ Primary ∷ Rollback ∷ Select ∷ Set ∷ Sum ∷ Table ∷ Text ∷ Update ∷ Values ∷ Where ∷ []

-- a word's bytes, where case makes no difference
abbrev pub lowered : List ℕ → List ℕ
lowered text = map to_ascii_lowercase text

-- the reserved word that the bytes are
unfoldable pub word_of : List ℕ → Option Word
word_of text = find (λ w. bytes_eq (lowered (spelling w)) (lowered text)) all_words
