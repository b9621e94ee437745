-- Stated: the signs of SQL.
use Rattle.std.specs.Prelude.{◌≡◌, ℕ, Bool, false, ◌||◌, ◌==◌, List, ◌⊎◌, codes}
use Rattle.sql_words.specs.declared.signs.Sign.{Sign}
use Rattle.sql_words.specs.declared.signs.Sign.TheVariants.{Open, Close, Comma, Dot, Semicolon, Star, Plus, Minus, Eq, Ne, Lt, Le, Gt, Ge}

-- the sign as it is printed
abbrev pub sign_spelling : Sign → List ℕ
sign_spelling Open = codes "("
sign_spelling Close = codes ")"
sign_spelling Comma = codes ","
sign_spelling Dot = codes "."
sign_spelling Semicolon = codes ";"
sign_spelling Star = codes "*"
sign_spelling Plus = codes "+"
sign_spelling Minus = codes "-"
sign_spelling Eq = codes "="
sign_spelling Ne = codes "<>"
sign_spelling Lt = codes "<"
sign_spelling Le = codes "<="
sign_spelling Gt = codes ">"
sign_spelling Ge = codes ">="

-- the bytes are the sign; that two differ is also written `!=`
abbrev pub IsSign : Sign → List ℕ → Type 0
IsSign Ne bytes = (bytes ≡ codes "<>") ⊎ (bytes ≡ codes "!=")
IsSign Open bytes = bytes ≡ codes "("
IsSign Close bytes = bytes ≡ codes ")"
IsSign Comma bytes = bytes ≡ codes ","
IsSign Dot bytes = bytes ≡ codes "."
IsSign Semicolon bytes = bytes ≡ codes ";"
IsSign Star bytes = bytes ≡ codes "*"
IsSign Plus bytes = bytes ≡ codes "+"
IsSign Minus bytes = bytes ≡ codes "-"
IsSign Eq bytes = bytes ≡ codes "="
IsSign Lt bytes = bytes ≡ codes "<"
IsSign Le bytes = bytes ≡ codes "<="
IsSign Gt bytes = bytes ≡ codes ">"
IsSign Ge bytes = bytes ≡ codes ">="

-- whether the byte behind the sign makes a longer one
abbrev pub lengthens : Sign → ℕ → Bool
lengthens Lt b = b == 61 || b == 62
lengthens Gt b = b == 61
lengthens Open b = false
lengthens Close b = false
lengthens Comma b = false
lengthens Dot b = false
lengthens Semicolon b = false
lengthens Star b = false
lengthens Plus b = false
lengthens Minus b = false
lengthens Eq b = false
lengthens Ne b = false
lengthens Le b = false
lengthens Ge b = false
