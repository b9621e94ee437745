-- Stated: which text is which statement, and where a text is wrong.
use Rattle.std.specs.Prelude.{◌≡◌, ℕ, ◌<◌, ◌≤◌, nat_lt, min, if◌then◌else◌, List, [], ◌∷◌, ◌++◌, length, map, Option, Some, None, Result, Ok, Err}
use Rattle.rm_base.specs.declared.limits.TheConstants.{MAX_STATEMENT_BYTES}
use Rattle.sql_statements.specs.declared.statements.Stmt.{Stmt}
use Rattle.sql_words.specs.Lexed.{Lexed}
use Rattle.sql_words.specs.Tokens.{AreTokensOf}
use Rattle.sql_front.specs.Grammar.{a_statement, IsStatement}
use Rattle.sql_front.specs.ReadStmt.{statement}
use Rattle.sql_front.specs.Symbols.{Symbol, Input, symbol_of}

-- a text is a statement by its tokens, and has at most 65,536 bytes
pub record IsSql (sql : List ℕ) (s : Stmt) : Type 0 where
  pub tokens : List Lexed
  pub lexed : AreTokensOf sql tokens None
  pub short : length sql ≤ MAX_STATEMENT_BYTES
  pub means : IsStatement (map symbol_of tokens) s

-- further symbols make a statement of these, which keeps its conditions at these
abbrev pub BeginStatement : List Symbol → Type 0
BeginStatement ts = (more : List Symbol) × (s : Stmt) × a_statement (length ts) (ts ++ more) s

-- the offsets at which a text is wrong: a byte that begins no token, a token with which no statement begins
-- or goes on, the end of tokens that are no statement, and the 65,537th byte
pub data IsWrongAt (sql : List ℕ) : ℕ → Type 0 where
  no_token : (ts : List Lexed) {at : ℕ} → AreTokensOf sql ts (Some at) → IsWrongAt sql at
  no_statement : (before after : List Lexed) (t : Lexed) (fault : Option ℕ) → AreTokensOf sql (before ++ t ∷ after) fault → (BeginStatement (map symbol_of (before ++ t ∷ [])) → ⊥) → IsWrongAt sql t.at
  unfinished : (ts : List Lexed) → AreTokensOf sql ts None → ((s : Stmt) → IsStatement (map symbol_of ts) s → ⊥) → IsWrongAt sql (length sql)
  too_long : MAX_STATEMENT_BYTES < length sql → IsWrongAt sql MAX_STATEMENT_BYTES

-- the first of these
abbrev pub IsFirst : (ℕ → Type 0) → ℕ → Type 0
IsFirst wrong at = wrong at × ((q : ℕ) → wrong q → at ≤ q)

-- a text is read as a statement, or is first wrong at an offset
abbrev pub Reads : List ℕ → Result Stmt ℕ → Type 0
Reads text (Ok s) = IsSql text s
Reads text (Err at) = IsFirst (IsWrongAt text) at

-- a text is read in one way
abbrev pub HaveOneReading : Type 0
HaveOneReading = (text : List ℕ) (a b : Result Stmt ℕ) → Reads text a → Reads text b → a ≡ b

-- symbols are one statement at most
abbrev pub HaveOneMeaning : Type 0
HaveOneMeaning = (ts : List Symbol) (s t : Stmt) → IsStatement ts s → IsStatement ts t → s ≡ t

-- the offset of the next token, or of the end of the tokens
abbrev pub place : List Lexed → ℕ → ℕ
place [] end = end
place (t ∷ ts) end = t.at

-- no offset is past the most bytes of a statement
unfoldable pub limited : ℕ → ℕ → ℕ
limited len at = if nat_lt MAX_STATEMENT_BYTES len then min at MAX_STATEMENT_BYTES else at

-- all tokens are a statement, or the reader stops before the last so many of them
abbrev pub ReadsAll : Input → Result Stmt ℕ → Type 0
ReadsAll ts (Ok s) = statement ts ≡ Ok (s, [])
ReadsAll ts (Err left) = (i : Input) × (statement ts ≡ Err i) × (length i ≡ left)
