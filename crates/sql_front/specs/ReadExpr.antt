-- Stated: how expressions are read, by levels. The number bounds how deep they nest and how many operators stand in a
-- row; it is no less than the symbols that are left, so it never runs out first.
use Rattle.std.specs.Prelude.{ℕ, zero, suc, Bool, true, false, ◌&&◌, ◌||◌, if◌then◌else◌, List, [], ◌∷◌, ◌++◌, take, drop, Option, Some, None, Ok, Err, is_some}
use Rattle.rm_base.specs.declared.limits.TheConstants.{MAX_STATEMENT_TOKENS}
use Rattle.sql_values.specs.declared.values.Value.TheVariants as value
use Rattle.sql_words.specs.declared.reserved.Word.TheVariants as w
use Rattle.sql_words.specs.declared.signs.Sign.TheVariants as s
use Rattle.sql_words.specs.declared.tokens.Class.TheVariants as c
use Rattle.sql_statements.specs.declared.expressions.Expr.{Expr}
use Rattle.sql_statements.specs.declared.expressions.Expr.TheVariants.{Lit, Col, Neg, Not, IsNull, Two}
use Rattle.sql_statements.specs.declared.expressions.Op.{Op}
use Rattle.sql_statements.specs.declared.expressions.Op.TheVariants as op
use Rattle.sql_front.specs.declared.levels.Level.{Level}
use Rattle.sql_front.specs.declared.levels.Level.TheVariants as level
use Rattle.sql_front.specs.Symbols.{Input, sees, behind}
use Rattle.sql_front.specs.Input.{Outcome, Reader, ◌>>=◌, ◌>>◌, pure, refuse, expect, eat, any_name, small_number, negative_number, text_value}

-- the operator of the level that comes next
unfoldable pub operator : Level → Input → Option Op
operator level.Or i = if sees (c.Reserved w.Or) i then Some op.Or else None
operator level.And i = if sees (c.Reserved w.And) i then Some op.And else None
operator level.Sum i = if sees (c.Sign s.Plus) i then Some op.Add else (if sees (c.Sign s.Minus) i then Some op.Sub else None)
operator level.Product i = if sees (c.Sign s.Star) i then Some op.Mul else None

-- the comparison that comes next
unfoldable pub comparison : Input → Option Op
comparison i =
    if sees (c.Sign s.Eq) i then Some op.Eq
    else (if sees (c.Sign s.Ne) i then Some op.Ne
    else (if sees (c.Sign s.Lt) i then Some op.Lt
    else (if sees (c.Sign s.Le) i then Some op.Le
    else (if sees (c.Sign s.Gt) i then Some op.Gt
    else (if sees (c.Sign s.Ge) i then Some op.Ge else None)))))

-- a column, with its table and a dot where these are written
unfoldable pub column : Reader (Option (List ℕ) × List ℕ)
column = do
  first ← any_name
  dotted ← eat (c.Sign s.Dot)
  if dotted then (do second ← any_name; pure (Some first, second)) else pure (None, first)

-- an expression of one symbol, or a column
unfoldable pub leaf : Reader Expr
leaf i =
    if sees c.Number i then (do n ← small_number; pure (Lit (value.Int n))) i
    else (if sees c.Text i then (do t ← text_value; pure (Lit (value.Text t))) i
    else (if sees (c.Reserved w.Null) i then Ok (Lit value.Null, behind i)
    else (do col ← column; pure (Col col.0 col.1)) i))

-- an operator and its right side, if an operator comes next
abbrev pub further : Option Op → (Op → Reader Expr) → Expr → Reader Expr
further None more left = pure left
further (Some o) more left = λ i. more o (behind i)

-- operators of one level, each with an operand behind it, grouped to the left
unfoldable pub chain_from : Level → Reader Expr → ℕ → Expr → Reader Expr
chain_from l operand zero left = pure left
chain_from l operand (suc n) left = λ i. further (operator l i) (λ o. operand >>= λ right. chain_from l operand n (Two o left right)) left i

unfoldable pub chain : Level → Reader Expr → ℕ → Reader Expr
chain l operand n = operand >>= chain_from l operand n

-- behind IS
unfoldable pub null_test : Expr → Reader Expr
null_test left = do
  is_not ← eat (c.Reserved w.Not)
  expect (c.Reserved w.Null)
  pure (IsNull left is_not)

abbrev pub tested : Option Op → Reader Expr → Expr → Reader Expr
tested (Some o) operand left = λ i. (do right ← operand; pure (Two o left right)) (behind i)
tested None operand left = λ i. if sees (c.Reserved w.Is) i then null_test left (behind i) else Ok (left, i)

unfoldable pub test_of : Reader Expr → Reader Expr
test_of operand = operand >>= λ left. λ i. tested (comparison i) operand left i

unfoldable pub negation_of : Reader Expr → Reader Expr → Reader Expr
negation_of inner test = λ i. if sees (c.Reserved w.Not) i then (do e ← inner; pure (Not e)) (behind i) else test i

-- behind a minus
unfoldable pub minus_of : Reader Expr → Reader Expr
minus_of inner = λ i. if sees c.Number i then (do n ← negative_number; pure (Lit (value.Int n))) i else (do e ← inner; pure (Neg e)) i

-- behind an opening bracket
unfoldable pub group_of : Reader Expr → Reader Expr
group_of whole = do
  e ← whole
  expect (c.Sign s.Close)
  pure e

unfoldable pub unit_of : Reader Expr → Reader Expr → Reader Expr
unit_of inner whole = λ i.
    if sees (c.Sign s.Minus) i then minus_of inner (behind i)
    else (if sees (c.Sign s.Open) i then group_of whole (behind i) else leaf i)

-- the levels above a unit
abbrev pub products_of : Reader Expr → ℕ → Reader Expr
products_of unit n = chain level.Product unit n

abbrev pub sums_of : Reader Expr → ℕ → Reader Expr
sums_of unit n = chain level.Sum (products_of unit n) n

abbrev pub tests_of : Reader Expr → ℕ → Reader Expr
tests_of unit n = test_of (sums_of unit n)

abbrev pub whole_of : Reader Expr → ℕ → Reader Expr
whole_of negation n = chain level.Or (chain level.And negation n) n

unfoldable mutual
  pub unit : ℕ → Reader Expr
  unit zero = refuse
  unit (suc n) = unit_of (unit n) (whole n)

  pub negation : ℕ → Reader Expr
  negation zero = refuse
  negation (suc n) = negation_of (negation n) (tests_of (unit_of (unit n) (whole n)) (suc n))

  pub whole : ℕ → Reader Expr
  whole zero = refuse
  whole (suc n) = whole_of (negation_of (negation n) (tests_of (unit_of (unit n) (whole n)) (suc n))) (suc n)

-- what stands between the operators of a level
abbrev pub operand : Level → ℕ → Reader Expr
operand level.Or n = chain level.And (negation n) n
operand level.And n = negation n
operand level.Sum n = chain level.Product (unit n) n
operand level.Product n = unit n

abbrev pub test : ℕ → Reader Expr
test n = test_of (chain level.Sum (operand level.Sum n) n)

-- whether what comes next goes on with an expression
unfoldable pub goes_on : Input → Bool
goes_on i =
    is_some (operator level.Or i) || is_some (operator level.And i) || is_some (comparison i) || sees (c.Reserved w.Is) i
    || is_some (operator level.Sum i) || is_some (operator level.Product i) || sees (c.Sign s.Dot) i

abbrev pub is_end : Input → Bool
is_end [] = true
is_end (x ∷ i) = false

-- what was read of the first symbols, before those beyond them
abbrev pub limited : Outcome Expr → Input → Outcome Expr
limited (Ok p) beyond = if is_end p.1 && goes_on beyond then Err beyond else Ok (p.0, p.1 ++ beyond)
limited (Err i) beyond = Err (i ++ beyond)

-- an expression of at most 256 symbols; the 257th is refused where it would go on with one
unfoldable pub expression : Reader Expr
expression i = limited (whole MAX_STATEMENT_TOKENS (take MAX_STATEMENT_TOKENS i)) (drop MAX_STATEMENT_TOKENS i)
