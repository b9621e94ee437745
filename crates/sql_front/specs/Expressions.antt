-- Stated: the grammar of expressions: which symbols are an expression of which level, and what it means.
use Rattle.std.specs.Prelude.{ℕ, ◌<◌, ◌≤◌, ◌^◌, length, true, false, List, [], ◌∷◌, ◌++◌, Some, None, pos, neg_ℤ}
use Rattle.rm_base.specs.declared.limits.TheConstants.{MAX_STATEMENT_TOKENS}
use Rattle.sql_values.specs.declared.values.Value.TheVariants as value
use Rattle.sql_words.specs.declared.reserved.Word.TheVariants as w
use Rattle.sql_words.specs.declared.signs.Sign.TheVariants as s
use Rattle.sql_statements.specs.declared.expressions.Expr.{Expr}
use Rattle.sql_statements.specs.declared.expressions.Expr.TheVariants.{Lit, Col, Neg, Not, IsNull, Two}
use Rattle.sql_statements.specs.declared.expressions.Op.{Op}
use Rattle.sql_statements.specs.declared.expressions.Op.TheVariants as op
use Rattle.sql_front.specs.declared.levels.Level.{Level}
use Rattle.sql_front.specs.declared.levels.Level.TheVariants as level
use Rattle.sql_front.specs.Rules.{Rule}
use Rattle.sql_front.specs.Symbols.{Symbol, word, sign, name, number, text, Input}

-- the operators of each level
pub data Joins : Level → Symbol → Op → Type 0 where
  or : Joins level.Or (word w.Or) op.Or
  and : Joins level.And (word w.And) op.And
  plus : Joins level.Sum (sign s.Plus) op.Add
  minus : Joins level.Sum (sign s.Minus) op.Sub
  times : Joins level.Product (sign s.Star) op.Mul

pub data Compares : Symbol → Op → Type 0 where
  eq : Compares (sign s.Eq) op.Eq
  ne : Compares (sign s.Ne) op.Ne
  lt : Compares (sign s.Lt) op.Lt
  le : Compares (sign s.Le) op.Le
  gt : Compares (sign s.Gt) op.Gt
  ge : Compares (sign s.Ge) op.Ge

-- A part of an expression: a row of operands with operators of one level, or one of the three kinds of
-- operand that have none.
pub data Part : Type 0 where
  row : Level → Part
  negation : Part
  test : Part
  unit : Part

-- what stands between the operators of a level: OR, then AND, then NOT and tests; + and -, then *, then units
abbrev pub under : Level → Part
under level.Or = row level.And
under level.And = negation
under level.Sum = row level.Product
under level.Product = unit

-- no number comes first
abbrev pub BeginsNoNumber : Input → Type 0
BeginsNoNumber [] = Unit {0}
BeginsNoNumber (number n ∷ i) = ⊥
BeginsNoNumber (word x ∷ i) = Unit {0}
BeginsNoNumber (sign x ∷ i) = Unit {0}
BeginsNoNumber (name x ∷ i) = Unit {0}
BeginsNoNumber (text x ∷ i) = Unit {0}

pub data Means : Part → Input → Expr → Type 0 where
  -- operators group to the left
  operand : {l : Level} {a : Input} {x : Expr} → Means (under l) a x → Means (row l) a x
  joined : {l : Level} {o : Op} {a b : Input} {t : Symbol} {x y : Expr} → Joins l t o → Means (row l) a x → Means (under l) b y → Means (row l) (a ++ t ∷ b) (Two o x y)
  -- NOT, and what stands behind it
  negated : {a : Input} {x : Expr} → Means negation a x → Means negation (word w.Not ∷ a) (Not x)
  tested : {a : Input} {x : Expr} → Means test a x → Means negation a x
  -- a sum, a comparison of two, and IS NULL
  summed : {a : Input} {x : Expr} → Means (row level.Sum) a x → Means test a x
  compared : {o : Op} {a b : Input} {t : Symbol} {x y : Expr} → Compares t o → Means (row level.Sum) a x → Means (row level.Sum) b y → Means test (a ++ t ∷ b) (Two o x y)
  is_null : {a : Input} {x : Expr} → Means (row level.Sum) a x → Means test (a ++ word w.Is ∷ word w.Null ∷ []) (IsNull x false)
  is_not_null : {a : Input} {x : Expr} → Means (row level.Sum) a x → Means test (a ++ word w.Is ∷ word w.Not ∷ word w.Null ∷ []) (IsNull x true)
  -- literals; a minus directly before a number belongs to it
  a_number : {n : ℕ} → n < 2 ^ 63 → Means unit (number n ∷ []) (Lit (value.Int (pos n)))
  a_negative : {n : ℕ} → Means unit (sign s.Minus ∷ number n ∷ []) (Lit (value.Int (neg_ℤ (pos n))))
  a_text : {t : List ℕ} → Means unit (text t ∷ []) (Lit (value.Text t))
  a_null : Means unit (word w.Null ∷ []) (Lit value.Null)
  -- columns
  a_column : {c : List ℕ} → Means unit (name c ∷ []) (Col None c)
  of_table : {t c : List ℕ} → Means unit (name t ∷ sign s.Dot ∷ name c ∷ []) (Col (Some t) c)
  -- a minus before anything else, and brackets
  minus : {a : Input} {x : Expr} → BeginsNoNumber a → Means unit a x → Means unit (sign s.Minus ∷ a) (Neg x)
  group : {a : Input} {x : Expr} → Means (row level.Or) a x → Means unit (sign s.Open ∷ a ++ sign s.Close ∷ []) x

-- an expression has at most 256 symbols
abbrev pub an_expression : Rule Expr
an_expression k i x = Means (row level.Or) i x × (MAX_STATEMENT_TOKENS < k → length i ≤ MAX_STATEMENT_TOKENS)
