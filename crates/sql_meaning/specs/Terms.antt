-- Stated: expressions with places in place of names, as plain trees.
use Rattle.std.specs.Prelude.{ℕ, Bool}
use Rattle.sql_values.specs.declared.values.Value.{Value}
use Rattle.sql_statements.specs.declared.expressions.Op.{Op}
use Rattle.sql_meaning.specs.declared.resolved.Resolved.{Resolved}
use Rattle.sql_meaning.specs.declared.resolved.Resolved.TheOpen.{Resolved-F}
use Rattle.sql_meaning.specs.declared.resolved.Resolved.TheFolds.{fold-Resolved}

pub data Term : Type 0 where
  lit : Value → Term
  cell : ℕ → Term
  neg : Term → Term
  opposite_of : Term → Term
  is_null : Term → Bool → Term
  two : Op → Term → Term → Term

abbrev pub term_step : Resolved-F Term → Term
term_step (Resolved-F.Lit v) = lit v
term_step (Resolved-F.Cell p) = cell p
term_step (Resolved-F.Neg x) = neg x
term_step (Resolved-F.Not x) = opposite_of x
term_step (Resolved-F.IsNull x n) = is_null x n
term_step (Resolved-F.Two op x y) = two op x y

-- the tree that an expression is
abbrev pub term : Resolved → Term
term = fold-Resolved Term term_step
