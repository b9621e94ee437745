-- Stated: A token as contracts see it.
use Rattle.std.specs.Prelude.{ℕ, List}
use Rattle.sql_words.specs.declared.tokens.Class.{Class}

-- the token's bytes, the offset of the first of them, and what it is
pub record Lexed : Type 0 where
  pub text : List ℕ
  pub at : ℕ
  pub class : Class
