-- Stated: the tokens from one place up to another.
use Rattle.std.specs.Prelude.{ℕ, ◌≤◌, List, map, length, take, drop}
use Rattle.sql_words.specs.Lexed.{Lexed}
use Rattle.sql_front.specs.Good.{AreGood}
use Rattle.sql_front.specs.Symbols.{Symbol, symbol_of}

-- what the tokens from `at` up to `end` stand for
unfoldable pub symbols_left : List Lexed → ℕ → ℕ → List Symbol
symbols_left tokens at end = map symbol_of (drop at (take end tokens))

pub record IsCursor (tokens : List Lexed) (at end : ℕ) : Type 0 where
  pub good : AreGood tokens
  pub order : at ≤ end
  pub within : end ≤ length tokens
