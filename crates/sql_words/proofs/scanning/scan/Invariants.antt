use Rattle.std.proofs.Common.{◌≡◌, ℕ, ◌+◌, List, ◌++◌, length, Option}
use Rattle.sql_words.specs.Lexed.{Lexed}
use Rattle.sql_words.specs.Tokens.{AreTokens, AreTokensOf}
use Rattle.sql_words.proofs.scanning.scan.Given as goal

-- what are the tokens of the rest goes on with those so far
abbrev pub invariant-tokens : goal.invariant-tokens
invariant-tokens l = record {
  within : l.at + length l.rest ≡ length l.text;
  tokens : (ts : List Lexed) (p : Option ℕ) → AreTokens l.before l.at l.rest ts p → AreTokensOf l.text (l.tokens ++ ts) p;
}

abbrev pub decreases-tokens : goal.decreases-tokens
decreases-tokens l = length l.rest
