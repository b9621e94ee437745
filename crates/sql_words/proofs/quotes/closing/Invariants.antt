use Rattle.std.proofs.Common.{◌≡◌, ◌+◌, ◌-◌, length, drop}
use Rattle.std.specs.Option.{option_map}
use Rattle.sql_words.specs.Front.{closing}
use Rattle.sql_words.proofs.quotes.closing.Given as goal

-- what is left has the closing quote so many bytes sooner
abbrev pub invariant-loop-at : goal.invariant-loop-at
invariant-loop-at l = option_map (λ n. n + l.at) (closing (drop l.at l.bytes)) ≡ closing l.bytes

abbrev pub decreases-loop-at : goal.decreases-loop-at
decreases-loop-at l = length l.bytes - l.at
