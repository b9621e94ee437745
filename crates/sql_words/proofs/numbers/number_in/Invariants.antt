use Rattle.std.proofs.Common.{◌≡◌, drop}
use Rattle.sql_words.specs.Front.{value_behind, value_of}
use Rattle.sql_words.proofs.numbers.number_in.Given as goal

-- the digits that are left go on with the number so far
abbrev pub invariant-loop-digit : goal.invariant-loop-digit
invariant-loop-digit l = value_behind l.number (drop l.digit-index l.digits) ≡ value_of l.digits
