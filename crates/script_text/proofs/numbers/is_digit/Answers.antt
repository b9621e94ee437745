use Rattle.std.proofs.Common.{arith}
use Rattle.std.proofs.lemmas.Bool.Decides.{nat_tests}
use Rattle.sql_words.specs.Bytes.{is_digit}
use Rattle.script_text.proofs.numbers.is_digit.Goals as goal

pub returns-then-byte-ge48 : goal.returns-then-byte-ge48
unfolding is_digit
returns-then-byte-ge48 c = grind (arith, nat_tests)

pub returns-else-byte-ge48 : goal.returns-else-byte-ge48
unfolding is_digit
returns-else-byte-ge48 c = grind (arith, nat_tests)
