use Rattle.std.proofs.Common.{drop, arith, length-drop}
use Rattle.sql_words.proofs.Runs.{each_passes, digit_from, value_behind-more}
use Rattle.sql_words.proofs.numbers.number_in.Goals as goal

pub returns-then-number : goal.returns-then-number
returns-then-number c =
    let left = drop c.loop-digit.digit-index c.args.digits.now in
    let more = value_behind-more c.loop-digit.number left (omega (arith, length-drop c.loop-digit.digit-index c.args.digits.now)) in
    λ h. omega (arith, more, c.loop-digit.invariant)

pub overflow_sub-digit : goal.overflow_sub-digit
overflow_sub-digit c = digit_from _ (each_passes _ c.args.digits.now c.loop-digit.digit-index c.requires (omega arith))
