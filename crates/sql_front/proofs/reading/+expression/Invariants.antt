use Rattle.std.proofs.Common.{◌≡◌, ◌+◌, ◌-◌, ◌*◌}
use Rattle.sql_front.specs.ReadExpr.{chain, chain_from, operand}
use Rattle.sql_front.proofs.Ranks.{chain_rank, operand_rank}
use Rattle.sql_front.proofs.reading.+expression.Given as goal

abbrev pub decreases-whole : goal.decreases-whole
decreases-whole l = l.room * 16 + 13

abbrev pub decreases-chain : goal.decreases-chain
decreases-chain l = l.room * 16 + chain_rank l.level

abbrev pub decreases-operand : goal.decreases-operand
decreases-operand l = l.room * 16 + operand_rank l.level

abbrev pub decreases-negation : goal.decreases-negation
decreases-negation l = l.room * 16 + 8

abbrev pub decreases-test : goal.decreases-test
decreases-test l = l.room * 16 + 7

abbrev pub decreases-unit : goal.decreases-unit
decreases-unit l = l.room * 16 + 2

abbrev pub decreases-minus : goal.decreases-minus
decreases-minus l = l.room * 16 + 3

abbrev pub decreases-group : goal.decreases-group
decreases-group l = l.room * 16 + 14

-- what is read from here on is what is read in all
abbrev pub invariant-chain-loop-turn : goal.invariant-chain-loop-turn
invariant-chain-loop-turn l =
    chain l.level (operand l.level l.room) l.room l.fn.input ≡ chain_from l.level (operand l.level l.room) (l.room - l._turn) l.left l.input
