use Rattle.std.proofs.Common.{rules, arith}
use Rattle.std.proofs.lemmas.Grind.{common_steps}
use Rattle.sql_front.specs.ReadExpr.{chain_from, operand}
use Rattle.sql_front.proofs.Turns.{turn_left, no_turn}
use Rattle.sql_front.proofs.reading.+expression.Goals as goal

pub chain-returns-in_default : goal.chain-returns-in_default
unfolding chain_from
chain-returns-in_default t c =
    let e = turn_left (λ n. chain_from c.args.level (operand c.args.level c.args.room) n c.loop-turn.left c.loop-turn.input) c.args.room c.loop-turn._turn c.loop-turn-test.true in
    first_of (search rules, grind (arith, common_steps))

pub chain-returns-in_err-right : goal.chain-returns-in_err-right
unfolding chain_from
chain-returns-in_err-right t c =
    let e = turn_left (λ n. chain_from c.args.level (operand c.args.level c.args.room) n c.loop-turn.left c.loop-turn.input) c.args.room c.loop-turn._turn c.loop-turn-test.true in
    first_of (search rules, grind (arith, common_steps))

pub chain-loop-turn-preserved : goal.chain-loop-turn-preserved
unfolding chain_from
chain-loop-turn-preserved t c =
    let e = turn_left (λ n. chain_from c.args.level (operand c.args.level c.args.room) n c.loop-turn.left c.loop-turn.input) c.args.room c.loop-turn._turn c.loop-turn-test.true in
    first_of (search rules, grind (arith, common_steps))

pub chain-returns : goal.chain-returns
unfolding chain_from
chain-returns t c =
    let e = no_turn (λ n. chain_from c.args.level (operand c.args.level c.args.room) n c.loop-turn.left c.loop-turn.input) c.args.room c.loop-turn._turn c.loop-turn-test.false in
    first_of (search rules, grind (arith, common_steps))
