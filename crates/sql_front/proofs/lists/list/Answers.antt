use Rattle.std.proofs.Common.{rules, arith}
use Rattle.std.proofs.lemmas.Grind.{common_steps}
use Rattle.sql_front.specs.Input.{further}
use Rattle.sql_front.proofs.Turns.{turn_left, no_turn}
use Rattle.sql_front.proofs.lists.list.Goals as goal

pub returns-then-not-eat : goal.returns-then-not-eat
unfolding further
returns-then-not-eat g c =
    let e = turn_left (λ n. further g.T.Item.reader n c.items.items c.items.input) c.len-turn-end.result c.items._turn c.items-test.true in
    first_of (search rules, grind (arith, common_steps))

pub returns-in_err-item : goal.returns-in_err-item
unfolding further
returns-in_err-item g c =
    let e = turn_left (λ n. further g.T.Item.reader n c.items.items c.items.input) c.len-turn-end.result c.items._turn c.items-test.true in
    first_of (search rules, grind (arith, common_steps))

pub items-preserved : goal.items-preserved
unfolding further
items-preserved g c =
    let e = turn_left (λ n. further g.T.Item.reader n c.items.items c.items.input) c.len-turn-end.result c.items._turn c.items-test.true in
    first_of (search rules, grind (arith, common_steps))

pub returns : goal.returns
unfolding further
returns g c =
    let e = no_turn (λ n. further g.T.Item.reader n c.items.items c.items.input) c.len-turn-end.result c.items._turn c.items-test.false in
    first_of (search rules, grind (arith, common_steps))
