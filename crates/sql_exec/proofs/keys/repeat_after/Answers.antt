use Rattle.std.proofs.Common.{◌++◌, ◌∷◌, [], rules, arith}
use Rattle.std.proofs.lemmas.Grind.{common_steps}
use Rattle.sql_exec.proofs.SeenLaws.{onward, repeated}
use Rattle.sql_exec.proofs.keys.repeat_after.Goals as goal

pub loop-key-init : goal.loop-key-init
loop-key-init c = λ before has. (before, has, search rules)

pub returns-then-not-branch : goal.returns-then-not-branch
returns-then-not-branch c = λ before has.
    let inv = c.loop-key.invariant before has in
    let is_new = c.in_ok-add.ensures.new inv.0 inv.1 in
    let rest = inv.2 in
    grind (arith, common_steps, repeated)

pub loop-key-preserved : goal.loop-key-preserved
loop-key-preserved c = λ before has.
    let inv = c.loop-key.invariant before has in
    let is_new = c.in_ok-add.ensures.new inv.0 inv.1 in
    let grown = c.in_ok-add.ensures.more inv.0 inv.1 in
    let rest = inv.2 in
    (inv.0 ++ c.key-item.result ∷ [], grind (arith, common_steps), grind (arith, common_steps, onward))

pub returns : goal.returns
returns c = λ before has.
    let inv = c.loop-key.invariant before has in
    let rest = inv.2 in
    grind (arith, common_steps)
