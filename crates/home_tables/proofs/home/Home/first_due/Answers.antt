use Rattle.std.proofs.Common.{◌<◌, ◌+◌, ℕ, Option, length, take, sym, subst, arith}
use Rattle.home_tables.specs.Order.{due_among}
use Rattle.home_tables.specs.Pairs.{IsFirst}
use Rattle.home_tables.proofs.Order.{first_step}
use Rattle.home_tables.proofs.home.Home.first_due.Goals as goal

pub loop-node-preserved : goal.loop-node-preserved
loop-node-preserved c =
    let ns = c.as_slice-node-items.result.now in
    let i : ℕ = c.loop-node.node-index in
    let within : i < length ns = omega arith in
    let step = first_step c.args.self.now ns i c.node-item.result c.loop-node.first c.due_at.result within c.node-item.is c.loop-node.invariant c.due_at.ensures in
    subst (λ (o : Option (ℕ × ℕ)). IsFirst (due_among c.args.self.now (take (i + 1) ns)) o) (sym c.earlier-first.ensures) step
