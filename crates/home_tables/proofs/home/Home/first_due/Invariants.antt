use Rattle.std.proofs.Common.{take}
use Rattle.home_tables.specs.Order.{due_among}
use Rattle.home_tables.specs.Pairs.{IsFirst}
use Rattle.home_tables.proofs.home.Home.first_due.Given as goal

abbrev pub invariant-loop-node : goal.invariant-loop-node
invariant-loop-node l = IsFirst (due_among l.self (take l.node-index l.node-items)) l.first
