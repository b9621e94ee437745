use Rattle.std.proofs.Common.{◌≡◌, ◌++◌, take, map}
use Rattle.sql_meaning.specs.Names.{order_mention}
use Rattle.sql_meaning.proofs.mentions.push_orders.Given as goal

abbrev pub invariant-loop-order : goal.invariant-loop-order
invariant-loop-order l = l.mentions ≡ l.initial.mentions ++ map order_mention (take l.order-index l.order-items)
