use Rattle.std.proofs.Common.{◌≡◌, take}
use Rattle.sql_front.specs.Printed.{written, others}
use Rattle.sql_front.proofs.showing.others.Given as goal

abbrev pub invariant-items : goal.invariant-items
invariant-items g l = l.out ≡ written l.initial.out (others g.T.Shown.symbols (take l.item-index l.items))
