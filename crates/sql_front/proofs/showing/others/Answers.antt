use Rattle.sql_front.proofs.Writing.{others_more}
use Rattle.sql_front.proofs.showing.others.Goals as goal

pub items-preserved : goal.items-preserved
items-preserved g c = others_more g.T.Shown.symbols c.args.out.now c.items.out c.other.new.out c.args.items.now c.items.item-index c.item-item.result c.items-test.true c.item-item.is c.items.invariant c.in_ok-other.ensures
