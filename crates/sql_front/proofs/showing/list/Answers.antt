use Rattle.std.proofs.Common.{◌≡◌, IfOk, subst}
use Rattle.sql_front.proofs.Writing.{listed_first}
use Rattle.sql_front.proofs.showing.list.Goals as goal

pub returns-in_ok-show-in-len1-up : goal.returns-in_ok-show-in-len1-up
returns-in_ok-show-in-len1-up g c =
    subst (λ z. IfOk c.others.result (λ x. c.others.new.out ≡ z))
    (listed_first g.T.Shown.symbols c.args.out.now c.show.new.out c.args.items.now c.first-item.result c.in-len1-up.len_at_least c.first-item.is c.in_ok-show-in-len1-up.ensures)
    c.others.ensures
