use Rattle.std.proofs.Common.{subst}
use Rattle.home_tables.specs.Order.{due_among}
use Rattle.home_tables.specs.Pairs.{IsFirst}
use Rattle.home_service.specs.HomeSide.{Parts}
use Rattle.home_service.proofs.DuePages.{expected_first}
use Rattle.home_service.proofs.service.HomeService.first_due.Goals as goal

pub returns : goal.returns
returns c =
    subst (λ (P : Parts). IsFirst (due_among P.home c.args.up.now) c.first_due.result) c.self.view_is
    (expected_first c.self.inside.home c.args.up.now c.self.inside.expected c.both-asked.result c.first_due.result c.both-asked.ensures c.self.invariant.expects c.first_due.ensures)
