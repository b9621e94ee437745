use Rattle.home_service.proofs.Seats.{latch_seated}
use Rattle.home_service.proofs.DuePages.{latch_due}
use Rattle.home_service.proofs.service.HomeService.try_latch.Goals as goal

pub invariant_of-self : goal.invariant_of-self
invariant_of-self c = record {
  plain = c.self.invariant.plain;
  seated = latch_seated c.try_latch.result c.self.inside.home c.try_latch.new.self c.self.inside.slabs c.args.page c.args.node c.args.mode c.try_latch.ensures.tried c.try_latch.ensures.same c.self.invariant.seated;
  expects = latch_due c.try_latch.result c.self.inside.home c.try_latch.new.self c.self.inside.expected c.args.page c.args.node c.args.mode c.try_latch.ensures.tried c.try_latch.ensures.same c.self.invariant.expects;
}
