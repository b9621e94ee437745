use Rattle.std.proofs.Common.{refl}
use Rattle.home_model.specs.Entry.{cleaned}
use Rattle.home_service.proofs.Seats.{changes_seated}
use Rattle.home_service.proofs.DuePages.{changes_due}
use Rattle.home_service.proofs.service.HomeService.clean.Goals as goal

pub invariant_of-self : goal.invariant_of-self
invariant_of-self c = record {
  plain = c.self.invariant.plain;
  seated = changes_seated c.self.inside.home c.clean.new.home c.self.inside.slabs c.args.page (λ E. cleaned E c.args.lsn) (λ E. refl) c.clean.ensures.entry c.self.invariant.seated;
  expects = changes_due c.self.inside.home c.clean.new.home c.self.inside.expected c.args.page (λ E. cleaned E c.args.lsn) (λ E m h. h) c.clean.ensures.entry c.self.invariant.expects;
}
