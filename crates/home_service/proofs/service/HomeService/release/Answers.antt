use Rattle.std.proofs.Common.{refl}
use Rattle.home_model.specs.Entry.{released_by}
use Rattle.home_service.proofs.Seats.{changes_seated}
use Rattle.home_service.proofs.DuePages.{changes_due}
use Rattle.home_service.proofs.service.HomeService.release.Goals as goal

pub invariant_of-self : goal.invariant_of-self
invariant_of-self c = record {
  plain = c.self.invariant.plain;
  seated = changes_seated c.self.inside.home c.access.new.self c.self.inside.slabs c.args.page (λ E. released_by E c.args.node) (λ E. refl) c.access.ensures c.self.invariant.seated;
  expects = changes_due c.self.inside.home c.access.new.self c.self.inside.expected c.args.page (λ E. released_by E c.args.node) (λ E m h. h) c.access.ensures c.self.invariant.expects;
}
