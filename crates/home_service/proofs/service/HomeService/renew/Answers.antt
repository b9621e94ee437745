use Rattle.std.proofs.Common.{◌≤◌, sym, subst}
use Rattle.message_network.specs.ServerView.{server_of, known_of}
use Rattle.home_service.specs.HomeSide.{Parts}
use Rattle.home_service.proofs.Plain.{renewed_plain}
use Rattle.home_service.proofs.service.HomeService.renew.Goals as goal

pub invariant_of-self : goal.invariant_of-self
invariant_of-self c = record {
  plain = renewed_plain c.self.inside.server c.renew.new.self c.args.node c.args.incarnation (subst (λ (P : Parts). known_of (server_of P.server) c.args.node ≤ c.args.incarnation) (sym c.self.view_is) c.requires) c.renew.ensures.newer c.renew.ensures.same c.self.invariant.plain;
  seated = c.self.invariant.seated;
  expects = c.self.invariant.expects;
}
