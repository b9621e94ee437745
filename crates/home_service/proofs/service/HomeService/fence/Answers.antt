use Rattle.message_network.specs.ServerView.{server_of}
use Rattle.home_service.proofs.Plain.{fenced_plain}
use Rattle.home_service.proofs.service.HomeService.fence.Goals as goal

pub invariant_of-self : goal.invariant_of-self
invariant_of-self c = record {
  plain = fenced_plain (server_of c.self.inside.server) (server_of c.fence.new.self) c.args.epoch c.fence.ensures c.self.invariant.plain;
  seated = c.self.invariant.seated;
  expects = c.self.invariant.expects;
}
