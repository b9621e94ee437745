use Rattle.std.proofs.Common.{ap, arith}
use Rattle.call_model.specs.Servers.{Server}
use Rattle.message_network.specs.declared.calls.Reply.{Reply}
use Rattle.message_network.proofs.tests.a_fence_and_a_renewal_end_calls.Goals as goal

pub renew-requires : goal.renew-requires
renew-requires g c = omega (arith, ap (λ (s : Server Reply). (s.memory c.token-node.result.node).incarnation) c.new-server.ensures)

pub fence-requires : goal.fence-requires
fence-requires g c = omega (arith, c.renew.ensures.epoch, ap (λ (s : Server Reply). s.epoch) c.new-server.ensures)
