use Rattle.std.proofs.Common.{arith}
use Rattle.call_model.specs.Servers.{nothing_of}
use Rattle.message_network.proofs.Memories.{kept_record}
use Rattle.message_network.proofs.serving.Server.renew.Goals as goal

pub returns-then-lt-clause-newer : goal.returns-then-lt-clause-newer
returns-then-lt-clause-newer c newer =
    kept_record c.args.self.now.epoch c.args.self.now.memories c.from-node.result c.args.node c.nothing.result
    (nothing_of c.args.incarnation) (omega arith) (omega arith) c.nothing.ensures
