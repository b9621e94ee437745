use Rattle.std.proofs.Common.{arith, ap, Some}
use Rattle.message_network.specs.ServerView.{memory_of}
use Rattle.message_network.proofs.Memories.{kept_record}
use Rattle.message_network.proofs.serving.Server.keep.Goals as goal

pub returns : goal.returns
returns c =
    kept_record c.args.self.now.epoch c.args.self.now.memories c.from-node.result c.args.token.node c.handled.result
    (record { incarnation = c.args.token.incarnation; number = c.args.number; reply = Some c.args.reply })
    (omega arith) (omega arith) (ap memory_of c.handled.ensures)
