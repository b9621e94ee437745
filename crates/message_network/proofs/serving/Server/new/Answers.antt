use Rattle.std.proofs.Common.{arith}
use Rattle.message_network.proofs.Memories.{new_record}
use Rattle.message_network.proofs.serving.Server.new.Goals as goal

pub returns : goal.returns
returns c = new_record c.args.epoch c.from_fn.result (λ i d h. let k = c.from_fn.ensures.items.at i d (omega (arith, c.from_fn.ensures.items.long)) in k.2.met)
