use Rattle.plain_pool.proofs.Showing.{gives_up}
use Rattle.plain_pool.proofs.serving.PlainPoolPagePool.give_up.Goals as goal

pub returns : goal.returns
returns c = record { gives_up = gives_up c.args.self.now c.rest.new.self c.args._n c.requires.there c.rest.ensures }
