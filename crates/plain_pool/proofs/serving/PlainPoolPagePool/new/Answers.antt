use Rattle.plain_pool.proofs.Showing.{begins}
use Rattle.plain_pool.proofs.serving.PlainPoolPagePool.new.Goals as goal

pub returns : goal.returns
returns c = record { begins = begins c.args._shape.now c.in_ok-pool.pool c.requires.serves c.in_ok-pool.ensures }
