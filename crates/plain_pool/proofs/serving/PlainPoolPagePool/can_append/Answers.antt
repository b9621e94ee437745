use Rattle.plain_pool.proofs.Showing.{appends, appended}
use Rattle.plain_pool.proofs.serving.PlainPoolPagePool.can_append.Goals as goal

pub returns : goal.returns
returns c = record {
  appends = (λ e. appends c.args.self.now c.args._n c.requires.there (c.has_unkept.ensures.0 e), λ h. c.has_unkept.ensures.1 (appended c.args.self.now c.args._n h));
}
