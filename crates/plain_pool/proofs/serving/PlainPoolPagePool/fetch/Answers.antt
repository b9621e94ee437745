use Rattle.std.proofs.Common.{sym, ◌∙◌}
use Rattle.plain_pool.proofs.Showing.{fetch_free, fetch_taken}
use Rattle.plain_pool.proofs.serving.PlainPoolPagePool.fetch.Goals as goal

pub returns-then-has_work : goal.returns-then-has_work
returns-then-has_work c = record {
  begins = fetch_taken c.args.self.now c.args._n c.args.page c.requires.there (sym c.has_work.ensures ∙ c.if-has_work.true);
}

pub returns : goal.returns
returns c = record {
  begins = fetch_free c.args.self.now c.begin_fetch.new.self c.args._n c.args.page c.requires.there (sym c.has_work.ensures ∙ c.if-has_work.false) c.begin_fetch.ensures;
}
