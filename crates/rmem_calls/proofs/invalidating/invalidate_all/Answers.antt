use Rattle.std.proofs.Common.{◌∙◌}
use Rattle.home_tables.specs.Home.{entry_at}
use Rattle.rmem_calls.specs.Invalidating.{invalidated_all}
use Rattle.rmem_calls.proofs.Marking.{invalidate_step}
use Rattle.rmem_calls.proofs.invalidating.invalidate_all.Goals as goal

pub loop-i-preserved : goal.loop-i-preserved
loop-i-preserved c =
    let pages = c.args.pages.now in
    let clear = c.args.clear.now in
    let all = invalidated_all (entry_at c.args.home.now) c.args.node pages clear in
    record {
      entries = invalidate_step c.loop-i.home c.invalidate.new.self c.args.node c.loop-i.i c.index-pages-i.result c.index-clear-i.result pages clear all c.loop-i-test.true c.requires c.index-pages-i.is
          c.index-clear-i.is c.invalidate.ensures c.loop-i.invariant.entries;
      watermark = c.invalidate.ensures.watermark ∙ c.loop-i.invariant.watermark;
    }
