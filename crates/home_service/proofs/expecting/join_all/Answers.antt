use Rattle.home_service.proofs.DuePages.{joined_old, joined_each}
use Rattle.home_service.proofs.expecting.join_all.Goals as goal

pub loop-set-preserved : goal.loop-set-preserved
loop-set-preserved c = record {
  old = joined_old c.loop-set.nodes c.join.new.nodes c.set-item.result c.args.nodes.now c.join.ensures c.loop-set.invariant.old;
  each = joined_each c.args.sets.now c.loop-set.nodes c.join.new.nodes c.set-item.result c.loop-set.set-index c.loop-set-test.true c.set-item.is c.join.ensures c.loop-set.invariant.each;
}
