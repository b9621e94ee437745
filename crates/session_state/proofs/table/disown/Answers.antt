use Rattle.std.proofs.Common.{◌+◌, length, ap, ◌∙◌, arith}
use Rattle.session_state.specs.Waiting.{disowned_item}
use Rattle.session_state.proofs.Lists.{part_length, part_step}
use Rattle.session_state.proofs.table.disown.Goals as goal

-- src/table.rt:211:5
pub loop-at-preserved : goal.loop-at-preserved
loop-at-preserved c =
    let old = c.args.queue.now.items in
    let f = disowned_item c.args.session in
    let items = part_step f old c.loop-at.queue.items c.disown_at.new.queue.items c.loop-at.at c.loop-at.invariant.items (omega arith) c.disown_at.ensures.items in record {
      items = items;
      long = ap length items ∙ part_length f old (c.loop-at.at + 1);
      spare = omega arith;
    }
