use Rattle.std.proofs.Common.{arith}
use Rattle.sql_engine.proofs.ListLemmas.{ints_front}
use Rattle.sql_engine.proofs.making.read_ints.Goals as goal

pub loop-cell-preserved : goal.loop-cell-preserved
loop-cell-preserved c =
    ints_front c.as_slice-cell-items.result.now c.loop-cell.cell-index c.cell-item.result (omega arith) c.cell-item.is c.loop-cell.invariant c.read_int.ensures
