use Rattle.std.proofs.Common.{take}
use Rattle.row_codec.specs.Records.{AreI64}
use Rattle.sql_engine.proofs.making.read_ints.Given as goal

abbrev pub invariant-loop-cell : goal.invariant-loop-cell
invariant-loop-cell l = AreI64 (take l.cell-index l.cell-items)
