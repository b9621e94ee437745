use Rattle.std.proofs.Common.{◌≡◌, ◌-◌, ◌^◌, length, take, min}
use Rattle.row_codec.specs.Records.{cells_bytes}
use Rattle.row_codec.proofs.lengths.cells_length.Given as goal

abbrev pub invariant-loop-cell : goal.invariant-loop-cell
invariant-loop-cell l = l.total ≡ min (length (cells_bytes (take l.cell-index l.cells))) (2 ^ 64 - 1)
