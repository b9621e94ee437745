use Rattle.std.proofs.Common.{◌≡◌, ◌++◌, take}
use Rattle.row_codec.specs.Records.{cells_bytes}
use Rattle.row_codec.proofs.spelling.append_cells.Given as goal

abbrev pub invariant-loop-cell : goal.invariant-loop-cell
invariant-loop-cell l = l.value ≡ l.initial.value ++ cells_bytes (take l.cell-index l.cells)
