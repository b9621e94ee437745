use Rattle.std.proofs.Common.{◌≡◌, ◌≤◌, drop, length}
use Rattle.row_codec.specs.Reading.{read_onto}
use Rattle.row_codec.proofs.reading.append_cells.Given as goal

abbrev pub invariant-loop-column : goal.invariant-loop-column
invariant-loop-column l = (l.at ≤ length l.bytes) × (read_onto l.row (drop l.column-index l.columns) (drop l.at l.bytes) ≡ read_onto l.initial.row l.columns l.bytes)
