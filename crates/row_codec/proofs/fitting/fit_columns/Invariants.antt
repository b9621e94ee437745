use Rattle.std.proofs.Common.{length, drop}
use Rattle.row_codec.specs.Records.{FitColumns}
use Rattle.row_codec.proofs.fitting.fit_columns.Given as goal

-- the rest fits exactly where the whole does
abbrev pub invariant-loop-column : goal.invariant-loop-column
invariant-loop-column l =
    (FitColumns (drop (length l.yielded) l.columns) (drop (length l.yielded) l.cells) → FitColumns l.columns l.cells)
    × (FitColumns l.columns l.cells → FitColumns (drop (length l.yielded) l.columns) (drop (length l.yielded) l.cells))
