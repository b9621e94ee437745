use Rattle.std.proofs.Common.{◌≡◌, length, arith}
use Rattle.row_codec.proofs.ReadingLaws.{FitColumns-length}
use Rattle.row_codec.proofs.fitting.fit_columns.Goals as goal

pub returns-then-columns-cells : goal.returns-then-columns-cells
returns-then-columns-cells c =
    (λ e. cc, λ f. let same : length c.args.cells.now ≡ length c.args.columns.now = FitColumns-length c.args.columns.now c.args.cells.now f in absurd (omega arith))
