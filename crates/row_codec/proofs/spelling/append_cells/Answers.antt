use Rattle.std.proofs.Common.{◌≡◌, length, get_or, ap, arith}
use Rattle.std.proofs.lemmas.List.Folds.{length-flat_map-take}
use Rattle.row_codec.specs.Records.{cell_bytes}
use Rattle.row_codec.proofs.spelling.append_cells.Goals as goal

pub append_cell-requires : goal.append_cell-requires
append_cell-requires c =
    let within = length-flat_map-take cell_bytes c.args.cells.now c.loop-cell.cell-index c.cell-item.result c.loop-cell-test.true in
    let here : length (cell_bytes c.cell-item.result) ≡ length (cell_bytes (get_or c.args.cells.now c.loop-cell.cell-index c.cell-item.result)) =
    ap (λ cell. length (cell_bytes cell)) c.cell-item.is in
    omega (arith, within, here)
