use Rattle.std.proofs.Common.{◌≡◌, length, ap, arith}
use Rattle.sql_values.specs.declared.values.Value.TheVariants.{Text}
use Rattle.row_codec.specs.Records.{cell_bytes}
use Rattle.row_codec.proofs.SpellingLaws.{text_length}
use Rattle.row_codec.proofs.lengths.cell_length.Goals as goal

pub returns-in-Text : goal.returns-in-Text
returns-in-Text c =
    let text = text_length c.in-Text.text in
    let cell : length (cell_bytes c.args.cell.now) ≡ length (cell_bytes (Text c.in-Text.text)) = ap (λ v. length (cell_bytes v)) c.in-Text.is in
    omega (arith, text, cell)
