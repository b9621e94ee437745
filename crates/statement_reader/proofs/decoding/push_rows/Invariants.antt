use Rattle.std.proofs.Common.{◌≡◌, drop}
use Rattle.statement_reader.specs.Decoding.{Decoder, Decodes, decode}
use Rattle.statement_reader.proofs.decoding.push_rows.Given as goal

abbrev pub invariant-loop-item : goal.invariant-loop-item
invariant-loop-item l =
    (d : Decoder) → Decodes d → decode d l.schema l.rows (drop l.item-index l.items) ≡ decode d l.schema l.initial.rows l.items
