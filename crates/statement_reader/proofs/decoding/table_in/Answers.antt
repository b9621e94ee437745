use Rattle.statement_reader.proofs.DecodingLaws.{first_told}
use Rattle.statement_reader.proofs.decoding.table_in.Goals as goal

pub returns-in-len1-up : goal.returns-in-len1-up
returns-in-len1-up c = λ d h.
    first_told d c.args.items.now c.item-item.result c.first_table.result c.in-len1-up.len_at_least c.item-item.is (c.first_table.ensures d h)
