use Rattle.std.proofs.Common.{subst}
use Rattle.statement_reader.specs.Decoding.{IsEntryOrNone}
use Rattle.statement_reader.proofs.DecodingLaws.{one_entry}
use Rattle.statement_reader.proofs.decoding.first_table.Goals as goal

pub returns-in-Some : goal.returns-in-Some
returns-in-Some c = λ d h.
    one_entry d c.args.item.now c.in-Some.table h c.bytes_in.ensures.key c.bytes_in.ensures.value
    (subst (IsEntryOrNone c.args.item.now) c.in-Some.is c.in_ok-entry_in.ensures)
