use Rattle.paged_tables.proofs.RowLaws.{stored_read}
use Rattle.paged_tables.proofs.rows.row_in.Goals as goal

pub unreachable-requires : goal.unreachable-requires
unreachable-requires c =
    let read = stored_read c.args.schema.now c.args.item.now c.as_slice.result.now c.as_slice-2.result.now c.requires.spelled.0 c.in_ok-row.field-0
    c.requires.is_leaf c.requires.spelled.1 c.requires.spelled.2 c.as_slice.ensures c.as_slice-2.ensures c.in_ok-row.ensures in
    absurd cc

pub returns : goal.returns
returns c row stored spelled =
    let read = stored_read c.args.schema.now c.args.item.now c.as_slice.result.now c.as_slice-2.result.now row c.in_ok-row.field-0
    c.requires.is_leaf stored spelled c.as_slice.ensures c.as_slice-2.ensures c.in_ok-row.ensures in
    cc
