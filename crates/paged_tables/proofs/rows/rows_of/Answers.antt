use Rattle.paged_tables.specs.Content.{IsStored}
use Rattle.paged_tables.proofs.ReadLaws.{all_at}
use Rattle.paged_tables.proofs.RowLaws.{read_at, row_at, rows_more}
use Rattle.paged_tables.proofs.rows.rows_of.Goals as goal

pub row_in-requires-clause-spelled : goal.row_in-requires-clause-spelled
row_in-requires-clause-spelled c =
    let some = read_at c.args.items.now c.loop-item.item-index c.item-item.result c.loop-item-test.true c.item-item.is in
    let here = row_at c.args.schema.now.key c.args.items.now c.requires.spelled.0 c.loop-item.item-index c.item-item.result c.requires.spelled.2 some in
    (here.0, all_at (IsStored c.args.schema.now) c.requires.spelled.0 c.loop-item.item-index here.0 c.requires.spelled.1 here.1, here.2)

pub loop-item-preserved : goal.loop-item-preserved
loop-item-preserved c rows stored spelled =
    let some = read_at c.args.items.now c.loop-item.item-index c.item-item.result c.loop-item-test.true c.item-item.is in
    rows_more c.args.schema.now c.args.items.now rows c.loop-item.rows c.push.new.self c.loop-item.item-index c.item-item.result c.in_ok-row_in.field-0
    stored spelled some c.in_ok-row_in.ensures (c.loop-item.invariant rows stored spelled) c.in_ok-push.ensures.ok
