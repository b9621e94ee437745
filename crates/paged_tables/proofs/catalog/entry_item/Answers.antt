use Rattle.paged_tables.proofs.CatalogLaws.{not_refused}
use Rattle.paged_tables.proofs.catalog.entry_item.Goals as goal

pub unreachable-requires : goal.unreachable-requires
unreachable-requires c =
    let value = not_refused c.in_ok-catalog.catalog c.in_ok-row.row c.args.schema.now c.args.root c.in_ok-value.field-0 c.in_ok-catalog.ensures c.in_ok-row.ensures
    c.requires.table c.requires.bounded c.in_ok-value.ensures in
    absurd cc
