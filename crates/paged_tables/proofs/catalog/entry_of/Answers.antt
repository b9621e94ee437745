use Rattle.std.proofs.Common.{◌≡◌, ap, ◌∙◌}
use Rattle.sql_catalog.specs.Catalog.{catalog_row}
use Rattle.page_view.specs.declared.leaf.LeafItem.{LeafItem}
use Rattle.paged_tables.specs.Items.{Entry}
use Rattle.paged_tables.proofs.CatalogLaws.{entry_read, row_read, table_read}
use Rattle.paged_tables.proofs.catalog.entry_of.Goals as goal

pub unreachable-requires : goal.unreachable-requires
unreachable-requires c =
    let e : Entry = c.requires.spelled.0 in
    let item = entry_read c.args.item.now e c.requires.is_leaf c.requires.spelled.1 c.requires.spelled.2 in
    let read = row_read c.in_ok-catalog.catalog c.as_slice-key.result.now c.as_slice.result.now e c.in_ok-row.field-0 c.in_ok-catalog.ensures c.requires.spelled.1
    (c.as_slice-key.ensures ∙ ap (λ (x : LeafItem). x.key) item) (c.as_slice.ensures ∙ ap (λ (x : LeafItem). x.value) item) c.in_ok-row.ensures in
    absurd cc

pub unreachable-requires-in_default-2 : goal.unreachable-requires-in_default-2
unreachable-requires-in_default-2 c =
    let e : Entry = c.requires.spelled.0 in
    let item = entry_read c.args.item.now e c.requires.is_leaf c.requires.spelled.1 c.requires.spelled.2 in
    let read = row_read c.in_ok-catalog.catalog c.as_slice-key.result.now c.as_slice.result.now e c.in_ok-row.field-0 c.in_ok-catalog.ensures c.requires.spelled.1
    (c.as_slice-key.ensures ∙ ap (λ (x : LeafItem). x.key) item) (c.as_slice.ensures ∙ ap (λ (x : LeafItem). x.value) item) c.in_ok-row.ensures in
    let row : c.in-Some.row ≡ catalog_row e.schema e.root = cc in
    let found = table_read c.in-Some.row e c.in_ok-found.field-0 c.requires.spelled.1 row c.in_ok-found.ensures in
    absurd cc

pub returns : goal.returns
returns c e is spelled =
    let item = entry_read c.args.item.now e c.requires.is_leaf is spelled in
    let read = row_read c.in_ok-catalog.catalog c.as_slice-key.result.now c.as_slice.result.now e c.in_ok-row.field-0 c.in_ok-catalog.ensures is
    (c.as_slice-key.ensures ∙ ap (λ (x : LeafItem). x.key) item) (c.as_slice.ensures ∙ ap (λ (x : LeafItem). x.value) item) c.in_ok-row.ensures in
    let row : c.in-Some.row ≡ catalog_row e.schema e.root = cc in
    let found = table_read c.in-Some.row e c.in_ok-found.field-0 is row c.in_ok-found.ensures in
    cc
