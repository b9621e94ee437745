use Rattle.std.proofs.Common.{◌≡◌, List, ℕ, Some, sym, ap, ◌∙◌}
use Rattle.page_store.specs.Stored.{pages_of}
use Rattle.sql_values.specs.declared.schemas.Schema.{Schema}
use Rattle.sql_values.specs.Tables.{table_named}
use Rattle.paged_tables.proofs.EntryLaws.{found_name}
use Rattle.paged_tables.proofs.HoldLaws.{entry_of}
use Rattle.paged_tables.proofs.tests.count.Goals as goal

pub rows-requires : goal.rows-requires
rows-requires c =
    let d = c.requires.0 in
    let h = c.requires.1 in
    let t : List ℕ = c.in_ok-name.field-0 in
    let s : Schema = c.in-Some.schema in
    let named : table_named d.schemas t ≡ Some s = sym (c.in_ok-schema.ensures d h) ∙ c.in-Some.is in
    let entry = entry_of (pages_of c.args.tables.now) d h t s named in
    let name : s.table ≡ t = ap (λ (x : Schema). x.table) (sym entry.2) ∙ found_name h.entries t entry.0 entry.1 in
    (d, h, ap (table_named d.schemas) name ∙ named)
