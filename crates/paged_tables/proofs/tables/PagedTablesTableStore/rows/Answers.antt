use Rattle.std.proofs.Common.{◌≡◌, ℕ, List, sym, ap, subst, ◌∙◌}
use Rattle.page_store.specs.Stored.{pages_of}
use Rattle.page_view.specs.declared.leaf.LeafItem.{LeafItem}
use Rattle.sql_values.specs.declared.schemas.Schema.{Schema}
use Rattle.paged_tables.specs.Items.{entry_named}
use Rattle.paged_tables.proofs.ReadLaws.{ok_gives}
use Rattle.paged_tables.proofs.TableLaws.{held, same_pair, found_entry, entry_root, entry_back, rows_between, AreRead, rows_read}
use Rattle.paged_tables.proofs.tables.PagedTablesTableStore.rows.Goals as goal

pub unreachable-requires : goal.unreachable-requires
unreachable-requires c =
    let d = c.requires.0 in
    let h = held c.self.inside.store c.args.self.now d c.self.view_is c.requires.1 in
    let found = found_entry (pages_of c.self.inside.store) d h c.args.table.now.table c.args.table.now c.in_ok-schema.field-0 c.requires.2 (c.in_ok-schema.ensures d h) in
    let none = found.3 in
    absurd cc

pub items_in-requires : goal.items_in-requires
items_in-requires c =
    let d = c.requires.0 in
    let h = held c.self.inside.store c.args.self.now d c.self.view_is c.requires.1 in
    let found = found_entry (pages_of c.self.inside.store) d h c.args.table.now.table c.args.table.now c.in_ok-schema.field-0 c.requires.2 (c.in_ok-schema.ensures d h) in
    let pair = same_pair c.in_ok-schema.field-0 c.in-Some.schema c.in-Some.root found.0 c.in-Some.is found.3 in
    (h.roots, h.items, h.forest, entry_root (pages_of c.self.inside.store) d h c.args.table.now.table found.0 c.in-Some.root found.1 pair.1)

pub rows_of-requires-clause-spelled : goal.rows_of-requires-clause-spelled
rows_of-requires-clause-spelled c =
    let d = c.requires.0 in
    let h = held c.self.inside.store c.args.self.now d c.self.view_is c.requires.1 in
    let s : Schema = c.in-Some.schema in
    let back = entry_back (entry_named h.entries c.args.table.now.table) c.in_ok-schema.field-0 s c.in-Some.root (c.in_ok-schema.ensures d h) c.in-Some.is in
    let read = rows_read (pages_of c.self.inside.store) d h c.args.table.now.table back.0 s c.in-Some.root c.args.range.now c.in_ok-items.items back.1 back.2 back.3 c.in_ok-items.ensures.spelled in
    let here = subst (λ (items : List LeafItem). AreRead s items (rows_between s.key c.args.range.now (d.tables c.args.table.now.table))) (sym c.as_slice.ensures) read in
    (rows_between s.key c.args.range.now (d.tables c.args.table.now.table), here.stored, here.spelled)

pub returns : goal.returns
returns c d old =
    let t : List ℕ = c.args.table.now.table in
    let s : Schema = c.in-Some.schema in
    let first = held c.self.inside.store c.args.self.now c.requires.0 c.self.view_is c.requires.1 in
    let known = found_entry (pages_of c.self.inside.store) c.requires.0 first t c.args.table.now c.in_ok-schema.field-0 c.requires.2 (c.in_ok-schema.ensures c.requires.0 first) in
    let pair = same_pair c.in_ok-schema.field-0 s c.in-Some.root known.0 c.in-Some.is known.3 in
    let table_is : s ≡ c.args.table.now = pair.0 ∙ known.2 in
    let h = held c.self.inside.store c.args.self.now d c.self.view_is old in
    let back = entry_back (entry_named h.entries t) c.in_ok-schema.field-0 s c.in-Some.root (c.in_ok-schema.ensures d h) c.in-Some.is in
    let read = rows_read (pages_of c.self.inside.store) d h t back.0 s c.in-Some.root c.args.range.now c.in_ok-items.items back.1 back.2 back.3 c.in_ok-items.ensures.spelled in
    let here = subst (λ (items : List LeafItem). AreRead s items (rows_between s.key c.args.range.now (d.tables t))) (sym c.as_slice.ensures) read in
    let same = ap (λ (q : Schema). rows_between q.key c.args.range.now (d.tables t)) table_is in
    ok_gives c.rows_of.result _ _ (λ rows is. is ∙ same) (c.rows_of.ensures (rows_between s.key c.args.range.now (d.tables t)) here.stored here.spelled)
