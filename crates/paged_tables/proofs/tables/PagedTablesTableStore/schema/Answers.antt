use Rattle.std.proofs.Common.{sym, ◌∙◌}
use Rattle.paged_tables.specs.Items.{entry_named}
use Rattle.paged_tables.proofs.TableLaws.{held, schema_found, schema_absent}
use Rattle.paged_tables.proofs.tables.PagedTablesTableStore.schema.Goals as goal

pub find_entry-requires : goal.find_entry-requires
find_entry-requires c = (c.requires.0, held c.self.inside.store c.args.self.now c.requires.0 c.self.view_is c.requires.1)

pub returns-in-Some : goal.returns-in-Some
returns-in-Some c d old =
    let h = held c.self.inside.store c.args.self.now d c.self.view_is old in
    schema_found (entry_named h.entries c.args.name.now) c.in_ok-schema.field-0 c.in-Some.schema c.in-Some.field-0-1 (c.in_ok-schema.ensures d h) c.in-Some.is ∙ sym (h.schemas c.args.name.now)

pub returns-in-None : goal.returns-in-None
returns-in-None c d old =
    let h = held c.self.inside.store c.args.self.now d c.self.view_is old in
    schema_absent (entry_named h.entries c.args.name.now) c.in_ok-schema.field-0 (c.in_ok-schema.ensures d h) c.in-None.is ∙ sym (h.schemas c.args.name.now)
