use Rattle.page_store.specs.Stored.{pages_of}
use Rattle.paged_tables.proofs.HoldLaws.{holds_sound}
use Rattle.paged_tables.proofs.tables.PagedTablesTableStore.rules.Goals as goal

pub returns : goal.returns
returns c d h = holds_sound (pages_of c.args.self.now) d h
