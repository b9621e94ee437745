use Rattle.std.proofs.Common.{sym, subst}
use Rattle.page_store.specs.Stored.{Stored, pages_of, given_back}
use Rattle.page_store.specs.Opening.{opened}
use Rattle.sql_database.specs.Database.{empty}
use Rattle.paged_tables.specs.Content.{Holds}
use Rattle.paged_tables.proofs.HoldLaws.{holds_empty}
use Rattle.paged_tables.proofs.tables.PagedTables.new.Goals as goal

pub returns-clause-now : goal.returns-clause-now
returns-clause-now c = subst (λ (s : Stored). Holds (pages_of s) empty) (sym c.in_ok-new.ensures) (holds_empty (pages_of opened) c.forest_laws.ensures.opened)

pub returns-clause-kept : goal.returns-clause-kept
returns-clause-kept c =
    subst (λ (s : Stored). Holds (pages_of (given_back s)) empty) (sym c.in_ok-new.ensures) (holds_empty (pages_of opened) c.forest_laws.ensures.opened)
