use Rattle.std.proofs.Common.{refl, sym, ap, subst, ◌∙◌}
use Rattle.page_store.specs.Stored.{Stored, pages_of, all_kept, given_back}
use Rattle.paged_tables.specs.Content.{Holds}
use Rattle.paged_tables.proofs.TableLaws.{keep_made}
use Rattle.paged_tables.proofs.tables.PagedTables.keep.Goals as goal

pub returns-clause-now : goal.returns-clause-now
returns-clause-now c d h = keep_made c.args.self.now c.keep.new.self d (c.keep.ensures ∙ ap all_kept c.self.view_is) h

pub returns-clause-kept : goal.returns-clause-kept
returns-clause-kept c d h =
    let is = c.keep.ensures ∙ ap all_kept c.self.view_is in
    subst (λ (u : Stored). Holds (pages_of (given_back u)) d) (sym is) (keep_made c.args.self.now (all_kept c.args.self.now) d refl h)
