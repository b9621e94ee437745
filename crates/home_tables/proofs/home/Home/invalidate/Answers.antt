use Rattle.std.proofs.Common.{◌≡◌, ℕ, List, Some, sym, subst}
use Rattle.page_latches.specs.Set.{has}
use Rattle.home_model.specs.Entry.{Entry as HomeEntry, invalidated}
use Rattle.home_tables.specs.Home.{HomeState, home_of, kept_in, AreKept, ChangesAt}
use Rattle.home_tables.specs.declared.entry.Entry.{Entry}
use Rattle.home_tables.proofs.Entries.{kept_due}
use Rattle.home_tables.proofs.Tables.{changes_at}
use Rattle.home_tables.proofs.home.Home.invalidate.Goals as goal

pub mark_due-requires : goal.mark_due-requires
mark_due-requires c = c.self.invariant.room.1

pub invariant_of-self : goal.invariant_of-self
invariant_of-self c =
    let e' = c.invalidate.new.self in
    let found : kept_in c.self.inside.entries.entries c.args.page ≡ Some c.in-Some.entry.now = sym c.in-Some.ensures.value in
    subst (λ (es : List (ℕ × Entry)). AreKept es c.self.inside.idle c.mark_due.new.due) (sym (c.get_mut.follows.holds e').0)
    (
    kept_due c.self.inside.entries.entries c.self.inside.idle c.self.inside.due c.mark_due.new.due c.args.page c.in-Some.entry.now e' c.self.invariant found c.invalidate.ensures.slot
    c.invalidate.ensures.idle c.mark_due.ensures.marks c.mark_due.ensures.bound
    )

pub returns-in-Some : goal.returns-in-Some
returns-in-Some c =
    let e' = c.invalidate.new.self in
    let f = λ (E : HomeEntry). invalidated E (has c.args.fresh.now) c.args.node in
    let found : kept_in c.self.inside.entries.entries c.args.page ≡ Some c.in-Some.entry.now = sym c.in-Some.ensures.value in
    subst (λ (H : HomeState). ChangesAt H (home_of (c.get_mut.follows.lender e').entries c.self.inside.watermark) c.args.page f) c.self.view_is
    (
    subst (λ (es : List (ℕ × Entry)). ChangesAt (home_of c.self.inside.entries.entries c.self.inside.watermark) (home_of es c.self.inside.watermark) c.args.page f) (sym (c.get_mut.follows.holds e').0)
    (changes_at c.self.inside.entries.entries c.self.inside.watermark c.args.page c.in-Some.entry.now e' f found c.invalidate.ensures.model)
    )
