use Rattle.std.proofs.Common.{◌≡◌, ℕ, List, Some, sym, subst}
use Rattle.std.specs.Map.{keys_of}
use Rattle.home_tables.specs.Places.{pages_in}
use Rattle.home_tables.specs.Home.{HomeState, home_of, kept_in, AreKept}
use Rattle.home_tables.specs.Losing.{Becomes, lost_on}
use Rattle.home_tables.specs.declared.entry.Entry.{Entry}
use Rattle.home_tables.proofs.Entries.{kept_lost}
use Rattle.home_tables.proofs.Losing.{becomes, same_pages}
use Rattle.home_tables.proofs.home.Home.lose_at.Goals as goal

pub mark_idle-requires : goal.mark_idle-requires
mark_idle-requires c = c.self.invariant.room.0

pub invariant_of-self : goal.invariant_of-self
invariant_of-self c =
    let e = c.in-Some.entry.now in
    let e' = c.lose.new.self in
    let es = c.self.inside.entries.entries in
    let found : kept_in es c.args.page ≡ Some e = sym c.in-Some.ensures.value in
    subst (λ (new : List (ℕ × Entry)). AreKept new c.mark_idle.new.idle c.self.inside.due) (sym (c.get_mut.follows.holds e').0)
    (
    kept_lost es c.self.inside.idle c.mark_idle.new.idle c.self.inside.due c.args.page c.args.slab e e' c.is_offered-is_offered.result c.self.invariant found c.lose.ensures.slot c.lose.ensures.idle
    c.lose.ensures.nodes c.is_offered-is_offered.ensures c.mark_idle.ensures.marks c.mark_idle.ensures.bound
    )

pub returns-in-Some-clause-entry : goal.returns-in-Some-clause-entry
returns-in-Some-clause-entry c =
    let e' = c.lose.new.self in
    let es = c.self.inside.entries.entries in
    let w = c.self.inside.watermark in
    let found : kept_in es c.args.page ≡ Some c.in-Some.entry.now = sym c.in-Some.ensures.value in
    subst (λ (H : HomeState). Becomes H (home_of (c.get_mut.follows.lender e').entries w) c.args.page (lost_on c.args.slab)) c.self.view_is
    (subst (λ (new : List (ℕ × Entry)). Becomes (home_of es w) (home_of new w) c.args.page (lost_on c.args.slab)) (sym (c.get_mut.follows.holds e').0)
    (becomes es w c.args.page c.in-Some.entry.now e' (lost_on c.args.slab) found c.lose.ensures.model))

pub returns-in-Some-clause-pages : goal.returns-in-Some-clause-pages
returns-in-Some-clause-pages c =
    let e' = c.lose.new.self in
    let es = c.self.inside.entries.entries in
    subst (λ (H : HomeState). keys_of (c.get_mut.follows.lender e').entries ≡ pages_in H) c.self.view_is
    (subst (λ (new : List (ℕ × Entry)). keys_of new ≡ keys_of es) (sym (c.get_mut.follows.holds e').0) (same_pages es c.args.page e'))
