use Rattle.std.proofs.Common.{◌≡◌, ◌<◌, ℕ, Bool, List, ◌&&◌, Some, nat_eq, if◌then◌else◌, sym, subst}
use Rattle.home_tables.specs.Numbers.{has_page}
use Rattle.home_tables.specs.Table.{is_idle, is_on}
use Rattle.home_tables.specs.Access.{accessed}
use Rattle.home_tables.specs.Home.{HomeState, home_of, kept_in, AreKept, ChangesAt}
use Rattle.home_tables.specs.declared.entry.Entry.{Entry}
use Rattle.home_tables.proofs.Entries.{kept_marked}
use Rattle.home_tables.proofs.Tables.{changes_at}
use Rattle.home_tables.proofs.home.Home.access.Goals as goal

pub mark_idle-requires : goal.mark_idle-requires
mark_idle-requires c = c.self.invariant.room.0

pub invariant_of-self : goal.invariant_of-self
invariant_of-self c =
    let e' = c.access.new.self in
    let found : kept_in c.self.inside.entries.entries c.args.page ≡ Some c.in-Some.entry.now = sym c.in-Some.ensures.value in
    let marks : (s q : ℕ) → s < 16 → q < 32768 → has_page c.mark_idle.new.idle s q ≡ (if (nat_eq q c.args.page && is_on s e'.addr) then is_idle e' else has_page c.self.inside.idle s q) =
    λ s q hs hq. subst (λ (b : Bool). has_page c.mark_idle.new.idle s q ≡ (if (nat_eq q c.args.page && is_on s e'.addr) then b else has_page c.self.inside.idle s q)) c.is_idle-is_idle.ensures (c.mark_idle.ensures.marks s q hs hq) in
    subst (λ (es : List (ℕ × Entry)). AreKept es c.mark_idle.new.idle c.self.inside.due) (sym (c.get_mut.follows.holds e').0)
    (kept_marked c.self.inside.entries.entries c.self.inside.idle c.mark_idle.new.idle c.self.inside.due c.args.page c.in-Some.entry.now e' c.self.invariant found c.access.ensures.slot c.access.ensures.nodes marks c.mark_idle.ensures.bound)

pub returns-in-Some : goal.returns-in-Some
returns-in-Some c =
    let e' = c.access.new.self in
    let found : kept_in c.self.inside.entries.entries c.args.page ≡ Some c.in-Some.entry.now = sym c.in-Some.ensures.value in
    subst (λ (H : HomeState). ChangesAt H (home_of (c.get_mut.follows.lender e').entries c.self.inside.watermark) c.args.page (accessed c.args.access)) c.self.view_is
    (subst (λ (es : List (ℕ × Entry)). ChangesAt (home_of c.self.inside.entries.entries c.self.inside.watermark) (home_of es c.self.inside.watermark) c.args.page (accessed c.args.access)) (sym (c.get_mut.follows.holds e').0)
    (changes_at c.self.inside.entries.entries c.self.inside.watermark c.args.page c.in-Some.entry.now e' (accessed c.args.access) found c.access.ensures.model))
