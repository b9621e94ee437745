use Rattle.std.proofs.Common.{◌≡◌, ◌<◌, ℕ, Bool, true, List, ◌&&◌, Some, Option, nat_eq, if◌then◌else◌, sym, subst}
use Rattle.std.specs.Map.{keys_of}
use Rattle.home_tables.specs.Places.{pages_in}
use Rattle.home_model.specs.Entry.{stays}
use Rattle.home_tables.specs.Numbers.{has_page}
use Rattle.home_tables.specs.Table.{entry_of, is_idle, is_on}
use Rattle.home_tables.specs.Home.{HomeState, home_of, kept_in, entry_at, AreKept}
use Rattle.home_tables.specs.Losing.{Becomes, swept_to}
use Rattle.home_tables.specs.declared.entry.Entry.{Entry}
use Rattle.home_tables.proofs.Entries.{kept_both}
use Rattle.home_tables.proofs.Losing.{becomes, same_pages}
use Rattle.home_tables.proofs.home.Home.settle_at.Goals as goal

pub settle-requires : goal.settle-requires
settle-requires c =
    let es = c.self.inside.entries.entries in
    let found : kept_in es c.args.page ≡ Some c.in-Some.entry.now = sym c.in-Some.ensures.value in
    let stay : stays (entry_of (kept_in es c.args.page)) c.args.tail ≡ true = subst (λ (H : HomeState). stays (entry_at H c.args.page) c.args.tail ≡ true) (sym c.self.view_is) c.requires in
    subst (λ (o : Option Entry). stays (entry_of o) c.args.tail ≡ true) found stay

pub mark_idle-requires : goal.mark_idle-requires
mark_idle-requires c = c.self.invariant.room.0

pub mark_due-requires : goal.mark_due-requires
mark_due-requires c = c.self.invariant.room.1

pub invariant_of-self : goal.invariant_of-self
invariant_of-self c =
    let e' = c.settle.new.self in
    let es = c.self.inside.entries.entries in
    let found : kept_in es c.args.page ≡ Some c.in-Some.entry.now = sym c.in-Some.ensures.value in
    let marks : (s q : ℕ) → s < 16 → q < 32768 → has_page c.mark_idle.new.idle s q ≡ (if (nat_eq q c.args.page && is_on s e'.addr) then is_idle e' else has_page c.self.inside.idle s q) =
    λ s q hs hq. subst (λ (b : Bool). has_page c.mark_idle.new.idle s q ≡ (if (nat_eq q c.args.page && is_on s e'.addr) then b else has_page c.self.inside.idle s q)) c.is_idle-is_idle.ensures (c.mark_idle.ensures.marks s q hs hq) in
    subst (λ (new : List (ℕ × Entry)). AreKept new c.mark_idle.new.idle c.mark_due.new.due) (sym (c.get_mut.follows.holds e').0)
    (kept_both es c.self.inside.idle c.mark_idle.new.idle c.self.inside.due c.mark_due.new.due c.args.page c.in-Some.entry.now e' c.self.invariant found c.settle.ensures.slot marks c.mark_idle.ensures.bound c.mark_due.ensures.marks c.mark_due.ensures.bound)

pub returns-in-Some-clause-entry : goal.returns-in-Some-clause-entry
returns-in-Some-clause-entry c =
    let e' = c.settle.new.self in
    let es = c.self.inside.entries.entries in
    let w = c.self.inside.watermark in
    let found : kept_in es c.args.page ≡ Some c.in-Some.entry.now = sym c.in-Some.ensures.value in
    subst (λ (H : HomeState). Becomes H (home_of (c.get_mut.follows.lender e').entries w) c.args.page (swept_to c.args.tail)) c.self.view_is
    (subst (λ (new : List (ℕ × Entry)). Becomes (home_of es w) (home_of new w) c.args.page (swept_to c.args.tail)) (sym (c.get_mut.follows.holds e').0)
    (becomes es w c.args.page c.in-Some.entry.now e' (swept_to c.args.tail) found c.settle.ensures.model))

pub returns-in-Some-clause-pages : goal.returns-in-Some-clause-pages
returns-in-Some-clause-pages c =
    let e' = c.settle.new.self in
    let es = c.self.inside.entries.entries in
    subst (λ (H : HomeState). keys_of (c.get_mut.follows.lender e').entries ≡ pages_in H) c.self.view_is
    (subst (λ (new : List (ℕ × Entry)). keys_of new ≡ keys_of es) (sym (c.get_mut.follows.holds e').0) (same_pages es c.args.page e'))
