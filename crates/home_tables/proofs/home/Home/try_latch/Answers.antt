use Rattle.std.proofs.Common.{◌≡◌, ◌<◌, ℕ, Bool, List, ◌&&◌, Some, nat_eq, if◌then◌else◌, sym, ap, subst}
use Rattle.page_latches.specs.Set.{has}
use Rattle.home_tables.specs.Numbers.{has_page}
use Rattle.home_tables.specs.Table.{is_idle, is_on}
use Rattle.home_tables.specs.Trying.{Tries}
use Rattle.home_tables.specs.Home.{HomeState, home_of, kept_in, AreKept}
use Rattle.home_tables.specs.declared.entry.Entry.{Entry}
use Rattle.home_tables.proofs.Entries.{kept_marked}
use Rattle.home_tables.proofs.Tables.{tries_at}
use Rattle.home_tables.proofs.home.Home.try_latch.Goals as goal

pub mark_idle-requires : goal.mark_idle-requires
mark_idle-requires c = c.self.invariant.room.0

pub invariant_of-self : goal.invariant_of-self
invariant_of-self c =
    let e' = c.try_latch-latch.new.self in
    let found : kept_in c.self.inside.entries.entries c.args.page ≡ Some c.in-Some.entry.now = sym c.in-Some.ensures.value in
    let slot : e'.addr ≡ c.in-Some.entry.now.addr = ap (λ (e : Entry). e.addr) c.try_latch-latch.ensures.rest in
    let nodes : has e'.due ≡ has c.in-Some.entry.now.due = ap (λ (e : Entry). has e.due) c.try_latch-latch.ensures.rest in
    let marks : (s q : ℕ) → s < 16 → q < 32768 → has_page c.mark_idle.new.idle s q ≡ (if (nat_eq q c.args.page && is_on s e'.addr) then is_idle e' else has_page c.self.inside.idle s q) =
    λ s q hs hq. subst (λ (b : Bool). has_page c.mark_idle.new.idle s q ≡ (if (nat_eq q c.args.page && is_on s e'.addr) then b else has_page c.self.inside.idle s q)) c.is_idle-is_idle.ensures (c.mark_idle.ensures.marks s q hs hq) in
    subst (λ (es : List (ℕ × Entry)). AreKept es c.mark_idle.new.idle c.self.inside.due) (sym (c.get_mut.follows.holds e').0)
    (kept_marked c.self.inside.entries.entries c.self.inside.idle c.mark_idle.new.idle c.self.inside.due c.args.page c.in-Some.entry.now e' c.self.invariant found slot nodes marks c.mark_idle.ensures.bound)

pub returns-in-Some-clause-tried : goal.returns-in-Some-clause-tried
returns-in-Some-clause-tried c =
    let e' = c.try_latch-latch.new.self in
    let es = c.self.inside.entries.entries in
    let w = c.self.inside.watermark in
    let latch = c.try_latch-latch.result in
    let found : kept_in es c.args.page ≡ Some c.in-Some.entry.now = sym c.in-Some.ensures.value in
    subst (λ (H : HomeState). Tries H (home_of (c.get_mut.follows.lender e').entries w) c.args.page c.args.node c.args.mode latch) c.self.view_is
    (
    subst (λ (new : List (ℕ × Entry)). Tries (home_of es w) (home_of new w) c.args.page c.args.node c.args.mode latch) (sym (c.get_mut.follows.holds e').0)
    (
    tries_at es w c.args.page c.args.node c.args.mode c.in-Some.entry.now e' latch found c.try_latch-latch.ensures.granted c.try_latch-latch.ensures.taken c.try_latch-latch.ensures.busy
    c.try_latch-latch.ensures.stays
    )
    )
