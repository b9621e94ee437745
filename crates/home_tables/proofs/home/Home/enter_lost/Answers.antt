use Rattle.std.proofs.Common.{◌≡◌, ℕ, true, List, Some, Option, sym, subst}
use Rattle.home_model.specs.Numbered.{put}
use Rattle.home_model.specs.Entry.{registered, takes_slot}
use Rattle.home_tables.specs.Table.{address_number, entry_of}
use Rattle.home_tables.specs.Home.{HomeState, home_of, kept_in, entry_at, AreKept}
use Rattle.home_tables.specs.declared.entry.Entry.{Entry}
use Rattle.home_tables.proofs.Entries.{changed_at, lost_slot, kept_entered}
use Rattle.home_tables.proofs.home.Home.enter_lost.Goals as goal

pub enter-requires : goal.enter-requires
enter-requires c =
    let found : kept_in c.self.inside.entries.entries c.args.page ≡ Some c.in-Some.entry.now = sym c.in-Some.ensures.value in
    let takes : takes_slot (entry_of (kept_in c.self.inside.entries.entries c.args.page)) ≡ true = subst (λ (H : HomeState). takes_slot (entry_at H c.args.page) ≡ true) (sym c.self.view_is) c.requires.slot in
    lost_slot c.in-Some.entry.now (subst (λ (o : Option Entry). takes_slot (entry_of o) ≡ true) found takes)

pub invariant_of-self-2 : goal.invariant_of-self-2
invariant_of-self-2 c =
    let e' = c.enter.new.self in
    let found : kept_in c.self.inside.entries.entries c.args.page ≡ Some c.in-Some.entry.now = sym c.in-Some.ensures.value in
    let takes : takes_slot (entry_of (kept_in c.self.inside.entries.entries c.args.page)) ≡ true = subst (λ (H : HomeState). takes_slot (entry_at H c.args.page) ≡ true) (sym c.self.view_is) c.requires.slot in
    let slot = lost_slot c.in-Some.entry.now (subst (λ (o : Option Entry). takes_slot (entry_of o) ≡ true) found takes) in
    subst (λ (es : List (ℕ × Entry)). AreKept es c.self.inside.idle c.self.inside.due) (sym (c.get_mut.follows.holds e').0)
    (kept_entered c.self.inside.entries.entries c.self.inside.idle c.self.inside.due c.args.page c.in-Some.entry.now e' c.self.invariant found slot c.enter.ensures.busy c.enter.ensures.nodes)

pub returns-clause-entered : goal.returns-clause-entered
returns-clause-entered c =
    λ floor.
    let e' = c.enter.new.self in
    let es = c.self.inside.entries.entries in
    let w = c.self.inside.watermark in
    let a = address_number c.args.fresh in
    let found : kept_in es c.args.page ≡ Some c.in-Some.entry.now = sym c.in-Some.ensures.value in
    subst (λ (H : HomeState). entry_at (home_of (c.get_mut.follows.lender e').entries w) ≡ put (entry_at H) c.args.page (registered (entry_at H c.args.page) floor a c.args.node)) c.self.view_is
    (
    subst (λ (new : List (ℕ × Entry)). entry_at (home_of new w) ≡ put (entry_at (home_of es w)) c.args.page (registered (entry_at (home_of es w) c.args.page) floor a c.args.node)) (sym (c.get_mut.follows.holds e').0)
    (changed_at es c.args.page c.in-Some.entry.now e' (λ E. registered E floor a c.args.node) found (c.enter.ensures.model floor))
    )
