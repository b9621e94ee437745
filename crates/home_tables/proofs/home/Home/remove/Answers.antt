use Rattle.std.proofs.Common.{◌≡◌, ◌≢◌, eqb-true, ◌+◌, ◌∙◌, ℕ, Bool, true, false, List, Some, None, nat_eq, if◌then◌else◌, refl, sym, subst, arith}
use Rattle.home_tables.specs.Home.{HomeState, kept_in, kept}
use Rattle.home_tables.specs.declared.entry.Entry.{Entry}
use Rattle.home_tables.proofs.Entries.{at_put, kept_removed}
use Rattle.std.specs.Map.{keys_of}
use Rattle.std.specs.List.{slice_get}
use Rattle.home_tables.specs.Places.{pages_in, is_among}
use Rattle.home_tables.proofs.Passing.{keeps_before}
use Rattle.home_tables.proofs.home.Home.remove.Goals as goal

pub mark_idle-requires : goal.mark_idle-requires
mark_idle-requires c = c.self.invariant.room.0

pub mark_due-requires : goal.mark_due-requires
mark_due-requires c = c.self.invariant.room.1

pub invariant_of-self-2 : goal.invariant_of-self-2
invariant_of-self-2 c =
    let es = c.self.inside.entries.entries in
    let new = c.swap_remove.new.self.entries in
    let found : kept_in es c.args.page ≡ Some c.in_ok-entry.entry = sym c.in_ok-entry.ensures.value in
    kept_removed es new c.self.inside.idle c.mark_idle.new.idle c.self.inside.due c.mark_due.new.due c.args.page c.in_ok-entry.entry c.new-nobody.result c.self.invariant found
    (at_put es new c.args.page None c.in_ok-entry.ensures.updates.0) c.mark_idle.ensures.marks c.mark_idle.ensures.bound c.new-nobody.ensures.members c.mark_due.ensures.marks c.mark_due.ensures.bound

here_none : (es : List (ℕ × Entry)) (p : ℕ) (b : Bool) → b ≡ true → (if b then None else kept_in es p) ≡ None
here_none es p true h = refl
here_none es p false h = absurd cc

not_here : (es : List (ℕ × Entry)) (p q : ℕ) (b : Bool) → nat_eq q p ≡ b → q ≢ p → (if b then None else kept_in es q) ≡ kept_in es q
not_here es p q true t apart = absurd (apart (eqb-true q p t))
not_here es p q false t apart = refl

pub returns-clause-gone : goal.returns-clause-gone
returns-clause-gone c =
    let es = c.self.inside.entries.entries in
    let p : ℕ = c.args.page in
    let same : nat_eq p p ≡ true = grind arith in
    at_put es c.swap_remove.new.self.entries p None c.in_ok-entry.ensures.updates.0 p ∙ here_none es p (nat_eq p p) same

pub returns-clause-beside : goal.returns-clause-beside
returns-clause-beside c =
    λ q apart.
    let es = c.self.inside.entries.entries in
    let new = c.swap_remove.new.self.entries in
    let p : ℕ = c.args.page in
    subst (λ (H : HomeState). kept_in new q ≡ kept H q) c.self.view_is (at_put es new p None c.in_ok-entry.ensures.updates.0 q ∙ not_here es p q (nat_eq q p) refl apart)

pub returns-clause-front : goal.returns-clause-front
returns-clause-front c =
    let es = c.self.inside.entries.entries in
    let new = c.swap_remove.new.self.entries in
    let p : ℕ = c.args.page in
    subst (λ (H : HomeState). (i : ℕ) → is_among (i + 1) (pages_in H) p ≡ false → slice_get (keys_of new) i ≡ slice_get (pages_in H) i) c.self.view_is
    (subst (λ (fs : List (ℕ × Entry)). (i : ℕ) → is_among (i + 1) (keys_of es) p ≡ false → slice_get (keys_of fs) i ≡ slice_get (keys_of es) i) (sym c.in_ok-entry.ensures.entries) (keeps_before es p))
