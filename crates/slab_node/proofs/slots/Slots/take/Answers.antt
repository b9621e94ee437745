use Rattle.std.proofs.Common.{◌≡◌, ◌≤◌, ◌<◌, ℕ, Bool, true, false, List, length, sym, ◌∙◌, subst, arith}
use Rattle.slab_node.specs.Free.{is_free}
use Rattle.slab_node.proofs.Counts.{count_none, count_taken, taken_before}
use Rattle.slab_node.proofs.slots.Slots.take.Goals as goal

pub returns-then-self-eq0-clause-least : goal.returns-then-self-eq0-clause-least
returns-then-self-eq0-clause-least c =
    λ s.
    let none : is_free c.self.inside.taken.items s ≡ false = count_none c.self.inside.taken.items s (sym c.self.invariant.count ∙ c.if-self-eq0.true) in
    subst (λ (q : List Bool). is_free q s ≡ false) c.self.view_is none

pub invariant_of-self : goal.invariant_of-self
invariant_of-self c =
    let taken = c.self.inside.taken.items in
    let slot = c.in_ok-slot.slot in
    let free : is_free taken slot ≡ true = subst (λ (q : List Bool). is_free q slot ≡ true) c.as_slice.ensures.value c.in_ok-slot.ensures.free in
    let least : (t : ℕ) → c.self.inside.first ≤ t → t < slot → is_free taken t ≡ false = subst (λ (q : List Bool). (t : ℕ) → c.self.inside.first ≤ t → t < slot → is_free q t ≡ false) c.as_slice.ensures.value c.in_ok-slot.ensures.least in
    let within : slot < length taken = subst (λ (q : List Bool). slot < length q) c.as_slice.ensures.value c.in_ok-slot.ensures.within in
    let fewer = count_taken taken slot free in
    let was = c.self.invariant.count in
    record { before = taken_before taken c.self.inside.first slot c.self.invariant.before least within; count = omega (arith, fewer, was) }
