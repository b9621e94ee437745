use Rattle.std.proofs.Common.{◌≡◌, Bool, false, List, sym, ◌∙◌, subst}
use Rattle.slab_node.specs.Free.{is_free}
use Rattle.slab_node.proofs.Counts.{count_none}
use Rattle.slab_node.proofs.slots.Slots.first_free.Goals as goal

pub returns-then-self-eq0-clause-least : goal.returns-then-self-eq0-clause-least
returns-then-self-eq0-clause-least c =
    λ s.
    let none : is_free c.self.inside.taken.items s ≡ false = count_none c.self.inside.taken.items s (sym c.self.invariant.count ∙ c.if-self-eq0.true) in
    subst (λ (q : List Bool). is_free q s ≡ false) c.self.view_is none
