use Rattle.std.proofs.Common.{◌≡◌, ℕ, List, false, ap, sym, ◌∙◌}
use Rattle.page_latches.specs.Set.{has}
use Rattle.page_latches.proofs.Sets.{added_set}
use Rattle.page_latches.proofs.node_set.NodeSet.insert.Goals as goal

pub invariant_of-self : goal.invariant_of-self
invariant_of-self c =
    let new : has c.self.inside.nodes.items c.args.node ≡ false = ap (λ (q : List ℕ). has q c.args.node) c.self.view_is ∙ sym c.contains.ensures ∙ c.if-not-contains.true in
    rw c.push.ensures.items (added_set c.self.inside.nodes.items c.args.node c.self.invariant new c.number-number.ensures.bound)
