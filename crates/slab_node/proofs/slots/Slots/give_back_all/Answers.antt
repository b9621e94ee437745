use Rattle.std.proofs.Common.{◌≡◌, ℕ, Bool, false, length, List, ◌∙◌, ap}
use Rattle.std.proofs.lemmas.List.{length-replicate}
use Rattle.slab_node.proofs.Counts.{all_free}
use Rattle.slab_node.proofs.slots.Slots.give_back_all.Goals as goal

pub invariant_of-self : goal.invariant_of-self
invariant_of-self c =
    let n : ℕ = length c.self.inside.taken.items in
    let len : c.len-self-inside.result ≡ n = c.len-self-inside.ensures ∙ (c.free_all.new.taken.ok.0 ∙ (ap (λ (q : List Bool). length q) c.free_all.ensures ∙ length-replicate {A = Bool} n false)) in
    rw c.free_all.ensures (all_free n c.len-self-inside.result len)
