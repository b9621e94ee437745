use Rattle.std.proofs.Common.{◌≡◌, ◌++◌, ◌∙◌, List, length, take, drop, map, sym, ap, subst}
use Rattle.std.proofs.lemmas.List.{take_at}
use Rattle.slab_node.specs.Slab.{SlabState, renewed}
use Rattle.slab_node.specs.Slabs.{AreSlabs}
use Rattle.slab_node.proofs.Renewing.{renewed_slabs}
use Rattle.slab_node.proofs.slabs.Slabs.renew.Goals as goal

pub invariant_of-self : goal.invariant_of-self
invariant_of-self c =
    let new : List SlabState = c.renew_all.new.slabs in
    let items : List SlabState = c.self.inside.slabs.items in
    let same = c.as_mut_slice.ensures.value in
    let count = c.renew_all.ensures.count in
    let size : length new ≡ c.self.inside.slabs.len = count ∙ ap (λ (xs : List SlabState). length xs) same ∙ sym c.self.inside.slabs.ok.0 in
    let whole : take c.self.inside.slabs.len (new ++ drop (length new) items) ≡ map renewed items = take_at new (drop (length new) items) c.self.inside.slabs.len size ∙ c.renew_all.ensures.all ∙ ap (λ (xs : List SlabState). map renewed xs) same in
    subst (λ (xs : List SlabState). AreSlabs xs) (sym whole) (renewed_slabs items c.self.invariant)
