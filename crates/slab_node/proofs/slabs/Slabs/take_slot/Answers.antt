use Rattle.std.proofs.Common.{◌≡◌, ◌<◌, ◌∙◌, List, length, true, sym, subst}
use Rattle.slab_node.specs.Slab.{SlabState}
use Rattle.slab_node.specs.Slabs.{has_room, slab_at}
use Rattle.slab_node.proofs.SlabLists.{room_at, room_gives}
use Rattle.slab_node.proofs.slabs.Slabs.take_slot.Goals as goal

pub returns-clause-none : goal.returns-clause-none
returns-clause-none c =
    let xs = c.self.inside.slabs.items in
    let S = c.index_mut.result.now in
    let within : c.in_ok-place.place < length xs = subst (λ (ys : List SlabState). c.in_ok-place.place < length ys) (sym c.self.view_is) c.in_ok-place.ensures.within in
    let room : has_room (slab_at xs c.in_ok-place.place) ≡ true = subst (λ (ys : List SlabState). has_room (slab_at ys c.in_ok-place.place) ≡ true) (sym c.self.view_is) c.in_ok-place.ensures.room in
    λ none. absurd (room_gives S c.take_slot.result (sym (room_at xs c.in_ok-place.place S within c.index_mut.ensures.value) ∙ room) c.take_slot.ensures.least none)
