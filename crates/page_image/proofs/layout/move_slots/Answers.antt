use Rattle.std.proofs.Common.{◌≡◌, ◌<◌, ◌+◌, ◌-◌, ℕ, List, length, take, ◌∙◌, arith, rules}
use Rattle.page_image.specs.Layout.{packed}
use Rattle.page_image.proofs.StepLaws.{moved_all, moved_more, slot_read, slot_goes, slots_there}
use Rattle.page_image.proofs.layout.move_slots.Goals as goal

pub overflow_sub-place : goal.overflow_sub-place
overflow_sub-place c =
    let items : List (List ℕ) = c.requires.0 in
    let within : c.loop-i.i < length items = omega (arith, slots_there c.args.from c.args.to items c.args.slots.now c.requires.1) in
    (slot_goes c.args.from c.args.to c.loop-i.i c.from-place.result items c.args.slots.now c.requires.1
    (c.from-place.ensures ∙ c.get_u16.ensures ∙ slot_read c.args.from c.args.to c.loop-i.i items c.args.slots.now c.loop-i.slots c.requires.1 within (c.loop-i.invariant items c.requires.1))).0

pub overflow_cast-place : goal.overflow_cast-place
overflow_cast-place c =
    let items : List (List ℕ) = c.requires.0 in
    let within : c.loop-i.i < length items = omega (arith, slots_there c.args.from c.args.to items c.args.slots.now c.requires.1) in
    let goes : c.from-place.result + c.args.to - c.args.from ≡ c.args.to - length (packed (take (c.loop-i.i + 1) items)) =
    (slot_goes c.args.from c.args.to c.loop-i.i c.from-place.result items c.args.slots.now c.requires.1
    (c.from-place.ensures ∙ c.get_u16.ensures ∙ slot_read c.args.from c.args.to c.loop-i.i items c.args.slots.now c.loop-i.slots c.requires.1 within (c.loop-i.invariant items c.requires.1))).1 in
    let small : c.from-place.result + c.args.to - c.args.from < 65536 = omega (arith, c.requires.1.stays_in_page) in
    search rules

pub loop-i-preserved : goal.loop-i-preserved
loop-i-preserved c = λ items slots.
    let within : c.loop-i.i < length items = omega (arith, slots_there c.args.from c.args.to items c.args.slots.now slots) in
    c.put_u16.ensures
    ∙ moved_more c.args.from c.args.to c.loop-i.i c.from-place.result items c.args.slots.now c.loop-i.slots slots within (c.loop-i.invariant items slots)
    (c.from-place.ensures ∙ c.get_u16.ensures ∙ slot_read c.args.from c.args.to c.loop-i.i items c.args.slots.now c.loop-i.slots slots within (c.loop-i.invariant items slots))

pub returns : goal.returns
returns c = λ items slots.
    c.loop-i.invariant items slots
    ∙ moved_all c.args.from c.args.to c.loop-i.i items (omega (arith, slots_there c.args.from c.args.to items c.args.slots.now slots))
