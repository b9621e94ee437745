use Rattle.std.proofs.Common.{◌≡◌, ◌+◌, ◌*◌, ℕ, List, ◌++◌, length, take, drop, ap, ◌∙◌, subst, sym}
use Rattle.rm_base.specs.Fields.{field}
use Rattle.page_image.specs.Layout.{slot_bytes}
use Rattle.page_image.specs.Moves.{HasSlots}
use Rattle.page_image.proofs.ItemLaws.{length-slot_bytes}
use Rattle.page_image.proofs.StepLaws.{moved_up, lifted_part, opened_slot}
use Rattle.page_image.proofs.layout.open_slot.Goals as goal

-- the slots that were moved up are still slots
pub move_slots-requires : goal.move_slots-requires
move_slots-requires c =
    let given = c.requires.slots in
    let items : List (List ℕ) = given.2 in
    let at : ℕ = c.args.at in
    let n : ℕ = 2 * c.args.count in
    let b : List ℕ = slot_bytes c.args.from items in
    let size : length b ≡ n = length-slot_bytes c.args.from items ∙ ap (λ (q : ℕ). 2 * q) given.4 in
    let mid : c.copy_within.new.self ≡ take (at + 2) c.args.bytes.now ++ (b ++ drop (at + 2 + n) c.args.bytes.now) =
    moved_up at n given.0 b given.1 c.args.bytes.now c.copy_within.new.self c.copy_within.ensures.after given.3 size given.5 in
    (items, subst (λ (q : List ℕ). HasSlots q c.args.from c.args.to items) (sym (lifted_part at n b c.args.bytes.now c.copy_within.new.self mid c.requires.within size)) given.6)

pub returns : goal.returns
returns c = λ p g s items begins count gap parts slots.
    let at : ℕ = c.args.at in
    let n : ℕ = 2 * c.args.count in
    let b : List ℕ = slot_bytes c.args.from items in
    let size : length b ≡ n = length-slot_bytes c.args.from items ∙ ap (λ (q : ℕ). 2 * q) count in
    let mid : c.copy_within.new.self ≡ take (at + 2) c.args.bytes.now ++ (b ++ drop (at + 2 + n) c.args.bytes.now) =
    moved_up at n p b (g ++ s) c.args.bytes.now c.copy_within.new.self c.copy_within.ensures.after begins size parts in
    let new : c.move_slots.new.slots ≡ slot_bytes c.args.to items =
    c.move_slots.ensures items (subst (λ (q : List ℕ). HasSlots q c.args.from c.args.to items) (sym (lifted_part at n b c.args.bytes.now c.copy_within.new.self mid c.requires.within size)) slots) in
    opened_slot at n c.args.to p b g s c.move_slots.new.slots c.args.bytes.now c.copy_within.new.self c.put_u16.new.bytes mid c.put_u16.ensures begins size gap parts
    ∙ ap (λ (q : List ℕ). p ++ (field 2 c.args.to ++ (q ++ s))) new
