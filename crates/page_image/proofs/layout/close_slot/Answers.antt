use Rattle.std.proofs.Common.{◌≡◌, ◌*◌, ℕ, List, ◌++◌, length, drop, ap, ◌∙◌, subst, sym}
use Rattle.page_image.specs.Image.{zeros}
use Rattle.page_image.specs.Layout.{slot_bytes}
use Rattle.page_image.specs.Moves.{HasSlots}
use Rattle.page_image.proofs.ItemLaws.{length-slot_bytes}
use Rattle.page_image.proofs.StepLaws.{lowered, lowered_part, closed_slot}
use Rattle.page_image.proofs.layout.close_slot.Goals as goal

-- the slots that were moved down are still slots
pub move_slots-requires : goal.move_slots-requires
move_slots-requires c =
    let given = c.requires.slots in
    let items : List (List ℕ) = given.3 in
    let at : ℕ = c.args.at in
    let n : ℕ = 2 * c.args.count in
    let b : List ℕ = slot_bytes c.args.from items in
    let size : length b ≡ n = length-slot_bytes c.args.from items ∙ ap (λ (q : ℕ). 2 * q) given.6 in
    let mid : c.copy_within.new.self ≡ given.0 ++ (b ++ (drop n (given.1 ++ b) ++ given.2)) =
    lowered at n given.0 given.1 b given.2 c.args.bytes.now c.copy_within.new.self c.copy_within.ensures.after given.4 given.5 size given.7 in
    (items, subst (λ (q : List ℕ). HasSlots q c.args.from c.args.to items) (sym (lowered_part at n given.0 b (drop n (given.1 ++ b) ++ given.2) c.copy_within.new.self mid given.4 size)) given.8)

pub returns : goal.returns
returns c =
    λ p g s items begins count gap parts slots.
    let at : ℕ = c.args.at in
    let n : ℕ = 2 * c.args.count in
    let b : List ℕ = slot_bytes c.args.from items in
    let size : length b ≡ n = length-slot_bytes c.args.from items ∙ ap (λ (q : ℕ). 2 * q) count in
    let mid : c.copy_within.new.self ≡ p ++ (b ++ (drop n (g ++ b) ++ s)) =
    lowered at n p g b s c.args.bytes.now c.copy_within.new.self c.copy_within.ensures.after begins gap size parts in
    let new : c.move_slots.new.slots ≡ slot_bytes c.args.to items =
    c.move_slots.ensures items (subst (λ (q : List ℕ). HasSlots q c.args.from c.args.to items) (sym (lowered_part at n p b (drop n (g ++ b) ++ s) c.copy_within.new.self mid begins size)) slots) in
    closed_slot at n p g b s c.move_slots.new.slots c.args.bytes.now c.copy_within.new.self c.put_u16.new.bytes mid c.put_u16.ensures begins gap size (ap (λ (q : List ℕ). length q) new ∙ length-slot_bytes c.args.to items ∙ ap (λ (q : ℕ). 2 * q) count)
    ∙ ap (λ (q : List ℕ). p ++ (q ++ (zeros 2 ++ s))) new
