use Rattle.std.proofs.Common.{◌≡◌, ◌+◌, ◌-◌, ◌++◌, ◌∷◌, ℕ, List, [], take, drop, get_or, slice_get, Some, ap, sym, ◌∙◌}
use Rattle.std.specs.Option.{option_copied}
use Rattle.std.proofs.lemmas.Option.{get_or_from_slice_get}
use Rattle.redo_record.specs.declared.redo.Record.{Record}
use Rattle.redo_record.specs.declared.redo.Record.TheVariants.{InsertSlot}
use Rattle.tree_change.specs.Splits.{inserts, right_half, without_key}
use Rattle.tree_change.proofs.HalfLaws.{moved_of_inner}
use Rattle.tree_change.proofs.AnswerLaws.{on_ok}
use Rattle.tree_change.proofs.halves.move_children.Goals as goal

pub returns : goal.returns
returns c =
    let items : List (List ℕ) = c.args.page.now.items in
    let get : slice_get items c.from.result ≡ Some c.unwrap.result.now = sym c.item.ensures ∙ ap option_copied c.unwrap.ensures in
    let here : get_or items c.from.result [] ≡ c.unwrap.result.now = get_or_from_slice_get items c.from.result c.unwrap.result.now [] get in
    let at : get_or items c.args.at [] ≡ c.unwrap.result.now = ap (λ (n : ℕ). get_or items n []) (sym c.from.ensures) ∙ here in
    let first : c.push.new.self ≡ c.args.records.now ++ InsertSlot c.args.new 0 (without_key c.unwrap.result.now) ∷ [] =
    c.in_ok-push.ensures.ok ∙ ap (λ (bytes : List ℕ). c.args.records.now ++ InsertSlot c.args.new 0 bytes ∷ []) c.in_ok-bytes.ensures in
    on_ok (c.move_items.new.records ≡ c.push.new.self ++ inserts c.args.new (c.args.at + 1 - c.args.at) (take (c.slots-slots.result - (c.args.at + 1)) (drop (c.args.at + 1) items)))
    (c.move_items.new.records ≡ c.args.records.now ++ inserts c.args.new 0 (right_half c.args.page.now c.args.at))
    c.move_items.result c.move_items.ensures
    (λ e. e ∙ ap (λ (l : List Record). l ++ inserts c.args.new (c.args.at + 1 - c.args.at) (take (c.slots-slots.result - (c.args.at + 1)) (drop (c.args.at + 1) items))) first
    ∙ moved_of_inner c.args.page.now c.args.at c.args.new c.slots-slots.result c.unwrap.result.now c.args.records.now c.requires.inner c.requires.within at c.slots-slots.ensures.value)
