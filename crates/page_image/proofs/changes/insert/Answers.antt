use Rattle.std.proofs.Common.{◌≡◌, ◌+◌, ◌-◌, ◌*◌, ℕ, List, length, ap, refl, ◌∙◌}
use Rattle.page_image.specs.declared.header.Header.{Header}
use Rattle.page_image.specs.Image.{Image, inserted}
use Rattle.page_image.specs.Layout.{header_of, image_of, packed}
use Rattle.page_image.proofs.ChangeLaws.{is_page_then, shows_then, inserted_good}
use Rattle.page_image.proofs.InsertLaws.{item_in, slot_in, inserted_header, inserted_bytes, slots_ready, insert_fits, low_is, end_is, edge}
use Rattle.page_image.proofs.changes.insert.Goals as goal

pub put_item-requires-clause-room : goal.put_item-requires-clause-room
put_item-requires-clause-room c =
    let im : Image = image_of c.args.bytes.now in
    let page = c.requires.page in
    let can = c.requires.can in
    (insert_fits im c.args.i c.args.item.now c.from.result c.item_end-end.result page.good can
    (c.from.ensures ∙ low_is im c.read-header.result can.slotted (c.read-header.ensures ∙ page.header_is))
    (c.item_end-end.ensures ∙ end_is im c.args.bytes.now c.args.i page.spelled can.slotted can.place)).0

pub overflow_sub-end : goal.overflow_sub-end
overflow_sub-end c =
    let im : Image = image_of c.args.bytes.now in
    let page = c.requires.page in
    let can = c.requires.can in
    (insert_fits im c.args.i c.args.item.now c.from.result c.item_end-end.result page.good can
    (c.from.ensures ∙ low_is im c.read-header.result can.slotted (c.read-header.ensures ∙ page.header_is))
    (c.item_end-end.ensures ∙ end_is im c.args.bytes.now c.args.i page.spelled can.slotted can.place)).1

pub open_slot-requires-clause-slots : goal.open_slot-requires-clause-slots
open_slot-requires-clause-slots c =
    let im : Image = image_of c.args.bytes.now in
    let page = c.requires.page in
    let can = c.requires.can in
    let i : ℕ = c.args.i in
    let item : List ℕ = c.args.item.now in
    let low : c.from.result ≡ 4096 - length (packed im.items) = c.from.ensures ∙ low_is im c.read-header.result can.slotted (c.read-header.ensures ∙ page.header_is) in
    let end : c.item_end-end.result ≡ edge im i = c.item_end-end.ensures ∙ end_is im c.args.bytes.now i page.spelled can.slotted can.place in
    let number : c.from-2.result - i ≡ length im.items - i = ap (λ (q : ℕ). q - i) (c.from-2.ensures ∙ ap (λ (h : Header). h.slots) (c.read-header.ensures ∙ page.header_is)) in
    let mid = item_in im i item c.args.bytes.now c.put_item.new.bytes (c.from.result - length item) c.item_end-end.result page.good can page.spelled (ap (λ (q : ℕ). q - length item) low) end c.put_item.ensures in
    slots_ready im i item c.put_item.new.bytes (32 + 2 * i) (c.from-2.result - i) c.item_end-end.result (c.item_end-end.result - length item) page.good can mid refl number end (ap (λ (q : ℕ). q - length item) end)

pub returns-clause-page : goal.returns-clause-page
returns-clause-page c =
    let im : Image = image_of c.args.bytes.now in
    let page = c.requires.page in
    let can = c.requires.can in
    let i : ℕ = c.args.i in
    let item : List ℕ = c.args.item.now in
    let header : c.read-header.result ≡ header_of im = c.read-header.ensures ∙ page.header_is in
    let low : c.from.result ≡ 4096 - length (packed im.items) = c.from.ensures ∙ low_is im c.read-header.result can.slotted header in
    let end : c.item_end-end.result ≡ edge im i = c.item_end-end.ensures ∙ end_is im c.args.bytes.now i page.spelled can.slotted can.place in
    let number : c.from-2.result - i ≡ length im.items - i = ap (λ (q : ℕ). q - i) (c.from-2.ensures ∙ ap (λ (h : Header). h.slots) header) in
    let mid = item_in im i item c.args.bytes.now c.put_item.new.bytes (c.from.result - length item) c.item_end-end.result page.good can page.spelled (ap (λ (q : ℕ). q - length item) low) end c.put_item.ensures in
    let opened = slot_in im i item c.put_item.new.bytes c.open_slot.new.bytes (32 + 2 * i) (c.from-2.result - i) c.item_end-end.result (c.item_end-end.result - length item) page.good can mid refl number end (ap (λ (q : ℕ). q - length item) end) c.open_slot.ensures in
    let new = inserted_header im i item c.args.lsn (c.read-header.result.slots + 1) c.shape.result (c.from.result - length item) c.read-header.result page.good can header refl c.shape.ensures (ap (λ (q : ℕ). q - length item) c.from.ensures) in
    is_page_then (inserted im i item c.args.lsn) c.write.new.bytes (inserted_good im i item c.args.lsn page.good can c.requires.follows c.ranges.lsn.fits)
    (inserted_bytes im i item c.args.lsn _ c.open_slot.new.bytes c.write.new.bytes page.good can opened new c.write.ensures)

pub returns-clause-image : goal.returns-clause-image
returns-clause-image c =
    let im : Image = image_of c.args.bytes.now in
    let page = c.requires.page in
    let can = c.requires.can in
    let i : ℕ = c.args.i in
    let item : List ℕ = c.args.item.now in
    let header : c.read-header.result ≡ header_of im = c.read-header.ensures ∙ page.header_is in
    let low : c.from.result ≡ 4096 - length (packed im.items) = c.from.ensures ∙ low_is im c.read-header.result can.slotted header in
    let end : c.item_end-end.result ≡ edge im i = c.item_end-end.ensures ∙ end_is im c.args.bytes.now i page.spelled can.slotted can.place in
    let number : c.from-2.result - i ≡ length im.items - i = ap (λ (q : ℕ). q - i) (c.from-2.ensures ∙ ap (λ (h : Header). h.slots) header) in
    let mid = item_in im i item c.args.bytes.now c.put_item.new.bytes (c.from.result - length item) c.item_end-end.result page.good can page.spelled (ap (λ (q : ℕ). q - length item) low) end c.put_item.ensures in
    let opened = slot_in im i item c.put_item.new.bytes c.open_slot.new.bytes (32 + 2 * i) (c.from-2.result - i) c.item_end-end.result (c.item_end-end.result - length item) page.good can mid refl number end (ap (λ (q : ℕ). q - length item) end) c.open_slot.ensures in
    let new = inserted_header im i item c.args.lsn (c.read-header.result.slots + 1) c.shape.result (c.from.result - length item) c.read-header.result page.good can header refl c.shape.ensures (ap (λ (q : ℕ). q - length item) c.from.ensures) in
    shows_then (inserted im i item c.args.lsn) c.write.new.bytes (inserted_good im i item c.args.lsn page.good can c.requires.follows c.ranges.lsn.fits)
    (inserted_bytes im i item c.args.lsn _ c.open_slot.new.bytes c.write.new.bytes page.good can opened new c.write.ensures)
