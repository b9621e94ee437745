use Rattle.std.proofs.Common.{◌≡◌, ◌+◌, ◌-◌, ◌*◌, ℕ, [], length, get_or, ap, refl, ◌∙◌, arith}
use Rattle.page_image.specs.declared.header.Header.{Header}
use Rattle.page_image.specs.Image.{Image, removed}
use Rattle.page_image.specs.Layout.{header_of, image_of, packed}
use Rattle.page_image.proofs.ChangeLaws.{is_page_then, shows_then}
use Rattle.page_image.proofs.InsertLaws.{low_is, end_is, edge}
use Rattle.page_image.proofs.RemoveLaws.{gone_size, remove_fits, item_out, slots_ready, slot_out, removed_good, removed_header, removed_bytes}
use Rattle.page_image.proofs.changes.remove.Goals as goal

pub take_item-requires-clause-room : goal.take_item-requires-clause-room
take_item-requires-clause-room c =
    let im : Image = image_of c.args.bytes.now in
    let page = c.requires.page in
    let can = c.requires.can in
    let i : ℕ = c.args.i in
    let header : c.read-header.result ≡ header_of im = c.read-header.ensures ∙ page.header_is in
    let low : c.from-low.result ≡ 4096 - length (packed im.items) = c.from-low.ensures ∙ low_is im c.read-header.result can.slotted header in
    let end : c.item_end-end.result ≡ edge im i = c.item_end-end.ensures ∙ end_is im c.args.bytes.now i page.spelled can.slotted (omega (arith, can.there)) in
    let begin : c.item_end-begin.result ≡ edge im (i + 1) = c.item_end-begin.ensures ∙ end_is im c.args.bytes.now (i + 1) page.spelled can.slotted (omega (arith, can.there)) in
    remove_fits im i c.from-low.result c.item_end-end.result c.item_end-begin.result page.good can low end begin

pub close_slot-requires-clause-slots : goal.close_slot-requires-clause-slots
close_slot-requires-clause-slots c =
    let im : Image = image_of c.args.bytes.now in
    let page = c.requires.page in
    let can = c.requires.can in
    let i : ℕ = c.args.i in
    let header : c.read-header.result ≡ header_of im = c.read-header.ensures ∙ page.header_is in
    let low : c.from-low.result ≡ 4096 - length (packed im.items) = c.from-low.ensures ∙ low_is im c.read-header.result can.slotted header in
    let end : c.item_end-end.result ≡ edge im i = c.item_end-end.ensures ∙ end_is im c.args.bytes.now i page.spelled can.slotted (omega (arith, can.there)) in
    let begin : c.item_end-begin.result ≡ edge im (i + 1) = c.item_end-begin.ensures ∙ end_is im c.args.bytes.now (i + 1) page.spelled can.slotted (omega (arith, can.there)) in
    let size : c.item_end-end.result - c.item_end-begin.result ≡ length (get_or im.items i []) = gone_size im i c.item_end-end.result c.item_end-begin.result page.good can end begin in
    let number : c.from.result - i - 1 ≡ length im.items - i - 1 = ap (λ (q : ℕ). q - i - 1) (c.from.ensures ∙ ap (λ (h : Header). h.slots) header) in
    let mid = item_out im i c.from-low.result c.item_end-end.result (c.item_end-end.result - c.item_end-begin.result) c.args.bytes.now c.take_item.new.bytes page.good can page.spelled low end size c.take_item.ensures in
    slots_ready im i (32 + 2 * i) (c.from.result - i - 1) c.item_end-begin.result c.item_end-end.result c.take_item.new.bytes page.good can mid refl number begin end

pub returns-clause-page : goal.returns-clause-page
returns-clause-page c =
    let im : Image = image_of c.args.bytes.now in
    let page = c.requires.page in
    let can = c.requires.can in
    let i : ℕ = c.args.i in
    let header : c.read-header.result ≡ header_of im = c.read-header.ensures ∙ page.header_is in
    let low : c.from-low.result ≡ 4096 - length (packed im.items) = c.from-low.ensures ∙ low_is im c.read-header.result can.slotted header in
    let end : c.item_end-end.result ≡ edge im i = c.item_end-end.ensures ∙ end_is im c.args.bytes.now i page.spelled can.slotted (omega (arith, can.there)) in
    let begin : c.item_end-begin.result ≡ edge im (i + 1) = c.item_end-begin.ensures ∙ end_is im c.args.bytes.now (i + 1) page.spelled can.slotted (omega (arith, can.there)) in
    let size : c.item_end-end.result - c.item_end-begin.result ≡ length (get_or im.items i []) = gone_size im i c.item_end-end.result c.item_end-begin.result page.good can end begin in
    let number : c.from.result - i - 1 ≡ length im.items - i - 1 = ap (λ (q : ℕ). q - i - 1) (c.from.ensures ∙ ap (λ (h : Header). h.slots) header) in
    let mid = item_out im i c.from-low.result c.item_end-end.result (c.item_end-end.result - c.item_end-begin.result) c.args.bytes.now c.take_item.new.bytes page.good can page.spelled low end size c.take_item.ensures in
    let closed = slot_out im i (32 + 2 * i) (c.from.result - i - 1) c.item_end-begin.result c.item_end-end.result c.take_item.new.bytes c.close_slot.new.bytes page.good can mid refl number begin end c.close_slot.ensures in
    let new = removed_header im i c.args.lsn (c.read-header.result.slots - 1) c.shape.result (c.from-low.result + (c.item_end-end.result - c.item_end-begin.result)) (c.item_end-end.result - c.item_end-begin.result) c.read-header.result page.good can header refl c.shape.ensures (ap (λ (q : ℕ). q + (c.item_end-end.result - c.item_end-begin.result)) c.from-low.ensures) size in
    is_page_then (removed im i c.args.lsn) c.write.new.bytes (removed_good im i c.args.lsn page.good can c.requires.follows c.ranges.lsn.fits)
    (removed_bytes im i c.args.lsn _ c.close_slot.new.bytes c.write.new.bytes page.good can closed new c.write.ensures)

pub returns-clause-image : goal.returns-clause-image
returns-clause-image c =
    let im : Image = image_of c.args.bytes.now in
    let page = c.requires.page in
    let can = c.requires.can in
    let i : ℕ = c.args.i in
    let header : c.read-header.result ≡ header_of im = c.read-header.ensures ∙ page.header_is in
    let low : c.from-low.result ≡ 4096 - length (packed im.items) = c.from-low.ensures ∙ low_is im c.read-header.result can.slotted header in
    let end : c.item_end-end.result ≡ edge im i = c.item_end-end.ensures ∙ end_is im c.args.bytes.now i page.spelled can.slotted (omega (arith, can.there)) in
    let begin : c.item_end-begin.result ≡ edge im (i + 1) = c.item_end-begin.ensures ∙ end_is im c.args.bytes.now (i + 1) page.spelled can.slotted (omega (arith, can.there)) in
    let size : c.item_end-end.result - c.item_end-begin.result ≡ length (get_or im.items i []) = gone_size im i c.item_end-end.result c.item_end-begin.result page.good can end begin in
    let number : c.from.result - i - 1 ≡ length im.items - i - 1 = ap (λ (q : ℕ). q - i - 1) (c.from.ensures ∙ ap (λ (h : Header). h.slots) header) in
    let mid = item_out im i c.from-low.result c.item_end-end.result (c.item_end-end.result - c.item_end-begin.result) c.args.bytes.now c.take_item.new.bytes page.good can page.spelled low end size c.take_item.ensures in
    let closed = slot_out im i (32 + 2 * i) (c.from.result - i - 1) c.item_end-begin.result c.item_end-end.result c.take_item.new.bytes c.close_slot.new.bytes page.good can mid refl number begin end c.close_slot.ensures in
    let new = removed_header im i c.args.lsn (c.read-header.result.slots - 1) c.shape.result (c.from-low.result + (c.item_end-end.result - c.item_end-begin.result)) (c.item_end-end.result - c.item_end-begin.result) c.read-header.result page.good can header refl c.shape.ensures (ap (λ (q : ℕ). q + (c.item_end-end.result - c.item_end-begin.result)) c.from-low.ensures) size in
    shows_then (removed im i c.args.lsn) c.write.new.bytes (removed_good im i c.args.lsn page.good can c.requires.follows c.ranges.lsn.fits)
    (removed_bytes im i c.args.lsn _ c.close_slot.new.bytes c.write.new.bytes page.good can closed new c.write.ensures)
