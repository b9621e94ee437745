use Rattle.std.proofs.Common.{◌≡◌, ◌∙◌, refl}
use Rattle.page_image.specs.Image.{Image, cut_from}
use Rattle.page_image.specs.Layout.{header_of, image_of}
use Rattle.page_image.proofs.ChangeLaws.{is_page_then, shows_then}
use Rattle.page_image.proofs.InsertLaws.{edge, end_is}
use Rattle.page_image.proofs.LessLaws.{cut_good, cut_fits, cut_cleared, cut_header, cut_bytes}
use Rattle.page_image.proofs.changes.cut.Goals as goal

pub clear-requires-clause-order : goal.clear-requires-clause-order
clear-requires-clause-order c =
    let im : Image = image_of c.args.bytes.now in
    let page = c.requires.page in
    let can = c.requires.can in
    cut_fits im c.args.from c.item_end-end.result page.good can (c.item_end-end.ensures ∙ end_is im c.args.bytes.now c.args.from page.spelled can.slotted can.within)

pub returns-clause-page : goal.returns-clause-page
returns-clause-page c =
    let im : Image = image_of c.args.bytes.now in
    let page = c.requires.page in
    let can = c.requires.can in
    let header : c.read-header.result ≡ header_of im = c.read-header.ensures ∙ page.header_is in
    let end : c.item_end-end.result ≡ edge im c.args.from = c.item_end-end.ensures ∙ end_is im c.args.bytes.now c.args.from page.spelled can.slotted can.within in
    let parts = cut_cleared im c.args.from c.item_end-end.result c.args.bytes.now c.clear.new.bytes page.good can page.spelled end c.clear.ensures in
    let new = cut_header im c.args.from c.args.lsn c.args.from c.item_end-end.result c.read-header.result can header refl end in
    is_page_then (cut_from im c.args.from c.args.lsn) c.write.new.bytes
    (cut_good im c.args.from c.args.lsn page.good can c.requires.follows c.ranges.lsn.fits)
    (cut_bytes im c.args.from c.args.lsn _ c.clear.new.bytes c.write.new.bytes can parts new c.write.ensures)

pub returns-clause-image : goal.returns-clause-image
returns-clause-image c =
    let im : Image = image_of c.args.bytes.now in
    let page = c.requires.page in
    let can = c.requires.can in
    let header : c.read-header.result ≡ header_of im = c.read-header.ensures ∙ page.header_is in
    let end : c.item_end-end.result ≡ edge im c.args.from = c.item_end-end.ensures ∙ end_is im c.args.bytes.now c.args.from page.spelled can.slotted can.within in
    let parts = cut_cleared im c.args.from c.item_end-end.result c.args.bytes.now c.clear.new.bytes page.good can page.spelled end c.clear.ensures in
    let new = cut_header im c.args.from c.args.lsn c.args.from c.item_end-end.result c.read-header.result can header refl end in
    shows_then (cut_from im c.args.from c.args.lsn) c.write.new.bytes
    (cut_good im c.args.from c.args.lsn page.good can c.requires.follows c.ranges.lsn.fits)
    (cut_bytes im c.args.from c.args.lsn _ c.clear.new.bytes c.write.new.bytes can parts new c.write.ensures)
