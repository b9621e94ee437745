use Rattle.std.proofs.Common.{◌≡◌, ◌∙◌}
use Rattle.page_image.specs.Image.{Image, linked}
use Rattle.page_image.specs.Layout.{header_of, image_of}
use Rattle.page_image.proofs.ChangeLaws.{is_page_then, shows_then}
use Rattle.page_image.proofs.LessLaws.{linked_good, linked_bytes}
use Rattle.page_image.proofs.changes.link.Goals as goal

pub returns-clause-page : goal.returns-clause-page
returns-clause-page c =
    let im : Image = image_of c.args.bytes.now in
    let page = c.requires.page in
    let can = c.requires.can in
    let header : c.read.result ≡ header_of im = c.read.ensures ∙ page.header_is in
    is_page_then (linked im c.args.next c.args.lsn) c.write.new.bytes
    (linked_good im c.args.next c.args.lsn page.good can c.requires.follows c.ranges.lsn.fits)
    (linked_bytes im c.args.next c.args.lsn c.read.result c.args.bytes.now c.write.new.bytes page.spelled header c.write.ensures)

pub returns-clause-image : goal.returns-clause-image
returns-clause-image c =
    let im : Image = image_of c.args.bytes.now in
    let page = c.requires.page in
    let can = c.requires.can in
    let header : c.read.result ≡ header_of im = c.read.ensures ∙ page.header_is in
    shows_then (linked im c.args.next c.args.lsn) c.write.new.bytes
    (linked_good im c.args.next c.args.lsn page.good can c.requires.follows c.ranges.lsn.fits)
    (linked_bytes im c.args.next c.args.lsn c.read.result c.args.bytes.now c.write.new.bytes page.spelled header c.write.ensures)
