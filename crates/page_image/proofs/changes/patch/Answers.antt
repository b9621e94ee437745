use Rattle.std.proofs.Common.{◌≡◌, ◌∙◌}
use Rattle.page_image.specs.Image.{Image, patched}
use Rattle.page_image.specs.Layout.{header_of, image_of}
use Rattle.page_image.proofs.ChangeLaws.{is_page_then, shows_then}
use Rattle.page_image.proofs.LessLaws.{patched_good, patched_body, patched_bytes}
use Rattle.page_image.proofs.changes.patch.Goals as goal

pub returns-clause-page : goal.returns-clause-page
returns-clause-page c =
    let im : Image = image_of c.args.bytes.now in
    let page = c.requires.page in
    let can = c.requires.can in
    let header : c.read.result ≡ header_of im = c.read.ensures ∙ page.header_is in
    let body = patched_body im c.args.at c.args.new.now c.args.bytes.now c.overwrite.new.bytes page.good can page.spelled c.overwrite.ensures in
    is_page_then (patched im c.args.at c.args.new.now c.args.lsn) c.write.new.bytes
    (patched_good im c.args.at c.args.new.now c.args.lsn page.good can c.requires.follows c.ranges.lsn.fits)
    (patched_bytes im c.args.at c.args.new.now c.args.lsn c.read.result c.overwrite.new.bytes c.write.new.bytes can header body c.write.ensures)

pub returns-clause-image : goal.returns-clause-image
returns-clause-image c =
    let im : Image = image_of c.args.bytes.now in
    let page = c.requires.page in
    let can = c.requires.can in
    let header : c.read.result ≡ header_of im = c.read.ensures ∙ page.header_is in
    let body = patched_body im c.args.at c.args.new.now c.args.bytes.now c.overwrite.new.bytes page.good can page.spelled c.overwrite.ensures in
    shows_then (patched im c.args.at c.args.new.now c.args.lsn) c.write.new.bytes
    (patched_good im c.args.at c.args.new.now c.args.lsn page.good can c.requires.follows c.ranges.lsn.fits)
    (patched_bytes im c.args.at c.args.new.now c.args.lsn c.read.result c.overwrite.new.bytes c.write.new.bytes can header body c.write.ensures)
