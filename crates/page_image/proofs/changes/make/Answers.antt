use Rattle.std.proofs.Common.{ap, refl}
use Rattle.page_image.specs.declared.header.Header.{Header}
use Rattle.page_image.specs.Image.{Image, made}
use Rattle.page_image.specs.Layout.{header_of, image_of}
use Rattle.page_image.proofs.HeaderLaws.{same_headers}
use Rattle.page_image.proofs.ChangeLaws.{is_page_then, shows_then, made_good, made_bytes}
use Rattle.page_image.proofs.changes.make.Goals as goal

pub returns-clause-page : goal.returns-clause-page
returns-clause-page c =
    let im : Image = image_of c.args.bytes.now in
    let done : Image = made im c.args.kind c.args.level c.args.lsn in
    let header = same_headers (record { kind = c.args.kind; slots = 0; page = c.read-header.result.page; lsn = c.args.lsn; structure = c.args.lsn; next = 0; low = c.empty_low.result; level = c.args.level }) (header_of done)
    refl refl (ap (λ (h : Header). h.page) c.read-header.ensures) refl refl refl c.empty_low.ensures refl in
    is_page_then done c.write.new.bytes (made_good im c.args.kind c.args.level c.args.lsn c.requires.page.good c.requires.can c.requires.follows c.ranges.lsn.fits)
    (made_bytes im c.args.kind c.args.level c.args.lsn _ c.args.bytes.now c.write.new.bytes c.requires.can c.requires.page.spelled header c.write.ensures)

pub returns-clause-image : goal.returns-clause-image
returns-clause-image c =
    let im : Image = image_of c.args.bytes.now in
    let done : Image = made im c.args.kind c.args.level c.args.lsn in
    let header = same_headers (record { kind = c.args.kind; slots = 0; page = c.read-header.result.page; lsn = c.args.lsn; structure = c.args.lsn; next = 0; low = c.empty_low.result; level = c.args.level }) (header_of done)
    refl refl (ap (λ (h : Header). h.page) c.read-header.ensures) refl refl refl c.empty_low.ensures refl in
    shows_then done c.write.new.bytes (made_good im c.args.kind c.args.level c.args.lsn c.requires.page.good c.requires.can c.requires.follows c.ranges.lsn.fits)
    (made_bytes im c.args.kind c.args.level c.args.lsn _ c.args.bytes.now c.write.new.bytes c.requires.can c.requires.page.spelled header c.write.ensures)
