use Rattle.std.proofs.Common.{◌≡◌, ℕ, length, ap, arith}
use Rattle.page_image.specs.declared.header.Header.{Header}
use Rattle.page_image.specs.declared.kind.Kind.TheVariants.{Unmade}
use Rattle.page_image.specs.Image.{unmade}
use Rattle.page_image.specs.Layout.{header_of}
use Rattle.page_image.proofs.PageLaws.{length-zeros}
use Rattle.page_image.proofs.ChangeLaws.{is_page_then, shows_then, unmade_good, blank_bytes}
use Rattle.page_image.proofs.changes.write_blank.Goals as goal

pub write-requires : goal.write-requires
write-requires c = omega (arith, ap (λ xs. length xs) c.requires, length-zeros 4096)

header : (p q : ℕ) → q ≡ p → ◌≡◌ {A = Header} (record { kind = Unmade; slots = 0; page = q; lsn = 0; structure = 0; next = 0; low = 0; level = 0 }) (header_of (unmade p))
header p q e = ap (λ (n : ℕ). record { kind = Unmade; slots = 0; page = n; lsn = 0; structure = 0; next = 0; low = 0; level = 0 }) e

pub returns-clause-page : goal.returns-clause-page
returns-clause-page c =
    is_page_then (unmade c.args.page) c.write.new.bytes (unmade_good c.args.page c.number.ensures.bound)
    (blank_bytes c.args.page _ c.args.bytes.now c.write.new.bytes c.requires (header c.args.page c.number.result c.number.ensures.value) c.write.ensures)

pub returns-clause-image : goal.returns-clause-image
returns-clause-image c =
    shows_then (unmade c.args.page) c.write.new.bytes (unmade_good c.args.page c.number.ensures.bound)
    (blank_bytes c.args.page _ c.args.bytes.now c.write.new.bytes c.requires (header c.args.page c.number.result c.number.ensures.value) c.write.ensures)
