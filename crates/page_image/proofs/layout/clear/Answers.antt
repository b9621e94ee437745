use Rattle.std.proofs.Common.{refl}
use Rattle.page_image.proofs.StepLaws.{cleared}
use Rattle.page_image.proofs.layout.clear.Goals as goal

pub returns : goal.returns
returns c =
    λ p m s begins ends parts.
    cleared c.args.from c.args.to c.args.bytes.now _ c.make_zero.new.bytes p m s c.make_zero.ensures refl begins ends parts
