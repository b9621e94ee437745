use Rattle.std.proofs.Common.{length, refl}
use Rattle.page_image.proofs.StepLaws.{overwritten}
use Rattle.page_image.proofs.layout.overwrite.Goals as goal

pub returns : goal.returns
returns c =
    λ p m s begins size parts.
    overwritten c.args.at (length c.args.new.now) c.args.bytes.now _ c.copy_from_slice.new.self c.args.new.now p m s c.copy_from_slice.ensures.after refl refl begins size parts
