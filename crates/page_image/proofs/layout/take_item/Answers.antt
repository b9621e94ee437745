use Rattle.std.proofs.Common.{refl}
use Rattle.page_image.proofs.StepLaws.{taken_item}
use Rattle.page_image.proofs.layout.take_item.Goals as goal

pub returns : goal.returns
returns c =
    λ p b x s begins item ends parts.
    taken_item c.args.from c.args.to c.args.size c.args.bytes.now c.move_bytes.new.bytes _ c.make_zero.new.bytes p b x s c.move_bytes.ensures c.make_zero.ensures refl begins item ends parts
