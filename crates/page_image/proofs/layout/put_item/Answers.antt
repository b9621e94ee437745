use Rattle.page_image.proofs.StepLaws.{placed_item}
use Rattle.page_image.proofs.layout.put_item.Goals as goal

pub returns : goal.returns
returns c =
    λ p z b s begins room ends parts.
    placed_item c.args.from c.args.to c.args.bytes.now c.move_bytes.new.bytes c.args.item.now c.copy_from_slice.new.self p z b s c.move_bytes.ensures c.copy_from_slice.ensures.after begins room ends parts
