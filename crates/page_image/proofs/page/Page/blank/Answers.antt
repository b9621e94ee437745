use Rattle.std.proofs.Common.{rules}
use Rattle.page_image.specs.Image.{zeros}
use Rattle.page_image.proofs.page.Page.blank.Goals as goal

pub write_blank-requires : goal.write_blank-requires
unfolding zeros
write_blank-requires c = search rules
