use Rattle.std.proofs.Common.{rules}
use Rattle.page_image.specs.Image.{zeros}
use Rattle.page_image.proofs.layout.make_zero.Goals as goal

pub returns : goal.returns
unfolding zeros
returns c = search rules
