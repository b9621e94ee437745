use Rattle.std.proofs.Common.{◌+◌, ◌*◌, ◌∙◌, ap, drop}
use Rattle.rm_base.specs.Fields.{number}
use Rattle.page_image.specs.Image.{Image}
use Rattle.page_view.proofs.StampLaws.{stamp_at}
use Rattle.page_view.proofs.stamps.StampView.stamp.Goals as goal

pub returns : goal.returns
returns c = (
  c.if-i-ge-STAMPS_PER_PAGE.false,
  c.new.ensures ∙ c.get_u64.ensures
      ∙ ap (λ bytes. number 8 (drop (32 + 8 * c.args.i) bytes)) c.bytes.ensures.spelled
      ∙ stamp_at c.self.inside.page.now c.args.i c.self.invariant
      ∙ ap (λ (im : Image). number 8 (drop (8 * c.args.i) im.body)) c.self.view_is,
)
