use Rattle.std.proofs.Common.{◌≡◌, slice_get, Some, subst}
use Rattle.page_image.specs.Image.{Image}
use Rattle.page_view.specs.Keys.{keys_of}
use Rattle.page_view.proofs.SearchLaws.{child_found}
use Rattle.page_view.proofs.inner.InnerView.child_for.Goals as goal

pub returns-in-Ok : goal.returns-in-Ok
returns-in-Ok c =
    let Found : Image → Type 0 = λ im. slice_get (keys_of im.items) c.in-Ok.place ≡ Some c.args.key.now in
    child_found (keys_of c.args.self.now.items) c.args.key.now c.in-Ok.place c.requires.ascend (subst Found c.self.view_is c.in-Ok.ensures)
