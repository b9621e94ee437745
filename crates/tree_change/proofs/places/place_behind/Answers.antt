use Rattle.std.proofs.Common.{◌≡◌, ◌<◌, ◌+◌, length, arith}
use Rattle.page_view.specs.Keys.{keys_of}
use Rattle.tree_change.specs.Places.{not_greater}
use Rattle.tree_change.proofs.PlaceLaws.{not_greater_is, as_many}
use Rattle.tree_change.proofs.places.place_behind.Goals as goal

pub returns-clause-place : goal.returns-clause-place
returns-clause-place c =
    let long : length (keys_of c.args.page.now.items) ≡ length c.args.page.now.items = as_many c.args.page.now.items in
    let within : c.child_in-child.result < length (keys_of c.args.page.now.items) = c.child_in-child.ensures.0 in
    let is : not_greater c.args.key.now c.args.page.now.items ≡ c.child_in-child.result + 1 =
    not_greater_is c.args.key.now c.args.page.now.items c.child_in-child.result c.requires.ascend c.child_in-child.ensures in
    omega arith
