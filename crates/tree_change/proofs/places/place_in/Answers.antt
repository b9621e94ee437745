use Rattle.std.proofs.Common.{◌≡◌, ◌≤◌, ◌<◌, length, arith}
use Rattle.std.proofs.lemmas.Option.{slice_get_within}
use Rattle.page_view.specs.Keys.{keys_of}
use Rattle.tree_change.specs.Places.{lesser}
use Rattle.tree_change.proofs.PlaceLaws.{lesser_found, lesser_absent, as_many}
use Rattle.tree_change.proofs.places.place_in.Goals as goal
use Rattle.tree_change.proofs.places.place_in.Goals.{in-Ok, in-Err}

pub returns-clause-place : goal.returns-clause-place
returns-clause-place c =
    let long : length (keys_of c.args.leaf.now.items) ≡ length c.args.leaf.now.items = as_many c.args.leaf.now.items in
    elim c.match-found_in.branch [
      | in-Ok w ↦
          let is : lesser c.args.key.now c.args.leaf.now.items ≡ w.in-Ok.place =
          lesser_found c.args.key.now c.args.leaf.now.items w.in-Ok.place c.requires.ascend w.in-Ok.ensures in
          let within : w.in-Ok.place < length (keys_of c.args.leaf.now.items) = slice_get_within (keys_of c.args.leaf.now.items) w.in-Ok.place c.args.key.now w.in-Ok.ensures in
          omega arith
      | in-Err w ↦
          let is : lesser c.args.key.now c.args.leaf.now.items ≡ w.in-Err.lesser =
          lesser_absent c.args.key.now c.args.leaf.now.items w.in-Err.lesser w.in-Err.ensures.0 w.in-Err.ensures.1 w.in-Err.ensures.2 in
          let within : w.in-Err.lesser ≤ length (keys_of c.args.leaf.now.items) = w.in-Err.ensures.0 in
          omega arith
    ]
