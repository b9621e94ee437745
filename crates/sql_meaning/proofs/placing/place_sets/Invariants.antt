use Rattle.std.proofs.Common.{◌≡◌, map, take}
use Rattle.sql_meaning.specs.Places.{placed_set}
use Rattle.sql_meaning.proofs.placing.place_sets.Given as goal

abbrev pub invariant-loop-set : goal.invariant-loop-set
invariant-loop-set l = l.items ≡ map (placed_set l.fields) (take l.set-index l.set-items)
