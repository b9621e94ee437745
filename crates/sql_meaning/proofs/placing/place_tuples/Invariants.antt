use Rattle.std.proofs.Common.{◌≡◌, map, take}
use Rattle.sql_meaning.specs.Places.{placed_tuple}
use Rattle.sql_meaning.proofs.placing.place_tuples.Given as goal

abbrev pub invariant-loop-row : goal.invariant-loop-row
invariant-loop-row l = l.tuples ≡ map (placed_tuple l.fields l.names) (take l.row-index l.row-items)
