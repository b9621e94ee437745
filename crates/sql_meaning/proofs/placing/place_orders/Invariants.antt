use Rattle.std.proofs.Common.{◌≡◌, map, take}
use Rattle.sql_meaning.specs.Places.{placed_order}
use Rattle.sql_meaning.proofs.placing.place_orders.Given as goal

abbrev pub invariant-loop-key : goal.invariant-loop-key
invariant-loop-key l = l.places ≡ map (placed_order l.fields) (take l.key-index l.key-items)
