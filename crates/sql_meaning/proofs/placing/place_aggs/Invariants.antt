use Rattle.std.proofs.Common.{◌≡◌, map, take}
use Rattle.sql_meaning.specs.Places.{placed_agg}
use Rattle.sql_meaning.proofs.placing.place_aggs.Given as goal

abbrev pub invariant-loop-agg : goal.invariant-loop-agg
invariant-loop-agg l = l.totals ≡ map (placed_agg l.fields) (take l.agg-index l.agg-items)
