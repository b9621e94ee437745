use Rattle.std.proofs.Common.{◌≡◌, map, take}
use Rattle.sql_meaning.specs.Places.{named_value}
use Rattle.sql_meaning.proofs.placing.place_all_named.Given as goal

abbrev pub invariant-loop-field : goal.invariant-loop-field
invariant-loop-field l = l.items ≡ map (named_value l.names l.tuple) (take l.field-index l.fields)
