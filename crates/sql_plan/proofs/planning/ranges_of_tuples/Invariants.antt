use Rattle.std.proofs.Common.{◌≡◌, take}
use Rattle.std.specs.List.{flat_map}
use Rattle.sql_meaning.specs.Ranges as spec
use Rattle.sql_plan.proofs.planning.ranges_of_tuples.Given as goal

-- the ranges of the tuples before the one at hand
abbrev pub invariant-loop-tuple : goal.invariant-loop-tuple
invariant-loop-tuple l = l.ranges ≡ flat_map (spec.tuple_range l.key) (take l.tuple-index l.tuples)
