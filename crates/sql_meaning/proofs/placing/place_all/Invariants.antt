use Rattle.std.proofs.Common.{◌≡◌, map, take}
use Rattle.sql_meaning.specs.Places.{placed}
use Rattle.sql_meaning.proofs.placing.place_all.Given as goal

abbrev pub invariant-loop-expr : goal.invariant-loop-expr
invariant-loop-expr l = l.items ≡ map (placed l.fields) (take l.expr-index l.expr-items)
