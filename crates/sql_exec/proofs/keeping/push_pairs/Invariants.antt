use Rattle.std.proofs.Common.{◌≡◌, ◌++◌, map, take}
use Rattle.sql_exec.proofs.keeping.push_pairs.Given as goal

abbrev pub invariant-loop-right : goal.invariant-loop-right
invariant-loop-right l = l.joined ≡ l.initial.joined ++ map (λ r. l.left ++ r) (take l.right-index l.right-items)
