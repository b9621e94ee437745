use Rattle.home_tables.specs.Numbers.{HasNone}
use Rattle.home_tables.proofs.number_set.first_member.Given as goal

abbrev pub invariant-loop-x : goal.invariant-loop-x
invariant-loop-x l = HasNone l.members l.low l.x
