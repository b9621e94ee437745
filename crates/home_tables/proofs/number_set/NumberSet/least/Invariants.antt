use Rattle.std.proofs.Common.{◌*◌}
use Rattle.home_tables.specs.Numbers.{HasNone}
use Rattle.home_tables.proofs.number_set.NumberSet.least.Given as goal

abbrev pub invariant-loop-group : goal.invariant-loop-group
invariant-loop-group l = HasNone l.self (l.set * 32768) (l.group * 128)
