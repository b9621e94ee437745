use Rattle.home_tables.specs.Losing.{lost_on}
use Rattle.home_tables.proofs.Passing.{BecomeTo}
use Rattle.home_tables.proofs.home.Home.drop_slab.Given as goal

abbrev pub invariant-loop-place : goal.invariant-loop-place
invariant-loop-place l = BecomeTo l.initial.self l.self (lost_on l.slab) l.place
