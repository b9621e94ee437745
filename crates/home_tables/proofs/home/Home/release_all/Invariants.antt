use Rattle.home_tables.specs.Losing.{kept_from}
use Rattle.home_tables.proofs.Passing.{BecomeTo}
use Rattle.home_tables.proofs.home.Home.release_all.Given as goal

abbrev pub invariant-loop-place : goal.invariant-loop-place
invariant-loop-place l = BecomeTo l.initial.self l.self (kept_from l.node) l.place
