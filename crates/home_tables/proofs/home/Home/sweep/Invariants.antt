use Rattle.home_tables.specs.Losing.{swept_to}
use Rattle.home_tables.proofs.Passing.{BecomeFrom}
use Rattle.home_tables.proofs.home.Home.sweep.Given as goal

abbrev pub invariant-loop-place : goal.invariant-loop-place
invariant-loop-place l = BecomeFrom l.initial.self l.self (swept_to l.tail) l.place
