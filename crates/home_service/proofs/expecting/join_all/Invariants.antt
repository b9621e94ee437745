use Rattle.std.proofs.Common.{◌<◌, ℕ, [], get_or}
use Rattle.home_service.specs.Keeping.{Includes}
use Rattle.home_service.proofs.expecting.join_all.Given as goal

abbrev pub invariant-loop-set : goal.invariant-loop-set
invariant-loop-set l = record {
  old : Includes l.nodes l.initial.nodes;
  each : (i : ℕ) → i < l.set-index → Includes l.nodes (get_or l.sets i []);
}
