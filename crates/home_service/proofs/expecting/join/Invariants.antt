use Rattle.std.proofs.Common.{◌≡◌, ◌||◌, ℕ, take}
use Rattle.page_latches.specs.Set.{has}
use Rattle.home_service.proofs.expecting.join.Given as goal

abbrev pub invariant-loop-node : goal.invariant-loop-node
invariant-loop-node l = (n : ℕ) → has l.nodes n ≡ (has l.initial.nodes n || has (take l.node-index l.node-items) n)
