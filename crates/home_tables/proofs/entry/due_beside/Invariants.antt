use Rattle.std.proofs.Common.{◌≡◌, ℕ, ◌&&◌, not, nat_eq, take}
use Rattle.page_latches.specs.Set.{has}
use Rattle.home_tables.proofs.entry.due_beside.Given as goal

abbrev pub invariant-loop-node : goal.invariant-loop-node
invariant-loop-node l = (m : ℕ) → has l.due m ≡ (has (take l.node-index l.node-items) m && not (nat_eq m l.changer) && has l.fresh m)
