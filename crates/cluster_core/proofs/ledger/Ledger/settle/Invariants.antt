use Rattle.std.specs.Prelude.{◌≡◌, length}
use Rattle.cluster_core.specs.Ledgers.{IsCounted, account_of, settled}
use Rattle.cluster_core.proofs.ledger.Ledger.settle.Given as goal

abbrev pub invariant-loop-self : goal.invariant-loop-self
invariant-loop-self l =
    (settled l.tail (account_of l.self) ≡ settled l.tail (account_of l.initial.self)) × IsCounted (account_of l.self)

abbrev pub decreases-loop-self : goal.decreases-loop-self
decreases-loop-self l = length (account_of l.self).queue
