-- For the proofs: where another commit can be counted, those that there are are counted.
use Rattle.std.proofs.Common.{◌<◌, ◌+◌, ◌^◌, ◌-◌, ℕ, arith}
use Rattle.std.specs.Prelude.{length}
use Rattle.cluster_core.specs.Ledgers.{Account, HasRoom, IsCounted}

pub counts : (a : Account) → HasRoom a → IsCounted a
counts a h = omega (arith, h)
