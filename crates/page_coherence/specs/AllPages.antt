-- For the proofs: what holds of the whole cluster in every state that is reached.
use Rattle.std.specs.Prelude.{ℕ}
use Rattle.page_coherence.specs.Coherence.{OneMemory}
use Rattle.page_coherence.specs.Invariant.{Holds}
use Rattle.page_coherence.specs.Cluster.{State}

pub record AllHold (s : State) : Type 0 where
  pub pages : (p : ℕ) → Holds s.mode s.rw s.watermark (s.page p)
  pub memory : OneMemory s.slots s.page
