-- Stated: bytes cut into chunks of one size.
use Rattle.std.specs.Prelude.{◌≡◌, ◌<◌, ℕ, List, length}
use Rattle.rm_base.specs.declared.limits.TheConstants.{LOG_CHUNK_BYTES}
use Rattle.std.specs.List.{AllByRecursion}

-- each chunk is full
abbrev pub AreFull : List (List ℕ) → Type 0
AreFull chunks = AllByRecursion (λ chunk. length chunk ≡ LOG_CHUNK_BYTES) chunks

-- full chunks, and an open one with room left
pub record AreChunks (full : List (List ℕ)) (open_chunk : List ℕ) : Type 0 where
  pub each : AreFull full
  pub room : length open_chunk < LOG_CHUNK_BYTES
